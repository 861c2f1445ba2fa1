use Rattle.std.proofs.Common.{◌∙◌, Some, ap, position}
use Rattle.sw_list.specs.Named.{Listing, is_at}
use Rattle.sw_list.proofs.RowLemmas.{asked_all}
use Rattle.sw_list.proofs.named.Named.place.Goals as goal

pub returns : goal.returns
returns g c =
    let rows = c.self.inside.rows in
    let of = c.self.invariant.0 in
    c.first_asked.ensures
    ∙ (asked_all c.args.key.now (Some c.args.name.now) rows.rows rows.next of.rising of.bounded
    ∙ ap (λ (l : Listing g.row.V.Denot). position (is_at c.args.key.now c.args.name.now) l.rows) c.self.view_is)
