use Rattle.std.proofs.Common.{◌∙◌, ap, slice_get, sym}
use Rattle.std.specs.Map.{keys_of}
use Rattle.sw_list.specs.Sequence.{Sequence}
use Rattle.sw_list.proofs.StampRows.{number_at}
use Rattle.sw_list.proofs.ordered.Ordered.number.Goals as goal

pub returns : goal.returns
returns g c =
    sym (number_at c.self.inside.rows.rows c.args.place c.in_ok-at.field-0.now (sym c.in_ok-at.ensures))
    ∙ ap (λ (o : Sequence g.row.V.Denot). slice_get (keys_of o.entries) c.args.place) c.self.view_is
