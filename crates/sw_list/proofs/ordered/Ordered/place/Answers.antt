use Rattle.std.proofs.Common.{◌∙◌, ap, nat_eq, position, sym}
use Rattle.std.specs.Map.{keys_of}
use Rattle.std.specs.Option.{option_copied}
use Rattle.sw_list.specs.Sequence.{Sequence}
use Rattle.sw_list.proofs.StampRows.{place_found, place_none}
use Rattle.sw_list.proofs.ordered.Ordered.place.Goals as goal

pub returns-in-Some : goal.returns-in-Some
returns-in-Some g c =
    c.place.ensures
    ∙ (place_found c.self.inside.rows.rows c.self.inside.stamps.entries c.self.inside.rows.next c.args.number c.in-Some.stamp.now c.self.invariant (sym c.get.ensures.value ∙ ap option_copied c.in-Some.is)
    ∙ ap (λ (o : Sequence g.row.V.Denot). position (nat_eq c.args.number) (keys_of o.entries)) c.self.view_is)

pub returns-in-None : goal.returns-in-None
returns-in-None g c =
    place_none c.self.inside.rows.rows c.self.inside.stamps.entries c.self.inside.rows.next c.args.number c.self.invariant (sym c.get.ensures.value ∙ ap option_copied c.in-None.is)
    ∙ ap (λ (o : Sequence g.row.V.Denot). position (nat_eq c.args.number) (keys_of o.entries)) c.self.view_is
