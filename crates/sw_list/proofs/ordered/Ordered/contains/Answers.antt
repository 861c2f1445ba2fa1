use Rattle.std.proofs.Common.{◌∙◌, ap, is_some, nat_eq}
use Rattle.std.specs.Map.{lookup}
use Rattle.sw_list.specs.Sequence.{Sequence}
use Rattle.sw_list.proofs.StampRows.{same_found}
use Rattle.sw_list.proofs.ordered.Ordered.contains.Goals as goal

pub returns : goal.returns
returns g c =
    c.contains_key.ensures ∙ (ap is_some (c.self.invariant.found c.args.number) ∙ (same_found c.self.inside.rows.rows c.args.number
    ∙ ap (λ (o : Sequence g.row.V.Denot). is_some (lookup (nat_eq c.args.number) o.entries)) c.self.view_is))
