use Rattle.std.proofs.Common.{◌∙◌, ap}
use Rattle.std.specs.Prelude.{is_some}
use Rattle.std.specs.List.{list_any}
use Rattle.sw_list.specs.Named.{is_at}
use Rattle.sw_sizes.proofs.RowLemmas.{there}
use Rattle.sw_sizes.proofs.sizes.Sizes.has.Goals as goal

pub returns : goal.returns
returns c =
    let key = c.args.key.now in
    let scope = c.args.scope.now in
    c.is_some.ensures ∙ (ap is_some c.place.ensures ∙ (there key scope c.self.inside.rows.rows ∙ ap (list_any (is_at key scope)) c.self.view_is))
