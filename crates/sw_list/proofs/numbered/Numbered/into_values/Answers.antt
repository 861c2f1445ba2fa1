use Rattle.std.proofs.Common.{◌≡◌, ◌∙◌, ap}
use Rattle.std.specs.List.{flat_map}
use Rattle.std.specs.Map.{values_of}
use Rattle.std.specs.Option.{option_to_list}
use Rattle.std.proofs.lemmas.Result.{IfOk-weaker}
use Rattle.sw_list.specs.Numbers.{Numbers}
use Rattle.sw_list.proofs.Places.{values_there}
use Rattle.sw_list.proofs.numbered.Numbered.into_values.Goals as goal

pub returns : goal.returns
returns g c =
    let slots = c.self.inside.slots.items in
    IfOk-weaker c.values_in.result (λ values. values.items ≡ flat_map (λ slot. option_to_list slot.value) slots) (λ values. values.items ≡ values_of c.args.self.rows)
    (λ values is. is ∙ (values_there slots ∙ ap (λ (n : Numbers g.row.V.Denot). values_of n.rows) c.self.view_is)) c.values_in.ensures
