-- An object's keys are its members' names.
use Rattle.std.proofs.Common.{◌∙◌}
use Rattle.serde_json.specs.View.{view}
use Rattle.sw_forms.proofs.OnlyListed.{has_only_as_keys}
use Rattle.sw_forms.proofs.members.has_only.Goals as goal

pub returns-in-Some : goal.returns-in-Some
returns-in-Some c =
    c.has_only_keys.ensures
    ∙ has_only_as_keys c.args.names.now (view c.args.value.now) c.in-Some.members.now.entries c.in-Some.ensures
