-- The addAll is there, since it has a key.
use Rattle.std.proofs.Common.{◌∙◌, Some, ap}
use Rattle.sw_audit.proofs.Found.{added_there}
use Rattle.sw_data.specs.declared.events.Event.{Event}
use Rattle.sw_rules.specs.Rows.{task_row}
use Rattle.sw_state.specs.Hosted.{state_of}
use Rattle.sw_audit.proofs.taking.added_event.Goals as goal

pub returns-in_ok-added-in-Some : goal.returns-in_ok-added-in-Some
returns-in_ok-added-in-Some c = λ recording same.
    ap (λ (e : Event). Some e) (c.in_ok-added-in-Some.ensures recording same)
    ∙ added_there recording c.args.task c.in-Some.field-0.now (task_row (state_of c.args.core.now) c.args.task) c.in-Some.ensures
