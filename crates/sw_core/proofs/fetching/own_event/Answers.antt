-- The event is that of the task, whatever recording has these lines.
use Rattle.std.proofs.Common.{◌≡◌, Option, Some, subst}
use Rattle.std.specs.Option.{IfSome}
use Rattle.sw_data.specs.declared.events.Event.{Event}
use Rattle.sw_data.specs.declared.recordings.Recording.{Recording}
use Rattle.sw_rules.specs.Tasks.{event_of}
use Rattle.sw_state.specs.Hosted.{state_of}
use Rattle.sw_core.proofs.fetching.own_event.Goals as goal

pub returns-in-Some : goal.returns-in-Some
returns-in-Some c = λ recording same.
    subst (λ (event : Option Event). IfSome event (λ happened. (any : Recording) → event_of any (state_of c.args.core.now) c.args.task ≡ Some happened))
    c.in-Some.is c.in_ok-event-in-Run.ensures.event recording
