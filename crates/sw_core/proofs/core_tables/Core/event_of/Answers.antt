use Rattle.std.proofs.Common.{◌≡◌, true, Some, subst, sym}
use Rattle.std.specs.Prelude.{IfOk, IfSome}
use Rattle.std.specs.List.{list_any}
use Rattle.sw_data.specs.declared.recordings.Recording.{Recording}
use Rattle.sw_lane.specs.Picked.{is_task}
use Rattle.sw_rules.specs.Tasks.{event_of, ready_tasks}
use Rattle.sw_state.specs.Hosted.{Hosted, state_of}
use Rattle.sw_core.proofs.core_tables.Core.event_of.Goals as goal

pub event_of-requires : goal.event_of-requires
event_of-requires c = record {
  ready = subst (λ (h : Hosted). list_any (is_task c.args.task) (ready_tasks (state_of h)) ≡ true) (sym c.self.view_is) c.requires.ready;
}

pub returns-clause-event : goal.returns-clause-event
returns-clause-event c =
    subst (λ (h : Hosted). IfOk c.event_of.result (λ event. IfSome event (λ happened. (recording : Recording) → event_of recording (state_of h) c.args.task ≡ Some happened)))
    c.self.view_is c.event_of.ensures.event
