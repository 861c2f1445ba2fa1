-- The task that was picked is ready, and its event comes next.
use Rattle.std.proofs.Common.{[], refl}
use Rattle.sw_turns.proofs.NextLemmas.{performed_on, picked_task}
use Rattle.sw_turns.proofs.next.due_event.Goals as goal
use Rattle.sw_state.specs.Hosted.{state_of}

pub task_event-requires-clause-ready : goal.task_event-requires-clause-ready
task_event-requires-clause-ready c = picked_task (state_of c.args.core.now) [] c.args.lanes.now c.args.task c.requires.picked

pub returns : goal.returns
returns c = record {
  next =
      performed_on c.task_event.result 1 c.args.net.now (state_of c.args.core.now) [] c.args.lanes.now c.args.task
      c.requires.coherent (λ one. refl) c.requires.picked c.task_event.ensures.event;
}
