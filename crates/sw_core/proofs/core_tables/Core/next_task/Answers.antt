use Rattle.std.proofs.Common.{◌≡◌, subst}
use Rattle.sw_lane.specs.Picked.{in_flight, task_left}
use Rattle.sw_state.specs.Hosted.{Hosted, state_of}
use Rattle.sw_core.proofs.core_tables.Core.next_task.Goals as goal

pub returns : goal.returns
returns c = subst (λ (h : Hosted). c.next_task.result ≡ task_left (state_of h) (in_flight c.args.flights.now)) c.self.view_is c.next_task.ensures
