use Rattle.std.proofs.Common.{arith}
use Rattle.std.proofs.lemmas.Grind.{common_steps}
use Rattle.sw_next.proofs.Left.{task_ready}
use Rattle.sw_lane.specs.Picked.{in_flight}
use Rattle.sw_state.specs.Hosted.{state_of}
use Rattle.sw_next.proofs.tasks.next_task.Goals as goal

pub returns-in-Some : goal.returns-in-Some
returns-in-Some c =
    let is = task_ready (state_of c.args.host.now) (in_flight c.args.flights.now) c.requires in
    grind (arith, common_steps, is)

pub returns-in-None : goal.returns-in-None
returns-in-None c =
    let is = task_ready (state_of c.args.host.now) (in_flight c.args.flights.now) c.requires in
    grind (arith, common_steps, is)
