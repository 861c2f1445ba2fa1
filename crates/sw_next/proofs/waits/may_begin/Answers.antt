use Rattle.std.proofs.Common.{◌∙◌, sym}
use Rattle.sw_next.proofs.Boards.{begins}
use Rattle.sw_state.specs.Hosted.{state_of}
use Rattle.sw_next.proofs.waits.may_begin.Goals as goal

pub returns-in-Some-controller : goal.returns-in-Some-controller
returns-in-Some-controller c event =
    c.may_begin_on.ensures event
    ∙ begins (state_of c.args.host.now) c.args.client event c.in-Some.row.now c.in-Some-controller.worker (sym c.in-Some.ensures) c.in-Some-controller.is
