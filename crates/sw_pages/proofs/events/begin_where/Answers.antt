use Rattle.std.proofs.Common.{◌∙◌}
use Rattle.std.proofs.lemmas.Result.{IfOk-weaker}
use Rattle.sw_pages.proofs.Pending.{begin_here, controller_active}
use Rattle.sw_state.specs.Hosted.{state_of}
use Rattle.sw_pages.proofs.events.begin_where.Goals as goal

pub begin_on-requires : goal.begin_on-requires
begin_on-requires c =
    controller_active c.args.host.now c.args.client c.in-Some-controller.worker c.in-Some.row.now c.requires c.in-Some.ensures c.in-Some-controller.is

pub returns-in-Some-controller-clause-outcome : goal.returns-in-Some-controller-clause-outcome
returns-in-Some-controller-clause-outcome c =
    IfOk-weaker c.begin_on.result _ _
    (λ reply is who.
    is who
    ∙ begin_here (state_of c.args.host.now) c.args.client c.args.event c.in-Some-controller.worker c.in-Some.row.now c.in-Some.ensures c.in-Some-controller.is)
    c.begin_on.ensures.outcome
