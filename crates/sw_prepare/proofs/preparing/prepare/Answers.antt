use Rattle.sw_prepare.proofs.Meanings.{planned_means}
use Rattle.sw_state.proofs.Same.{same_state}
use Rattle.sw_rules.specs.Step.{step}
use Rattle.sw_state.specs.Hosted.{state_of}
use Rattle.sw_prepare.proofs.preparing.prepare.Goals as goal

pub returns-in_err-work-clause-same : goal.returns-in_err-work-clause-same
returns-in_err-work-clause-same c = same_state c.args.host.now c.work_of.new.host c.work_of.ensures.same

pub returns-clause-same : goal.returns-clause-same
returns-clause-same c = same_state c.args.host.now c.work_of.new.host c.work_of.ensures.same

pub returns-clause-means : goal.returns-clause-means
returns-clause-means c =
    planned_means c.args.host.now c.work_of.new.host (step (state_of c.args.host.now) c.args.event.now) c.in_ok-work.work c.planned.result c.work_of.ensures.same
    c.in_ok-work.ensures.works c.planned.ensures
