use Rattle.std.proofs.Common.{sym, subst}
use Rattle.std.proofs.lemmas.Result.{IfOk-weaker}
use Rattle.sw_rules.specs.Told.{Outcome}
use Rattle.sw_work.specs.Plans.{Means}
use Rattle.sw_prepare.proofs.Begun.{same_twice}
use Rattle.sw_prepare.proofs.lanes.work_of_add_all.Goals as goal

pub returns-clause-same : goal.returns-clause-same
returns-clause-same c = same_twice c.args.host.now c.add_all_at.new.host c.begun.new.host c.add_all_at.ensures.same c.begun.ensures.same

pub returns-clause-means : goal.returns-clause-means
returns-clause-means c =
    IfOk-weaker c.begun.result _ _
    (λ work means. subst (λ (o : Outcome). Means work c.args.host.now o) (sym c.in_ok-step.ensures.step) (means c.args.host.now))
    c.begun.ensures.means
