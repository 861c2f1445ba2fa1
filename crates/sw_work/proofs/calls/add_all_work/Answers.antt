-- The work of an addAll.
use Rattle.std.proofs.Common.{◌≡◌, true, sym, subst}
use Rattle.sw_rules.specs.Calls.{noted}
use Rattle.sw_rules.specs.State.{State}
use Rattle.sw_rules.specs.Told.{Outcome}
use Rattle.sw_state.proofs.Same.{same_state}
use Rattle.sw_work.specs.Plans.{Means, has_calls_left}
use Rattle.sw_work.proofs.Calling.{made_by_handler}
use Rattle.sw_work.proofs.calls.add_all_work.Goals as goal

pub returns-clause-fits : goal.returns-clause-fits
returns-clause-fits c =
    c.begun_work.ensures.fits c.add_all.new.host c.in_ok-step.ensures.fits
    (subst (λ (s : State). has_calls_left c.args.worker s ≡ true) (sym (same_state c.args.host.now c.add_all.new.host c.add_all.ensures.same)) c.requires.left)

pub returns-clause-means : goal.returns-clause-means
returns-clause-means c =
    subst (λ (o : Outcome). Means c.begun_work.result c.args.host.now (noted o c.args.worker)) (sym c.in_ok-step.ensures.step)
    (c.begun_work.ensures.means c.args.host.now c.args.by (made_by_handler c.args.by c.args.worker c.requires.by))
