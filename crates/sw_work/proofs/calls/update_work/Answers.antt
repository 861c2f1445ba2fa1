-- The work of an update.
use Rattle.std.proofs.Common.{sym, subst}
use Rattle.sw_pages.specs.Acts.{outcome_of}
use Rattle.sw_pages.specs.declared.worked.Worked.{Worked}
use Rattle.sw_rules.specs.Calls.{noted, update_own}
use Rattle.sw_rules.specs.Rows.{worker_row}
use Rattle.sw_rules.specs.Told.{Outcome}
use Rattle.sw_state.specs.Hosted.{state_of}
use Rattle.sw_work.specs.Plans.{Means}
use Rattle.sw_work.proofs.Calling.{some_weaker, update_fits}
use Rattle.sw_work.proofs.calls.update_work.Goals as goal

pub returns-clause-fits : goal.returns-clause-fits
returns-clause-fits c =
    c.page_work.ensures.fits c.schedule_asked.new.host
    (update_fits c.args.host.now c.schedule_asked.new.host c.args.worker c.in_ok-job.job c.in_ok-worked.worked c.schedule_asked.ensures.same c.in_ok-job.ensures.next c.in_ok-worked.ensures.worked
    c.in_ok-worked.ensures.fits c.requires.left)

pub returns-clause-means : goal.returns-clause-means
returns-clause-means c by is =
    let state = state_of c.args.host.now in
    let means =
    subst (λ (w : Worked). Means c.page_work.result c.args.host.now (noted (outcome_of by w state) c.args.worker)) c.in_ok-worked.ensures.worked
    (c.page_work.ensures.means c.args.host.now by is) in
    some_weaker (worker_row state c.args.worker) _ (λ row. Means c.page_work.result c.args.host.now (noted (update_own state by row c.args.phase) c.args.worker))
    (λ row gives. subst (λ (o : Outcome). Means c.page_work.result c.args.host.now (noted o c.args.worker)) (sym (gives by)) means)
    c.in_ok-job.ensures.gives
