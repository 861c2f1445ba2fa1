-- A recording that was taken up with look-ups is reported as it has ended.
use Rattle.sw_host.proofs.WatchLemmas.{left_on, watches_on}
use Rattle.sw_host.proofs.watching.watch_for.Goals as goal

pub returns-in-Ok-clause-watches : goal.returns-in-Ok-clause-watches
returns-in-Ok-clause-watches g c =
    let origin = c.in-Ok.yard.origin in
    watches_on g.D.Disk c.args.disk c.watched.result.1 c.args.workers c.args.recording origin c.in-Ok.ensures.origin c.args.asked.now c.watched.result.0
    (c.watched.ensures.ends origin c.args.asked.now c.work_watched-worked.ensures.worked c.work_watched-worked.ensures.answers)

pub returns-in-Ok-clause-left : goal.returns-in-Ok-clause-left
returns-in-Ok-clause-left g c =
    let origin = c.in-Ok.yard.origin in
    left_on g.D.Disk c.args.disk c.watched.result.1 c.args.workers c.args.recording origin c.in-Ok.ensures.origin c.watched.result.0
    (c.watched.ensures.left origin c.work_watched-worked.ensures.worked)

pub returns-in-Err-clause-watches : goal.returns-in-Err-clause-watches
returns-in-Err-clause-watches g c = c.in-Err.ensures.watches c.args.asked.now
