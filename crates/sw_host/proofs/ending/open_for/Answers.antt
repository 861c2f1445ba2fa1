-- A disk that was not opened is refused as its error tells; one on which no recording was begun is not opened to its end.
use Rattle.std.proofs.Common.{◌≡◌, Err, IfOk, refl, subst}
use Rattle.sw_host.proofs.EndLemmas.{begun, left_unbegun, refused}
use Rattle.sw_host.proofs.ending.open_for.Goals as goal
use Rattle.sw_host.specs.Runs.{EndsAs}
use Rattle.sw_pool.specs.Yards.{origin_of}

pub returns-in-Ok-clause-origin : goal.returns-in-Ok-clause-origin
returns-in-Ok-clause-origin g c =
    begun c.args.disk c.args.workers c.args.recording c.in-Ok.store.base c.begin.result
    (subst (λ (start : g.row.D.Denot). IfOk c.begin.result (λ yard. yard.origin ≡ origin_of c.args.workers c.args.recording c.in-Ok.store.base start)) c.of-start.ensures c.begin.ensures.origin)

pub returns-in-Ok-clause-left : goal.returns-in-Ok-clause-left
returns-in-Ok-clause-left g c =
    left_unbegun g.D.Disk c.args.disk c.reopen.new.disk c.args.workers c.args.recording c.in-Ok.ensures.unopened c.begin.result c.begin.ensures.lack

pub returns-in-Err-clause-replays : goal.returns-in-Err-clause-replays
returns-in-Err-clause-replays g c =
    refused g.D.Disk c.args.disk c.reopen.new.disk (EndsAs g.D.Disk c.args.disk c.reopen.new.disk c.args.workers c.args.recording) (Err c.in-Err.error) c.in-Err.error c.unopened.result refl
    c.in-Err.ensures.not_formatted c.in-Err.ensures.bad c.in-Err.ensures.full c.in-Err.ensures.fault c.in-Err.ensures.unopened c.unopened.ensures
