-- A disk that was opened is run on, and one that was not is refused as its error tells.
use Rattle.std.proofs.Common.{Err, refl, subst}
use Rattle.std.specs.Prelude.{IfOk, OnErr}
use Rattle.sw_host.proofs.BoundLemmas.{bounds_on, left_unopened}
use Rattle.sw_host.proofs.EndLemmas.{refused}
use Rattle.sw_host.proofs.bounding.bound_on.Goals as goal
use Rattle.sw_host.specs.Bounding.{EndsBounded}
use Rattle.sw_host.specs.Stands.{IsLeftBounded}

pub returns-in-Ok-clause-bounds : goal.returns-in-Ok-clause-bounds
returns-in-Ok-clause-bounds g c =
    bounds_on g.D.Disk c.args.disk c.run_within.new.disk c.args.limit c.args.recording c.run_within.result
    (subst (λ (start : g.row.D.Denot). IfOk c.run_within.result (λ report. EndsBounded g.D.Disk start c.run_within.new.disk c.args.limit c.args.recording report.status report.text))
    c.of-start.ensures c.run_within.ensures.ends)

pub returns-in-Ok-clause-left : goal.returns-in-Ok-clause-left
returns-in-Ok-clause-left g c =
    subst (λ (start : g.row.D.Denot). OnErr c.run_within.result (IsLeftBounded g.D.Disk start c.run_within.new.disk c.args.limit c.args.recording)) c.of-start.ensures c.run_within.ensures.left

pub returns-in-Err-clause-bounds : goal.returns-in-Err-clause-bounds
returns-in-Err-clause-bounds g c =
    refused g.D.Disk c.args.disk c.reopen.new.disk (EndsBounded g.D.Disk c.args.disk c.reopen.new.disk c.args.limit c.args.recording) (Err c.in-Err.error) c.in-Err.error c.unopened.result refl
    c.in-Err.ensures.not_formatted c.in-Err.ensures.bad c.in-Err.ensures.full c.in-Err.ensures.fault c.in-Err.ensures.unopened c.unopened.ensures

pub returns-in-Err-clause-left : goal.returns-in-Err-clause-left
returns-in-Err-clause-left g c = left_unopened g.D.Disk c.args.disk c.reopen.new.disk c.args.limit c.args.recording c.unopened.result c.in-Err.ensures.unopened
