-- A disk that was not opened is refused as its error tells; one on which no recording was begun has no report.
use Rattle.std.proofs.Common.{◌≡◌, Result, Ok, Err, refl}
use Rattle.std.specs.Prelude.{IfErr, IfOk, IsErr}
use Rattle.sw_host.proofs.EndLemmas.{refused}
use Rattle.sw_host.proofs.watching.open_watched.Goals as goal
use Rattle.sw_host.specs.declared.report.Report.{Report}
use Rattle.sw_host.specs.Stands.{WatchesOn}
use Rattle.sw_host.specs.Watching.{EndsWatched}

unreported : {U E : Type 0} (P : U → Type 0) (result : Result U E) → IsErr result → IfOk result P
unreported P (Ok value) is = absurd cc
unreported P (Err why) is = tt

unbegun : {T U E D : Type 0} (P : D → U → Type 0) (now : D) (result : Result T (Result U E × D)) → IfErr result (λ unrun. IsErr unrun.0 × (unrun.1 ≡ now)) → IfErr result (λ unrun. IfOk unrun.0 (P unrun.1))
unbegun P now (Ok value) lack = tt
unbegun P now (Err unrun) lack = unreported (P unrun.1) unrun.0 lack.0

pub returns-in-Ok-clause-watches : goal.returns-in-Ok-clause-watches
returns-in-Ok-clause-watches g c = λ asked.
    unbegun (λ (now : g.row.D.Denot) (report : Report). WatchesOn g.D.Disk c.args.disk now c.args.workers c.args.recording asked report.status report.text) c.reopen.new.disk c.begin_watched.result c.begin_watched.ensures.lack

pub returns-in-Err-clause-watches : goal.returns-in-Err-clause-watches
returns-in-Err-clause-watches g c = λ asked.
    refused g.D.Disk c.args.disk c.reopen.new.disk (EndsWatched g.D.Disk c.args.disk c.reopen.new.disk c.args.workers c.args.recording asked) (Err c.in-Err.error) c.in-Err.error c.unopened.result refl
    c.in-Err.ensures.not_formatted c.in-Err.ensures.bad c.in-Err.ensures.full c.in-Err.ensures.fault c.in-Err.ensures.unopened c.unopened.ensures
