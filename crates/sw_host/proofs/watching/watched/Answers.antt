-- A run that has ended is reported as it ended, with its look-ups.
use Rattle.std.proofs.Common.{◌≡◌, ◌++◌, List, subst}
use Rattle.std.specs.Prelude.{IfOk, IsOkAnd}
use Rattle.sw_data.specs.declared.histories.Entry.{Entry}
use Rattle.sw_host.proofs.EndLemmas.{left_by_run}
use Rattle.sw_host.proofs.WatchLemmas.{ends_watched}
use Rattle.sw_host.proofs.watching.watched.Goals as goal
use Rattle.sw_host.specs.Runs.{last_of}
use Rattle.sw_host.specs.Watching.{looks_text}
use Rattle.sw_print.specs.Transcript.{transcript}

pub returns-clause-ends : goal.returns-clause-ends
returns-clause-ends g c = λ origin asked worked answers.
    ends_watched g.D.Disk origin.start c.args.worked.disk origin.passes origin.recording asked (λ seen. seen.items) origin.base c.args.worked.progress.history.items c.args.worked.end
    c.args.looks c.printed_with.result worked.0.0 answers c.printed_with.ensures.status c.printed_with.ensures.some
    (subst
    (λ (entries : List Entry). IfOk c.printed_with.result (λ report. IsOkAnd c.args.looks (λ seen. report.text ≡ transcript entries (last_of c.args.worked.end) ++ looks_text 0 seen.items)))
    c.into_history.ensures c.printed_with.ensures.looks)

pub returns-clause-left : goal.returns-clause-left
returns-clause-left g c = λ origin worked.
    left_by_run g.D.Disk origin.start c.args.worked.disk origin.passes origin.recording c.printed_with.result origin.base c.args.worked.progress.history.items c.args.worked.end worked.0.0
