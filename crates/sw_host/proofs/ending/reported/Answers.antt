-- A run that has ended is reported as it ended.
use Rattle.std.proofs.Common.{◌≡◌, List, IfOk, subst}
use Rattle.sw_data.specs.declared.histories.Entry.{Entry}
use Rattle.sw_host.proofs.EndLemmas.{ends_as, left_by_run}
use Rattle.sw_host.proofs.ending.reported.Goals as goal
use Rattle.sw_host.specs.Runs.{last_of}
use Rattle.sw_print.specs.Transcript.{transcript}

pub returns-clause-ends : goal.returns-clause-ends
returns-clause-ends g c = λ origin worked.
    ends_as g.D.Disk origin.start c.args.worked.disk origin.passes origin.recording origin.base c.args.worked.progress.history.items c.args.worked.end c.printed.result worked.0.0
    c.printed.ensures.status c.printed.ensures.some
    (subst (λ (entries : List Entry). IfOk c.printed.result (λ report. report.text ≡ transcript entries (last_of c.args.worked.end))) c.into_history.ensures c.printed.ensures.text)

pub returns-clause-left : goal.returns-clause-left
returns-clause-left g c = λ origin worked.
    left_by_run g.D.Disk origin.start c.args.worked.disk origin.passes origin.recording c.printed.result origin.base c.args.worked.progress.history.items c.args.worked.end worked.0.0
