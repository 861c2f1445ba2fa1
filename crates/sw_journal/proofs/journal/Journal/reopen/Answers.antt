use Rattle.sw_journal.proofs.ReadLemmas.{sure_since}
use Rattle.sw_journal.proofs.journal.Journal.reopen.Goals as goal

pub returns-clause-first : goal.returns-clause-first
returns-clause-first g c fine =
    sure_since g.D.Disk c.args.disk.now c.sync.new.self c.reopen_synced.new.disk c.sync.ensures.time c.in-Ok.ensures.durable c.reopen_synced.ensures.quiet
    (λ f going left. g.met.D.Disk.only_now c.sync.new.self f going left)
