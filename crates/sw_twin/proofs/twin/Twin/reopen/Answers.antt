use Rattle.sw_journal.proofs.ReadLemmas.{quiet_then, sure_since}
use Rattle.sw_twin.proofs.twin.Twin.reopen.Goals as goal

pub returns-clause-first : goal.returns-clause-first
returns-clause-first g c fine =
    let synced = c.sync.new.self in
    let end = c.reopen_synced.new.disk in
    sure_since g.D.Disk c.args.disk.now synced end c.sync.ensures.time c.in-Ok.ensures.durable
    (quiet_then g.D.Disk synced c.count_ones.new.disk end c.count_ones.ensures.quiet c.reopen_synced.ensures.quiet)
    (λ f going left. g.met.D.Disk.only_now synced f going left)
