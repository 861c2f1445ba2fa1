-- What has come of a recording with look-ups is so of its bytes.
use Rattle.sw_host.proofs.WatchLemmas.{leaves_bytes, watches_bytes}
use Rattle.sw_host.proofs.watching.watch.Goals as goal

pub returns-in-Ok-clause-watches : goal.returns-in-Ok-clause-watches
returns-in-Ok-clause-watches g c =
    watches_bytes g.D.Disk c.args.disk c.watch_on.result.1 c.args.workers c.args.bytes c.in-Ok.watched (rw c.as_bytes.ensures at c.in-Ok.ensures) c.watch_on.result.0 c.watch_on.ensures.watches

pub returns-in-Ok-clause-no_memory : goal.returns-in-Ok-clause-no_memory
returns-in-Ok-clause-no_memory g c =
    leaves_bytes g.D.Disk c.args.disk c.watch_on.result.1 c.args.workers c.args.bytes c.in-Ok.watched (rw c.as_bytes.ensures at c.in-Ok.ensures) c.watch_on.result.0 c.watch_on.ensures.left
