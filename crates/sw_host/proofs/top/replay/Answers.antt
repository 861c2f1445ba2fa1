-- A recording that was taken up is replayed as it has ended.
use Rattle.sw_host.proofs.EndLemmas.{leaves, replays}
use Rattle.sw_host.proofs.top.replay.Goals as goal

pub returns-in-Ok-clause-replays : goal.returns-in-Ok-clause-replays
returns-in-Ok-clause-replays g c =
    let taken = rw c.as_bytes.ensures at c.in-Ok.ensures.origin in
    replays g.D.Disk c.args.disk c.args.workers c.args.bytes taken.0 taken.1 c.reported.result.1 c.in-Ok.yard.origin taken.2 c.reported.result.0
    (c.reported.ensures.ends c.in-Ok.yard.origin c.work.ensures)

pub returns-in-Ok-clause-no_memory : goal.returns-in-Ok-clause-no_memory
returns-in-Ok-clause-no_memory g c =
    let taken = rw c.as_bytes.ensures at c.in-Ok.ensures.origin in
    leaves g.D.Disk c.args.disk c.args.workers c.args.bytes taken.0 taken.1 c.reported.result.1 c.in-Ok.yard.origin taken.2 c.reported.result.0
    (c.reported.ensures.left c.in-Ok.yard.origin c.work.ensures)
