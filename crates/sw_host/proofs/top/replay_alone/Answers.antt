-- The source has the bytes, and no more than a recording may have.
use Rattle.sw_host.proofs.EndLemmas.{leaves, leaves_source}
use Rattle.sw_host.proofs.top.replay_alone.Goals as goal

pub returns-in-Ok-clause-no_memory : goal.returns-in-Ok-clause-no_memory
returns-in-Ok-clause-no_memory g c =
    let taken = c.in-Ok.ensures.origin in
    leaves_source g.D.Disk c.args.disk c.reported.result.1 c.args.bytes.now c.if-bytes-gt-RECORDING_LIMIT.false c.reported.result.0
    (leaves g.D.Disk c.args.disk 1 c.args.bytes.now taken.0 taken.1 c.reported.result.1 c.in-Ok.yard.origin taken.2 c.reported.result.0
    (c.reported.ensures.left c.in-Ok.yard.origin c.work_alone.ensures))
