-- What has come of a recording is so of its bytes.
use Rattle.sw_host.proofs.BoundLemmas.{bounds_bytes, leaves_bytes}
use Rattle.sw_host.proofs.bounding.bound.Goals as goal

pub returns-in-Ok-clause-bounds : goal.returns-in-Ok-clause-bounds
returns-in-Ok-clause-bounds g c =
    bounds_bytes g.D.Disk c.args.disk c.bound_on.result.1 c.args.limit c.args.bytes c.in-Ok.recording (rw c.as_bytes.ensures at c.in-Ok.ensures) c.bound_on.result.0 c.bound_on.ensures.bounds

pub returns-in-Ok-clause-no_memory : goal.returns-in-Ok-clause-no_memory
returns-in-Ok-clause-no_memory g c =
    leaves_bytes g.D.Disk c.args.disk c.bound_on.result.1 c.args.limit c.args.bytes c.in-Ok.recording (rw c.as_bytes.ensures at c.in-Ok.ensures) c.bound_on.result.0 c.bound_on.ensures.left
