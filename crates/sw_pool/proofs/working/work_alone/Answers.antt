-- What the steps have made is of the run that they began with.
use Rattle.std.proofs.Common.{subst}
use Rattle.sw_pool.proofs.working.work_alone.Goals as goal
use Rattle.sw_pool.specs.Yards.{IsWorked, Origin}

pub returns : goal.returns
returns g c =
    subst (λ (origin : Origin g.row.D.Denot). IsWorked g.D.Disk origin c.end_of.result.disk c.end_of.result.progress c.end_of.result.end) c.drive_alone.ensures
    c.end_of.ensures.worked
