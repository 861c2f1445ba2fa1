-- The end that is kept, or else this one.
use Rattle.std.proofs.Common.{sym, subst}
use Rattle.sw_pool.proofs.WorkLemmas.{worked}
use Rattle.sw_pool.proofs.working.end_of.Goals as goal
use Rattle.sw_pool.specs.Yards.{IsWorked}

pub returns-clause-worked : goal.returns-clause-worked
returns-clause-worked g c =
    subst (IsWorked g.D.Disk c.args.yard.origin c.into_parts-disk.result.0 c.into_parts-disk.result.1) (sym c.unwrap_or.ensures)
    (worked g.D.Disk c.args.yard.origin c.into_parts-disk.result.0 c.into_parts-disk.result.1 c.into_parts-disk.ensures.passes
    c.into_parts-disk.result.2 c.args.otherwise c.into_parts-disk.ensures.stands c.requires)
