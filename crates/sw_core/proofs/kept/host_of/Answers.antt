use Rattle.std.proofs.Common.{List, subst, sym}
use Rattle.sw_rules.specs.State.{AddAll}
use Rattle.sw_tables.specs.Happened.{CountsTasks}
use Rattle.sw_core.proofs.kept.host_of.Goals as goal

pub invariant_of-result : goal.invariant_of-result
invariant_of-result c = record {
  linked = c.requires.linked;
  counts = subst (λ (rows : List AddAll). CountsTasks c.args.tables.workers rows) (sym c.new-3.ensures) c.requires.counts;
}
