use Rattle.sw_state.proofs.Beginning.{joined_empty}
use Rattle.sw_state.proofs.tables.HostTables.new.Goals as goal

pub invariant_of-result : goal.invariant_of-result
invariant_of-result c =
    joined_empty _ c.new.ensures c.new-3.ensures.rows c.new-3.ensures.events c.new-4.ensures c.new-5.ensures.rows c.new-9.ensures
