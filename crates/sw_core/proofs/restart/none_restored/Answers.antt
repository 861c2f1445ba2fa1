use Rattle.sw_core.proofs.Adding.{nothing_restored}
use Rattle.sw_core.proofs.restart.none_restored.Goals as goal

pub returns-clause-restored : goal.returns-clause-restored
returns-clause-restored c =
    nothing_restored _ c.new-2.ensures.rows c.new-2.ensures.events c.new-3.ensures c.new-4.ensures.rows c.new.ensures
