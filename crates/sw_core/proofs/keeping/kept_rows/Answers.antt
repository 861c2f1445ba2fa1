use Rattle.sw_core.proofs.Numbers.{one_more}
use Rattle.sw_core.specs.Keeping.{kept_numbered}
use Rattle.sw_core.proofs.keeping.kept_rows.Goals as goal

pub loop-number-preserved : goal.loop-number-preserved
loop-number-preserved c =
    one_more (kept_numbered c.args.workers.now.rows c.args.preloads.now.rows c.args.registrations.now.rows) c.args.numbers.now c.loop-number.number-index _
    c.loop-number.rows.items c.push_kept.new.rows.items c.loop-number-test.true c.loop-number.invariant c.in_ok-push_kept.ensures
