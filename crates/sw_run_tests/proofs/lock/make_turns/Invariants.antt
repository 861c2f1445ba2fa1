use Rattle.sw_lock.specs.Passes.{IsPassOf}
use Rattle.sw_run_tests.proofs.lock.make_turns.Given as goal

abbrev pub invariant-loop-turn : goal.invariant-loop-turn
invariant-loop-turn g l = IsPassOf l.lock l.pass
