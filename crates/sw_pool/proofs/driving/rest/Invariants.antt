use Rattle.std.proofs.Common.{◌≡◌}
use Rattle.sw_lock.specs.Passes.{IsPassOf, number}
use Rattle.sw_pool.proofs.driving.rest.Given as goal

abbrev pub invariant-loop : goal.invariant-loop
invariant-loop g l = record {
  pass : IsPassOf l.lock l.pass;
  number : number l.pass ≡ number l.initial.pass;
}
