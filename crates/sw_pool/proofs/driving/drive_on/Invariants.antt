use Rattle.std.proofs.Common.{◌≡◌}
use Rattle.sw_lock.specs.Passes.{IsPassOf, number}
use Rattle.sw_pool.proofs.driving.drive_on.Given as goal

abbrev pub invariant-turns : goal.invariant-turns
invariant-turns g l = record {
  can : (goal.iterator-turns g).can_next l.iterator';
  ends : (goal.iterator-turns g).is_finite l.iterator';
  pass : IsPassOf l.lock l.pass;
  number : number l.pass ≡ number l.initial.pass;
}
