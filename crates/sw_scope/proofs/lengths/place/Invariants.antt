use Rattle.std.proofs.Common.{◌≡◌, ◌+◌, drop}
use Rattle.sw_scope.specs.Counted.{place_of, stands}
use Rattle.sw_scope.proofs.lengths.place.Given as goal

abbrev pub invariant-loop-at : goal.invariant-loop-at
invariant-loop-at l = record {
  place : l.at + place_of (drop l.at l.lengths) l.own ≡ place_of l.lengths l.own;
  same : stands (drop l.at l.lengths) l.own ≡ stands l.lengths l.own;
}
