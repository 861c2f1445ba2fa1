use Rattle.std.proofs.Common.{◌≡◌, ◌≤◌, ◌+◌, ◌-◌, ◌^◌, true, length}
use Rattle.sw_bucket.proofs.evicting.forget.Given as goal
use Rattle.sw_bucket.specs.Evicting.{AddsForgets, Course, IsBetween}
use Rattle.sw_turns.specs.Surviving.{latest}

abbrev pub invariant-forgets : goal.invariant-forgets
invariant-forgets g l = record {
  goes : (course : Course g.row.D.Denot) → IsBetween g.D.Disk g.B.Bound l.initial.disk l.initial.bound course l.initial.history.items l.initial.store
      → IsBetween g.D.Disk g.B.Bound l.disk l.bound course l.history.items l.store × (l.wrote ≡ true → g.D.Disk.clock l.disk + 7 ≤ latest course.base l.history.items);
  adds : (course : Course g.row.D.Denot) → IsBetween g.D.Disk g.B.Bound l.initial.disk l.initial.bound course l.initial.history.items l.initial.store
      → AddsForgets (g.B.Bound.forgets l.initial.bound) course.base l.initial.history.items l.history.items;
  same : g.B.Bound.forgets l.bound ≡ g.B.Bound.forgets l.initial.bound;
}

abbrev pub decreases-forgets : goal.decreases-forgets
decreases-forgets g l = 2 ^ 32 - length l.history.items
