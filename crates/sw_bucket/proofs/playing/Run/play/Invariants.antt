use Rattle.std.proofs.Common.{◌≡◌, ◌+◌, ◌-◌, ◌^◌, length}
use Rattle.sw_bucket.proofs.playing.Run.play.Given as goal
use Rattle.sw_bucket.specs.Running.{IsPlaying, Origin}

abbrev pub invariant-events : goal.invariant-events
invariant-events g l = record {
  goes : (origin : Origin g.row.D.Denot) → IsPlaying g.D.Disk g.B.Bound l.initial.disk l.initial.bound origin l.initial.self l.initial.store
      → IsPlaying g.D.Disk g.B.Bound l.disk l.bound origin l.self l.store;
  same : g.B.Bound.forgets l.bound ≡ g.B.Bound.forgets l.initial.bound;
}

abbrev pub decreases-events : goal.decreases-events
decreases-events g l = 2 ^ 32 + 1 - length l.self.history.items
