use Rattle.std.proofs.Common.{ℕ, subst}
use Rattle.sw_bucket.specs.Bounded.{HasEnded, bounded_way}
use Rattle.sw_bucket.specs.Eviction.{next_forget}
use Rattle.sw_bucket.proofs.run.run_bounded.Goals as goal

pub returns-in-Ok-clause-ended : goal.returns-in-Ok-clause-ended
returns-in-Ok-clause-ended g c =
    subst (λ (limit : ℕ). HasEnded g.D.Disk c.args.start.value c.run_under.new.disk (bounded_way (next_forget limit) c.args.recording c.args.store.now.base) c.args.store.now.base c.in-Ok.history.items c.in-Ok.end)
    c.new-bucket.ensures c.in-Ok.ensures.ended
