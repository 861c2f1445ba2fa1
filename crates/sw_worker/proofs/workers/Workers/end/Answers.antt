use Rattle.std.proofs.Common.{ℕ, ◌∙◌, ◌-◌, slice_set, subst, sym}
use Rattle.sw_worker.specs.Kept.{IndexesWorkers}
use Rattle.sw_worker.proofs.Events.{kept_ended}
use Rattle.sw_worker.proofs.workers.Workers.end.Goals as goal

pub invariant_of-self : goal.invariant_of-self
invariant_of-self c =
    let counts = c.self.inside.counts.items in
    let found = sym (c.copied.ensures ∙ c.get.ensures) ∙ c.in-Some.is in
    subst (λ (n : ℕ). IndexesWorkers c.self.inside.rows.items (slice_set counts c.in-Some.worker (n - 1)) c.remove.new.self.entries c.self.inside.activating.flags)
    (sym c.index_mut.ensures.value)
    (kept_ended c.self.inside.rows.items counts c.self.inside.events.entries c.remove.new.self.entries c.self.inside.activating.flags c.args.event
    c.in-Some.worker c.index_mut.result.now c.self.invariant found c.remove.ensures.entries c.remove.ensures.apart)
