use Rattle.std.proofs.Common.{subst, sym}
use Rattle.sw_list.specs.Marks.{KeepsBelow}
use Rattle.sw_caches.proofs.PlanLemmas.{alone}
use Rattle.sw_caches.proofs.plan.add_all.Goals as goal

pub returns-clause-tight : goal.returns-clause-tight
returns-clause-tight c =
    let at = c.loop-item in
    alone at.plan c.args.slots.now at.slots at.invariant.draft (subst (λ n. KeepsBelow n c.args.slots.now at.slots) (sym at.invariant.first) at.invariant.below) c.requires
