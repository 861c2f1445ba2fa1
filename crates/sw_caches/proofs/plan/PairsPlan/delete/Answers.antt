use Rattle.std.proofs.Common.{sym, ◌∙◌}
use Rattle.sw_caches.specs.Entries.{pairs}
use Rattle.sw_caches.proofs.BatchLemmas.{delete_step}
use Rattle.sw_caches.proofs.plan.PairsPlan.delete.Goals as goal

pub returns-clause-ok : goal.returns-clause-ok
returns-clause-ok c old rest =
    let plan = c.args.self.now in
    rw c.in_ok-push.ensures.items (delete_step plan.deletes.items (pairs plan.added.items) old c.args.at c.args.request c.args.options rest
    (sym c.finds_nothing.ensures ∙ c.if-finds_nothing.false) (sym (rw c.deref.ensures.value at c.has_matching.ensures) ∙ c.if-has_matching.false))
