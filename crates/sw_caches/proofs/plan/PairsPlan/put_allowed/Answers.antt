use Rattle.std.proofs.Common.{sym, ◌∙◌}
use Rattle.sw_caches.specs.Entries.{pairs}
use Rattle.sw_caches.proofs.BatchLemmas.{put_step}
use Rattle.sw_caches.proofs.plan.PairsPlan.put_allowed.Goals as goal

pub returns-clause-ok : goal.returns-clause-ok
returns-clause-ok c old rest =
    let plan = c.args.self.now in
    rw (c.add.ensures.deletes, c.in_ok-add.ensures.added) (put_step plan.deletes.items (pairs plan.added.items) old c.args.at c.args.request c.args.response rest
    c.requires.allowed (sym (rw c.deref.ensures.value at c.has_matching.ensures) ∙ c.if-has_matching.false))
