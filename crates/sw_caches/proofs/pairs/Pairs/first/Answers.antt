use Rattle.sw_caches.proofs.PairLemmas.{first_low}
use Rattle.sw_caches.proofs.pairs.Pairs.first.Goals as goal

pub returns-clause-low : goal.returns-clause-low
returns-clause-low c =
    first_low c.self.inside.entries.items c.args.query.now c.args.options c.first_of.result c.self.invariant.3 (rw c.deref.ensures.value at c.first_of.ensures)
