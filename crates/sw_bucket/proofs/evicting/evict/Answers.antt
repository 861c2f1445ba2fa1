-- What is kept is written anew behind what was forgotten.
use Rattle.sw_bucket.proofs.EvictLemmas.{evicted_tended}
use Rattle.sw_bucket.proofs.evicting.evict.Goals as goal

pub tended-requires-clause-next : goal.tended-requires-clause-next
tended-requires-clause-next g c =
    let it = c.requires.between in
    let cleared = c.in-Ok-true.ensures.cleared it.0 it.1 in
    (it.0, c.forget.new.history.items, cleared.0.under_way, cleared.0.at_work.keeps)

pub returns-in-Ok-true-clause-evicted : goal.returns-in-Ok-true-clause-evicted
returns-in-Ok-true-clause-evicted g c course between =
    let cleared = c.in-Ok-true.ensures.cleared course between in
    evicted_tended g.D.Disk g.B.Bound c.forget.new.disk c.tended.new.disk c.forget.new.bound course c.forget.new.history.items c.forget.new.store c.tended.new.store c.tended.result cleared.0 cleared.1 c.tended.ensures.core
    (c.tended.ensures.goes_on course c.forget.new.history.items cleared.0.under_way cleared.0.at_work (cleared.2 c.in-Ok-true.field-0-test))
