use Rattle.sw_list.proofs.DigestLemmas.{fewer_slots, none_more, slot_gone}
use Rattle.sw_list.proofs.marks.take_number.Goals as goal

pub returns-clause-others : goal.returns-clause-others
returns-clause-others c key n other = fewer_slots c.args.slots.now c.remove.new.self c.args.key c.args.number c.remove.ensures.updates key n other

pub returns-clause-gone : goal.returns-clause-gone
returns-clause-gone c = slot_gone c.args.slots.now c.remove.new.self c.args.key c.args.number c.remove.ensures.updates

pub returns-clause-fewer : goal.returns-clause-fewer
returns-clause-fewer c = none_more c.args.slots.now c.remove.new.self c.args.key c.args.number c.remove.ensures.updates
