use Rattle.std.proofs.Common.{sym}
use Rattle.sw_list.proofs.DigestLemmas.{more_slots, only_slot, same_slots}
use Rattle.sw_list.proofs.marks.put_number.Goals as goal

pub returns-in-Ok-clause-keeps : goal.returns-in-Ok-clause-keeps
returns-in-Ok-clause-keeps c = more_slots c.args.slots.now c.insert.new.self (c.args.key, c.args.number) c.in-Ok.ensures.updates

pub returns-in-Err-clause-keeps : goal.returns-in-Err-clause-keeps
returns-in-Err-clause-keeps c = same_slots c.args.slots.now c.insert.new.self c.in-Err.ensures.err

pub returns-in-Ok-clause-only : goal.returns-in-Ok-clause-only
returns-in-Ok-clause-only c k n now was = only_slot c.args.slots.now c.insert.new.self c.args.key c.args.number c.in-Ok.ensures.updates k n now was

pub returns-in-Err-clause-err : goal.returns-in-Err-clause-err
returns-in-Err-clause-err c = same_slots c.insert.new.self c.args.slots.now (sym c.in-Err.ensures.err)
