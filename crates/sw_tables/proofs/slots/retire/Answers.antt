use Rattle.std.proofs.Common.{sym}
use Rattle.sw_tables.proofs.Counting.{retired_keeps}
use Rattle.sw_tables.proofs.Retiring.{may_retire, retired_did, retired_linked, retired_slots, vacates}
use Rattle.sw_tables.proofs.slots.retire.Goals as goal

pub tell_redundant-requires-clause-follows : goal.tell_redundant-requires-clause-follows
tell_redundant-requires-clause-follows c = rw c.slot.ensures (may_retire c.args.place c.args.registration c.args.workers.now c.args.registrations.now c.requires.slots)

pub returns-clause-did : goal.returns-clause-did
returns-clause-did c =
    retired_did c.args.place c.args.registration c.args.workers.now c.args.registrations.now c.requires.slots c.tell_redundant.new.workers c.leave.new.self
    (rw (sym c.slot.ensures) c.tell_redundant.ensures.rows) c.leave.ensures c.args.notices.now c.tell_redundant.new.notices (rw (sym c.slot.ensures) c.tell_redundant.ensures.told)

pub returns-clause-vacates : goal.returns-clause-vacates
returns-clause-vacates c =
    vacates c.args.place c.args.registration c.args.workers.now c.args.registrations.now c.requires.slots c.tell_redundant.new.workers c.leave.new.self
    (rw (sym c.slot.ensures) c.tell_redundant.ensures.rows) c.leave.ensures

pub returns-clause-slots : goal.returns-clause-slots
returns-clause-slots c =
    retired_slots c.args.place c.args.registration c.args.workers.now c.args.registrations.now c.requires.slots c.tell_redundant.new.workers c.leave.new.self
    (rw (sym c.slot.ensures) c.tell_redundant.ensures.rows) c.leave.ensures c.requires.quiet

pub returns-clause-linked : goal.returns-clause-linked
returns-clause-linked c =
    retired_linked c.args.place c.args.registration c.args.workers.now c.args.registrations.now c.requires.slots c.tell_redundant.new.workers c.leave.new.self
    (rw (sym c.slot.ensures) c.tell_redundant.ensures.rows) c.leave.ensures c.requires.quiet

pub returns-clause-counts : goal.returns-clause-counts
returns-clause-counts c = retired_keeps c.slot.result c.args.workers.now c.tell_redundant.new.workers c.tell_redundant.ensures.rows
