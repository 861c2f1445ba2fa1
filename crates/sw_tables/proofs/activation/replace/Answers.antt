use Rattle.sw_tables.proofs.TakeOver.{has_waiting, may_begin}
use Rattle.sw_tables.proofs.activation.replace.Goals as goal

pub begin-requires-clause-may : goal.begin-requires-clause-may
begin-requires-clause-may c = (may_begin c.args.registration c.args.worker c.args.workers.now c.args.registrations.now c.requires.slots c.requires.waiting).0

pub begin-requires-clause-idle : goal.begin-requires-clause-idle
begin-requires-clause-idle c = (may_begin c.args.registration c.args.worker c.args.workers.now c.args.registrations.now c.requires.slots c.requires.waiting).1

pub to_active-requires : goal.to_active-requires
to_active-requires c = has_waiting c.args.registration c.args.worker c.args.workers.now c.args.registrations.now c.requires.slots c.requires.waiting
