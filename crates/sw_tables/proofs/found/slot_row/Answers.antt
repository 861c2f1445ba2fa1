use Rattle.sw_tables.proofs.Lookups.{slot_number, slot_shown}
use Rattle.sw_tables.proofs.found.slot_row.Goals as goal

pub returns-clause-row : goal.returns-clause-row
returns-clause-row c = λ scopes of_clients rest.
    let shown = slot_shown c.args.workers.now c.args.registrations.now c.requires c.args.place c.args.registration scopes of_clients rest in
    cc (shown, c.slot.ensures, c.numbered.ensures)

pub returns-clause-number : goal.returns-clause-number
returns-clause-number c =
    let known = slot_number c.args.workers.now c.args.registrations.now c.requires c.args.place c.args.registration in
    cc (known, c.slot.ensures, c.numbered.ensures)
