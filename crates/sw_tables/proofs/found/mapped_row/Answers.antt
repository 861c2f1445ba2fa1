use Rattle.sw_tables.proofs.Lookups.{mapped_number, mapped_shown}
use Rattle.sw_tables.proofs.found.mapped_row.Goals as goal

pub returns-clause-row : goal.returns-clause-row
returns-clause-row c = λ of_workers of_clients rest.
    let shown = mapped_shown c.args.map.now c.args.registrations.now c.requires.places c.requires.scopes c.args.key.now c.args.scope.now of_workers of_clients rest in
    cc (shown, c.get.ensures, c.registered.ensures)

pub returns-clause-number : goal.returns-clause-number
returns-clause-number c =
    let known = mapped_number c.args.map.now c.args.registrations.now c.requires.places c.requires.scopes c.args.key.now c.args.scope.now in
    cc (known, c.get.ensures, c.registered.ensures)
