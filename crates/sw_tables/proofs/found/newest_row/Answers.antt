use Rattle.sw_tables.proofs.Lookups.{newest_shown}
use Rattle.sw_tables.proofs.found.newest_row.Goals as goal

pub returns : goal.returns
returns c = λ scopes of_clients rest.
    let shown = newest_shown c.args.workers.now c.args.registrations.now c.requires c.args.registration scopes of_clients rest in
    cc (shown, c.newest.ensures, c.numbered.ensures)
