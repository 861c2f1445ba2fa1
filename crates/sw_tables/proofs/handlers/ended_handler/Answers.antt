use Rattle.sw_tables.proofs.Ending.{ended}
use Rattle.sw_tables.proofs.handlers.ended_handler.Goals as goal

pub returns-clause-ended : goal.returns-clause-ended
returns-clause-ended c = λ scopes of_workers of_registrations of_clients rest here counts.
    let is = ended scopes of_workers of_registrations of_clients rest c.args.row.now here counts c.args.phase in
    cc (is, c.ended.ensures)
