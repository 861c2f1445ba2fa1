use Rattle.std.proofs.Common.{arith}
use Rattle.sw_activate.proofs.Owing.{owed_shown}
use Rattle.sw_activate.proofs.owed.is_owed.Goals as goal

pub returns-in-Some-clause-owed : goal.returns-in-Some-clause-owed
returns-in-Some-clause-owed c = λ scopes of_workers of_clients rest.
    let shown = owed_shown c.args.registration c.args.registrations.now c.requires scopes of_workers of_clients rest in
    grind (arith, shown, c.row.ensures, c.in-Some.is)

pub returns-in-None-clause-owed : goal.returns-in-None-clause-owed
returns-in-None-clause-owed c = λ scopes of_workers of_clients rest.
    let shown = owed_shown c.args.registration c.args.registrations.now c.requires scopes of_workers of_clients rest in
    grind (arith, shown, c.row.ensures, c.in-None.is)
