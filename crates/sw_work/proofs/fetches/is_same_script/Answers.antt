use Rattle.std.proofs.Common.{arith}
use Rattle.sw_work.proofs.fetches.is_same_script.Goals as goal

pub returns-in-Some : goal.returns-in-Some
returns-in-Some c = λ scopes of_clients rest.
    let newest = c.newest_row.ensures scopes of_clients rest in grind (arith, newest, c.in-Some.is, c.is_made_of.ensures)

pub returns-in-None : goal.returns-in-None
returns-in-None c = λ scopes of_clients rest.
    let newest = c.newest_row.ensures scopes of_clients rest in grind (arith, newest, c.in-None.is)
