use Rattle.std.proofs.Common.{◌≡◌, Some, None, arith}
use Rattle.sw_reg.specs.Table.{registration_at}
use Rattle.sw_tables.proofs.Lookups.{mapping_shown}
use Rattle.sw_tables.proofs.Rows.{found_number}
use Rattle.sw_tables.proofs.found.is_mapped.Goals as goal

pub returns-in-Some : goal.returns-in-Some
returns-in-Some c = λ of_workers of_clients rest.
    let shown = mapping_shown c.args.map.now c.args.registrations.now c.requires c.args.registration of_workers of_clients rest in
    let found : registration_at c.args.registration c.args.registrations.now.rows ≡ Some c.in-Some.row.now = grind (arith, c.row.ensures, c.in-Some.is) in
    let own = found_number (λ row. row.number) c.args.registration c.args.registrations.now.rows c.in-Some.row.now found in
    grind (arith, shown, found, own, c.get.ensures, c.is_number.ensures)

pub returns-in-None : goal.returns-in-None
returns-in-None c = λ of_workers of_clients rest.
    let shown = mapping_shown c.args.map.now c.args.registrations.now c.requires c.args.registration of_workers of_clients rest in
    let none : registration_at c.args.registration c.args.registrations.now.rows ≡ None = grind (arith, c.row.ensures, c.in-None.is) in
    grind (arith, shown, none)
