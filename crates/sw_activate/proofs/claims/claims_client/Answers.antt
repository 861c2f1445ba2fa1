use Rattle.std.proofs.Common.{◌≡◌, ◌∙◌, ◌&&◌, not, false, ℕ, List, Option, Some, None, sym, ap, subst, arith}
use Rattle.std.specs.Prelude.{find}
use Rattle.std.specs.Option.{option_map_or}
use Rattle.sw_client.specs.Table.{clients_of}
use Rattle.sw_data.specs.declared.rows.ClientRow.{ClientRow}
use Rattle.sw_rules.specs.Clients as rules
use Rattle.sw_rules.specs.Rows as rows_of
use Rattle.sw_rules.specs.State.{State}
use Rattle.sw_tables.specs.Lent.{lent}
use Rattle.sw_activate.proofs.claims.claims_client.Goals as goal

pub returns-in-Some : goal.returns-in-Some
returns-in-Some c = λ of_workers rest.
    let state : State = lent c.args.map.now of_workers c.args.registrations.now c.args.clients.now rest in
    let here : find (rows_of.is_client c.args.client) (clients_of c.args.clients.now) ≡ Some c.in-Some.row.now = grind (arith, c.row.ensures, c.in-Some.is) in
    subst (λ (o : Option ClientRow). c.claims_row.result ≡ option_map_or (rules.claims state c.args.worker c.args.registration) o false) (sym here)
    (c.claims_row.ensures
    ∙ ap (λ (m : Option ℕ). c.in-Some.row.now.secure && rows_of.is_number m c.args.registration && not (rows_of.is_number c.in-Some.row.now.controller c.args.worker))
    (c.matched-found.ensures of_workers c.args.clients.now rest
    ∙ ap (λ (u : List ℕ). rows_of.matched_registration_number state c.in-Some.row.now.key u) c.as_bytes.ensures))

pub returns-in-None : goal.returns-in-None
returns-in-None c = λ of_workers rest.
    let state : State = lent c.args.map.now of_workers c.args.registrations.now c.args.clients.now rest in
    let none : find (rows_of.is_client c.args.client) (clients_of c.args.clients.now) ≡ None = grind (arith, c.row.ensures, c.in-None.is) in
    sym (ap (λ (o : Option ClientRow). option_map_or (rules.claims state c.args.worker c.args.registration) o false) none)
