use Rattle.std.proofs.Common.{◌≡◌, ◌∙◌, ◌&&◌, ℕ, true, Option, None, Some, option_map, is_some, bytes_eq, refl, sym, ap, subst, arith}
use Rattle.std.specs.Prelude.{find, IfSome}
use Rattle.sw_data.specs.declared.rows.JobRow.{JobRow}
use Rattle.sw_data.specs.declared.rows.RegistrationRow.{RegistrationRow}
use Rattle.sw_reg.specs.Table.{is_there, registration_at}
use Rattle.sw_rules.specs.Rows.{is_job, mapped_registration}
use Rattle.sw_rules.specs.State.{Registration, State}
use Rattle.sw_scope.specs.Scopes.{Scopes, maps}
use Rattle.sw_tables.proofs.Moves.{there}
use Rattle.sw_tables.specs.Lent.{Rest, lent, shown_registration}
use Rattle.sw_activate.proofs.unregister.mapped_of.Goals as goal

numbers_shown : (scopes : Scopes) (rest : Rest) (o : Option RegistrationRow)
    → option_map (λ (row : RegistrationRow). row.number) o ≡ option_map (λ (row : Registration). row.number) (option_map (shown_registration scopes rest) o)
numbers_shown scopes rest None = refl
numbers_shown scopes rest (Some row) = refl

pub returns-in-Some-clause-mapped : goal.returns-in-Some-clause-mapped
returns-in-Some-clause-mapped c = λ of_workers of_clients rest.
    let row = c.in-Some.row.now in
    let here : find (is_job c.args.job) c.args.queues.now.rows ≡ Some row = grind (arith, c.row.ensures, c.in-Some.is) in
    let state : State = lent c.args.map.now of_workers c.args.registrations.now of_clients rest in
    subst (λ (o : Option JobRow). IfSome o (λ r. c.number_of.result ≡ option_map (λ (of : Registration). of.number) (mapped_registration state r.job.key r.job.scope)))
    (sym here)
    (c.number_of.ensures
    ∙ (numbers_shown c.args.map.now rest _
    ∙ ap (option_map (λ (of : Registration). of.number)) (c.mapped_row.ensures.row of_workers of_clients rest)))

pub returns-in-Some-clause-there : goal.returns-in-Some-clause-there
returns-in-Some-clause-there c =
    subst (λ (o : Option ℕ). IfSome o (λ number. is_there number c.args.registrations.now.rows ≡ true))
    (sym (c.number_of.ensures ∙ c.mapped_row.ensures.number))
    (by (maps c.args.map.now c.in-Some.row.now.job.key c.in-Some.row.now.job.scope) refl)
  where
    by : (o : Option ℕ) → maps c.args.map.now c.in-Some.row.now.job.key c.in-Some.row.now.job.scope ≡ o
        → IfSome o (λ number. is_there number c.args.registrations.now.rows ≡ true)
    by None is = tt
    by (Some number) is =
        let found = there (λ (row : RegistrationRow). bytes_eq row.key c.in-Some.row.now.job.key && bytes_eq row.scope c.in-Some.row.now.job.scope)
        (registration_at number c.args.registrations.now.rows)
        (c.requires.scopes c.in-Some.row.now.job.key c.in-Some.row.now.job.scope number is) in
        ap is_some found.1
