use Rattle.std.proofs.Common.{◌≡◌, ◌∙◌, ℕ, Bool, Some, refl, sym, subst, arith, if◌then◌else◌}
use Rattle.sw_data.specs.declared.answers.Answer.TheVariants as answer
use Rattle.sw_data.specs.declared.answers.Fault.TheVariants as fault
use Rattle.sw_data.specs.declared.answers.StateCause.TheVariants as state_cause
use Rattle.sw_rules.specs.Clients as rules
use Rattle.sw_rules.specs.Noticing.{Did}
use Rattle.sw_rules.specs.State.{State}
use Rattle.sw_rules.specs.Told.{Outcome, refused}
use Rattle.sw_tables.proofs.Chain.{did_quietly}
use Rattle.sw_tables.proofs.Rows.{found_number}
use Rattle.sw_tables.specs.Happened.{Happened}
use Rattle.sw_tables.specs.Lent.{lent}
use Rattle.sw_worker.specs.Table.{worker_at}
use Rattle.sw_activate.specs.Names.{numbers_of}
use Rattle.sw_activate.proofs.Names.{of_row}
use Rattle.sw_activate.proofs.claims.claim.Goals as goal

pub returns-then-not-is_active-clause-did : goal.returns-then-not-is_active-clause-did
returns-then-not-is_active-clause-did c = λ rest.
    let found : worker_at c.args.worker c.args.workers.now.rows ≡ Some c.in-Some.row.now = grind (arith, c.row.ensures, c.in-Some.is) in
    let row = c.in-Some.row.now in
    let before : State = lent c.args.map.now c.args.workers.now c.args.registrations.now c.args.clients.now rest in
    let why = fault.InvalidState state_cause.NotActive in
    let claimed : Outcome = record { answer = answer.Ok; told = rules.claim_clients before row.number row.registration (numbers_of c.args.clients.now) } in
    of_row c.args.map.now c.args.workers.now c.args.registrations.now c.args.clients.now rest c.args.worker row found
    (λ r. Happened (Some (rules.claim_of before r)) (Some (answer.Fault why)) c.args.notices.now c.args.notices.now before before)
    (subst (λ (b : Bool). Happened (Some (if b then claimed else refused before why)) (Some (answer.Fault why)) c.args.notices.now c.args.notices.now before before)
    (sym (sym c.is_active.ensures ∙ c.if-not-is_active.true))
    (refl, did_quietly (refused before why).told c.args.notices.now before refl refl))

pub returns-else-not-is_active-clause-did : goal.returns-else-not-is_active-clause-did
returns-else-not-is_active-clause-did c = λ rest.
    let found : worker_at c.args.worker c.args.workers.now.rows ≡ Some c.in-Some.row.now = grind (arith, c.row.ensures, c.in-Some.is) in
    let row = c.in-Some.row.now in
    let own = found_number (λ r. r.number) c.args.worker c.args.workers.now.rows row found in
    let before : State = lent c.args.map.now c.args.workers.now c.args.registrations.now c.args.clients.now rest in
    let after : State = lent c.args.map.now c.claim_clients.new.workers c.claim_clients.new.registrations c.claim_clients.new.clients rest in
    let why = fault.InvalidState state_cause.NotActive in
    let claimed : Outcome = record { answer = answer.Ok; told = rules.claim_clients before row.number row.registration (numbers_of c.args.clients.now) } in
    of_row c.args.map.now c.args.workers.now c.args.registrations.now c.args.clients.now rest c.args.worker row found
    (λ r. Happened (Some (rules.claim_of before r)) (Some answer.Ok) c.args.notices.now c.claim_clients.new.notices before after)
    (subst (λ (b : Bool). Happened (Some (if b then claimed else refused before why)) (Some answer.Ok) c.args.notices.now c.claim_clients.new.notices before after)
    (sym (sym c.is_active.ensures ∙ c.if-not-is_active.false)) (
      refl,
      subst (λ (n : ℕ). Did (rules.claim_clients before n row.registration (numbers_of c.args.clients.now)) c.args.notices.now c.claim_clients.new.notices after)
          (sym own) (c.claim_clients.ensures.did rest),
    ))
