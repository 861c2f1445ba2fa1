use Rattle.std.proofs.Common.{◌≡◌, ◌∙◌, ℕ, List, IfOk, IfSome, Some, None, true, false, sym, ap, subst, arith}
use Rattle.std.specs.List.{flat_map}
use Rattle.std.proofs.lemmas.Result.{IfOk-weaker}
use Rattle.sw_rules.specs.Clients.{claim_clients, claim_of}
use Rattle.sw_rules.specs.Rows.{worker_row}
use Rattle.sw_rules.specs.State.{State}
use Rattle.sw_tables.specs.Lent.{lent}
use Rattle.sw_worker.specs.Table.{worker_at}
use Rattle.sw_activate.specs.Claiming.{activated_in, activation_change}
use Rattle.sw_activate.specs.Names.{numbers_of}
use Rattle.sw_activate.proofs.Claimants.{all_owned, changes_are, changes_none, claimed_is, claimed_none}
use Rattle.sw_activate.proofs.ClaimTold.{claims_told}
use Rattle.sw_activate.proofs.claiming.claimed.Goals as goal

pub returns-then-not-is_active-clause-numbers : goal.returns-then-not-is_active-clause-numbers
returns-then-not-is_active-clause-numbers c = λ rest.
    let found : worker_at c.args.worker c.args.workers.now.rows ≡ Some c.in-Some.row.now = grind (arith, c.row.ensures, c.in-Some.is) in
    c.new.ensures.items
    ∙ sym (claimed_is c.args.map.now c.args.workers.now c.args.registrations.now c.args.clients.now rest c.args.worker c.in-Some.row.now found
    false (sym c.is_active.ensures ∙ c.if-not-is_active.true))

pub returns-then-not-is_active-clause-changes : goal.returns-then-not-is_active-clause-changes
returns-then-not-is_active-clause-changes c = λ rest.
    let found : worker_at c.args.worker c.args.workers.now.rows ≡ Some c.in-Some.row.now = grind (arith, c.row.ensures, c.in-Some.is) in
    let state : State = lent c.args.map.now c.args.workers.now c.args.registrations.now c.args.clients.now rest in
    changes_are c.args.map.now c.args.workers.now c.args.registrations.now c.args.clients.now rest c.args.worker c.in-Some.row.now found
    false (sym c.is_active.ensures ∙ c.if-not-is_active.true) c.new.result.items (ap (flat_map (activation_change state)) c.new.ensures.items)

pub returns-else-not-is_active-clause-numbers : goal.returns-else-not-is_active-clause-numbers
returns-else-not-is_active-clause-numbers c = λ rest.
    let found : worker_at c.args.worker c.args.workers.now.rows ≡ Some c.in-Some.row.now = grind (arith, c.row.ensures, c.in-Some.is) in
    subst (λ (told : List ℕ). IfOk c.claimed_by.result (λ numbers. numbers.items ≡ told))
    (sym (claimed_is c.args.map.now c.args.workers.now c.args.registrations.now c.args.clients.now rest c.args.worker c.in-Some.row.now found
    true (sym c.is_active.ensures ∙ c.if-not-is_active.false)))
    (c.claimed_by.ensures rest)

pub returns-else-not-is_active-clause-changes : goal.returns-else-not-is_active-clause-changes
returns-else-not-is_active-clause-changes c = λ rest.
    let found : worker_at c.args.worker c.args.workers.now.rows ≡ Some c.in-Some.row.now = grind (arith, c.row.ensures, c.in-Some.is) in
    let state : State = lent c.args.map.now c.args.workers.now c.args.registrations.now c.args.clients.now rest in
    let registration = c.in-Some.row.now.registration in
    let numbers = numbers_of c.args.clients.now in
    let owned = all_owned c.args.map.now c.args.workers.now c.args.registrations.now c.args.clients.now rest c.requires.linked in
    IfOk-weaker c.claimed_by.result
    (λ all. all.items ≡ activated_in state (claim_clients state c.args.worker registration numbers).notices)
    (λ all. IfSome (worker_row state c.args.worker) (λ r. flat_map (activation_change state) all.items ≡ (claim_of state r).told.changes))
    (λ all are.
    changes_are c.args.map.now c.args.workers.now c.args.registrations.now c.args.clients.now rest c.args.worker c.in-Some.row.now found
    true (sym c.is_active.ensures ∙ c.if-not-is_active.false) all.items
    (ap (flat_map (activation_change state)) are ∙ claims_told state owned c.args.worker registration numbers))
    (c.claimed_by.ensures rest)

pub returns-in-None-clause-numbers : goal.returns-in-None-clause-numbers
returns-in-None-clause-numbers c = λ rest.
    let none : worker_at c.args.worker c.args.workers.now.rows ≡ None = grind (arith, c.row.ensures, c.in-None.is) in
    c.new-in-None.ensures.items
    ∙ sym (claimed_none c.args.map.now c.args.workers.now c.args.registrations.now c.args.clients.now rest c.args.worker none)

pub returns-in-None-clause-changes : goal.returns-in-None-clause-changes
returns-in-None-clause-changes c = λ rest.
    let none : worker_at c.args.worker c.args.workers.now.rows ≡ None = grind (arith, c.row.ensures, c.in-None.is) in
    let state : State = lent c.args.map.now c.args.workers.now c.args.registrations.now c.args.clients.now rest in
    changes_none c.args.map.now c.args.workers.now c.args.registrations.now c.args.clients.now rest c.args.worker none
    (λ r. flat_map (activation_change state) c.new-in-None.result.items ≡ (claim_of state r).told.changes)
