use Rattle.std.proofs.Common.{◌≡◌, ℕ, Some, None, refl, sym, subst, arith}
use Rattle.sw_rules.specs.Clients as rules
use Rattle.sw_rules.specs.Noticing.{Did}
use Rattle.sw_rules.specs.State.{State}
use Rattle.sw_tables.proofs.Rows.{found_number}
use Rattle.sw_tables.specs.Happened.{Happened}
use Rattle.sw_tables.specs.Lent.{lent}
use Rattle.sw_worker.specs.Table.{worker_at}
use Rattle.sw_data.specs.declared.answers.Answer.TheVariants as answer
use Rattle.sw_activate.proofs.Names.{of_row}
use Rattle.sw_activate.proofs.events.skip_waiting.Goals as goal

pub returns-in-Some-clause-did : goal.returns-in-Some-clause-did
returns-in-Some-clause-did c = λ rest.
    let found : worker_at c.args.worker c.args.workers.now.rows ≡ Some c.in-Some.row.now = grind (arith, c.row.ensures, c.in-Some.is) in
    let own = found_number (λ row. row.number) c.args.worker c.args.workers.now.rows c.in-Some.row.now found in
    let before : State = lent c.args.map.now c.args.workers.now c.args.registrations.now c.args.clients.now rest in
    let after : State = lent c.args.map.now c.skip.new.workers c.skip.new.registrations c.skip.new.clients rest in
    of_row c.args.map.now c.args.workers.now c.args.registrations.now c.args.clients.now rest c.args.worker c.in-Some.row.now found
    (λ row. Happened (Some (rules.skip_waiting_of before row)) (Some answer.Ok) c.args.notices.now c.skip.new.notices before after)
    (refl, subst (λ (n : ℕ). Did (rules.skip_waiting before c.in-Some.row.now.registration n) c.args.notices.now c.skip.new.notices after) (sym own) (c.skip.ensures.did rest))

pub returns-in-None-clause-did : goal.returns-in-None-clause-did
returns-in-None-clause-did c = λ rest.
    let none : worker_at c.args.worker c.args.workers.now.rows ≡ None = grind (arith, c.row.ensures, c.in-None.is) in
    absurd (grind (arith, c.requires.there, none))
