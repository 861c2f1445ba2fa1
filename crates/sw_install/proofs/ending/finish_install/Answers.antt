use Rattle.std.proofs.Common.{ℕ, refl, sym, subst}
use Rattle.sw_rules.specs.Installing as rules
use Rattle.sw_rules.specs.Jobs.{finish}
use Rattle.sw_rules.specs.Noticing.{Did}
use Rattle.sw_rules.specs.State.{State}
use Rattle.sw_rules.specs.Told.{Told, followed}
use Rattle.sw_tables.proofs.Chain.{did_quietly, did_then}
use Rattle.sw_tables.specs.Happened.{with_jobs}
use Rattle.sw_tables.specs.Lent.{lent}
use Rattle.sw_install.proofs.ending.finish_install.Goals as goal

pub returns-clause-did : goal.returns-clause-did
unfolding rules.finish_install rules.end_handler finish
returns-clause-did c = λ rest made number.
    let old = c.args.queues.now.rows in
    let map = c.args.map.now in
    let of_clients = c.args.clients.now in
    let first : State = lent map c.args.workers.now c.args.registrations.now of_clients (with_jobs old rest) in
    let second : State = lent map c.end_install.new.workers c.args.registrations.now of_clients (with_jobs old rest) in
    let third : State = lent map c.become_waiting.new.workers c.become_waiting.new.registrations of_clients (with_jobs old rest) in
    let last : State = lent map c.become_waiting.new.workers c.become_waiting.new.registrations of_clients (with_jobs c.finish.new.queues.rows rest) in
    let told_second : State → Told = λ s.
    followed (rules.become_waiting s c.args.registration made) (λ waiting. finish waiting c.args.job) in
    let after = c.become_waiting.new.notices in
    let did : Did (followed (rules.end_handler first c.args.worker) told_second) c.args.notices.now after last =
    did_then (rules.end_handler first c.args.worker) told_second c.args.notices.now c.args.notices.now after second last
    (did_quietly (rules.end_handler first c.args.worker) c.args.notices.now second refl
    (c.end_install.ensures.state map of_clients (with_jobs old rest)))
    (did_then (rules.become_waiting second c.args.registration made) (λ waiting. finish waiting c.args.job) c.args.notices.now after after third last
    (c.become_waiting.ensures.did made number map of_clients (with_jobs old rest))
    (did_quietly (finish third c.args.job) after last refl
    (c.finish.ensures.state map c.become_waiting.new.workers c.become_waiting.new.registrations of_clients rest))) in
    subst (λ (n : ℕ). Did (followed (rules.end_handler first n) told_second) c.args.notices.now after last) (sym number) did

pub returns-clause-linked : goal.returns-clause-linked
returns-clause-linked c =
    c.become_waiting.ensures.linked c.args.map.now c.args.clients.now (c.end_install.ensures.linked c.args.map.now c.args.clients.now c.requires.linked)
