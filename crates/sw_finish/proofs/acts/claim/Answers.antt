use Rattle.std.proofs.Common.{◌≡◌, ℕ, Bool, true, Some, map, option_map, sym, subst, if◌then◌else◌}
use Rattle.sw_data.specs.declared.answers.Answer.TheVariants as answer
use Rattle.sw_data.specs.declared.answers.Fault.TheVariants as fault
use Rattle.sw_data.specs.declared.answers.StateCause.TheVariants as state_cause
use Rattle.sw_rules.specs.Clients as rules
use Rattle.sw_rules.specs.Noticing.{Did}
use Rattle.sw_rules.specs.Rows.{is_active, worker_row}
use Rattle.sw_rules.specs.State.{State}
use Rattle.sw_rules.specs.Told.{Outcome, refused}
use Rattle.sw_tables.specs.Lent.{lent}
use Rattle.sw_worker.specs.Table.{worker_at}
use Rattle.sw_work.proofs.Working.{if_some_map}
use Rattle.sw_finish.proofs.Doing.{of_claimant, with_same_jobs, with_tables}
use Rattle.sw_state.specs.contracts.tables.HostTables.{the_view}
use Rattle.sw_state.specs.Hosted.{Hosted, rest_of, state_of}
use Rattle.sw_finish.proofs.acts.claim.Goals as goal

-- a claim by a worker of a registration, where it is active
abbrev claimed : State → ℕ → ℕ → Bool → Outcome
claimed state registration worker active =
    if active
    then record { answer = answer.Ok; told = rules.claim_clients state worker registration (map (λ client. client.number) state.clients) }
    else refused state (fault.InvalidState state_cause.NotActive)

pub returns-clause-did : goal.returns-clause-did
returns-clause-did c =
    let host : Hosted = the_view c.host.inside in
    let new = c.claim.new in
    let after = lent new.map new.workers new.registrations new.clients (rest_of host) in
    let claims : option_map {U = ℕ × Bool} (λ row. (row.registration, is_active row.state)) (worker_at c.args.worker host.workers.rows) ≡ Some (c.args.registration, true) =
    subst (λ (h : Hosted). option_map {U = ℕ × Bool} (λ row. (row.registration, is_active row.state)) (worker_at c.args.worker h.workers.rows) ≡ Some (c.args.registration, true)) (sym c.host.view_is) c.requires.fits in
    subst (λ (h : Hosted). Did (claimed (state_of h) c.args.registration c.args.worker true).told c.args.notices.now new.notices
    (state_of (with_tables host new.map new.workers new.registrations new.clients new._queues))) c.host.view_is
    (with_same_jobs host new.map new.workers new.registrations new.clients new._queues c.claim.ensures.queues
    (claimed (state_of host) c.args.registration c.args.worker true).told c.args.notices.now new.notices
    (of_claimant host c.args.worker c.args.registration claims (λ r n a. Did (claimed (state_of host) r n a).told c.args.notices.now new.notices after)
    (if_some_map _ _ (λ row happened. happened.1) (worker_row (state_of host) c.args.worker) (c.claim.ensures.did (rest_of host)))))
