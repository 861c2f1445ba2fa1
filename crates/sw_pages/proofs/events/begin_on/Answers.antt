use Rattle.std.proofs.Common.{◌≡◌, ◌∙◌, ℕ, true, false, Option, Some, ap, sym, subst, refl}
use Rattle.sw_data.specs.declared.answers.Answer.TheVariants as answer
use Rattle.sw_pages.proofs.Pending.{begins, stays_joined}
use Rattle.sw_pages.specs.Acts.{outcome_of}
use Rattle.sw_pages.specs.declared.worked.Worked.{Worked}
use Rattle.sw_rules.specs.Clients.{add_event, begin_on}
use Rattle.sw_rules.specs.Rows.{is_active, worker_row}
use Rattle.sw_rules.specs.State.{State, FetchEvent}
use Rattle.sw_rules.specs.Told.{Outcome}
use Rattle.sw_state.specs.contracts.tables.HostTables.{the_view}
use Rattle.sw_state.specs.Hosted.{Hosted, state_of}
use Rattle.sw_worker.specs.Table as workers
use Rattle.sw_worker.specs.Table.{has_worker, is_activated, is_pending}
use Rattle.sw_pages.proofs.events.begin_on.Goals as goal

abbrev begun : State → ℕ → FetchEvent → Option Outcome
begun state worker event =
    Some (record { answer = answer.Worker worker; told = add_event state event.number event.worker })

pub invariant_of-host : goal.invariant_of-host
invariant_of-host c = stays_joined (the_view c.host.inside) c.begin_row.new.self c.begin_row.ensures.same c.host.invariant

pub invariant_of-host-2 : goal.invariant_of-host-2
invariant_of-host-2 c = stays_joined (the_view c.host.inside) c.begin_row.new.self c.begin_row.ensures.same c.host.invariant

pub invariant_of-host-in-Err-InUse : goal.invariant_of-host-in-Err-InUse
invariant_of-host-in-Err-InUse c = stays_joined (the_view c.host.inside) c.begin_row.new.self c.begin_row.ensures.same c.host.invariant

pub invariant_of-host-in-Err-NoMemory : goal.invariant_of-host-in-Err-NoMemory
invariant_of-host-in-Err-NoMemory c = stays_joined (the_view c.host.inside) c.begin_row.new.self c.begin_row.ensures.same c.host.invariant

pub returns-in-Err-NotActive-clause-outcome : goal.returns-in-Err-NotActive-clause-outcome
returns-in-Err-NotActive-clause-outcome c who =
    let now = c.args.host.now in
    let idle = subst (λ (h : Hosted). has_worker is_activated c.args.worker h.workers.rows ≡ false) c.host.view_is (c.in-Err-NotActive.ensures.not_active.0 search) in
    begins now c.args.worker c.args.event c.requires false (is_pending c.args.event now.workers.events) idle refl

pub returns-in-Err-InUse-clause-outcome : goal.returns-in-Err-InUse-clause-outcome
returns-in-Err-InUse-clause-outcome c who =
    let now = c.args.host.now in
    let found = c.in-Err-InUse.ensures.in_use.0 search in
    let ready = subst (λ (h : Hosted). has_worker is_activated c.args.worker h.workers.rows ≡ true) c.host.view_is found.0 in
    let taken = subst (λ (h : Hosted). is_pending c.args.event h.workers.events ≡ true) c.host.view_is found.1 in
    ap (λ (worked : Worked). Some (outcome_of who worked (state_of now))) c.answered.ensures
    ∙ begins now c.args.worker c.args.event c.requires true true ready taken

pub returns-clause-outcome : goal.returns-clause-outcome
returns-clause-outcome c who =
    let host = the_view c.host.inside in
    let active = subst (λ (h : Hosted). has_worker (λ row. is_active row.state) c.args.worker h.workers.rows ≡ true) (sym c.host.view_is) c.requires in
    let own = c.in-Ok.ensures.event in
    let same = c.in-Ok.ensures.same in
    let fits = c.in-Ok.ensures.fits in
    let free : is_pending c.args.event host.workers.events ≡ false =
    ap (is_pending c.args.event) (sym (ap (λ (table : workers.Table). table.events) same))
    ∙ ap (λ (event : FetchEvent). is_pending event.number c.begin_row.new.self.events) (sym own) ∙ fits.number in
    let ready : has_worker is_activated c.args.worker host.workers.rows ≡ true =
    ap (has_worker is_activated c.args.worker) (sym (ap (λ (table : workers.Table). table.rows) same))
    ∙ ap (λ (event : FetchEvent). has_worker is_activated event.worker c.begin_row.new.self.rows) (sym own) ∙ fits.worker in
    subst (λ (h : Hosted). Some (outcome_of who c.begun.result (state_of h)) ≡ begin_on (state_of h) c.args.event (worker_row (state_of h) c.args.worker)) c.host.view_is
    (ap (λ (worked : Worked). Some (outcome_of who worked (state_of host))) c.begun.ensures
    ∙ ap (begun (state_of host) c.args.worker) own
    ∙ begins host c.args.worker c.args.event active true false ready free)
