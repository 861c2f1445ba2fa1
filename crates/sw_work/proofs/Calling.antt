-- Calls of handlers that were worked out: what they come to, and that they fit.
use Rattle.std.proofs.Common.{◌≡◌, ◌∙◌, ◌&&◌, ◌==◌, ℕ, Bool, true, false, List, [], ◌++◌, map, length, Option, Some, None, IfSome, IsSome, option_map, option_and_then, is_some, nat_lt, slice_get, refl, sym, ap, subst, arith, if◌then◌else◌}
use Rattle.std.specs.Option.{option_map_or}
use Rattle.std.specs.Prelude.{IfOk, Result, Ok, Err}
use Rattle.std.proofs.lemmas.Bool.{and_parts}
use Rattle.std.proofs.lemmas.Bool.Decides.{nat_tests}
use Rattle.std.proofs.lemmas.List.{append-nil}
use Rattle.std.proofs.lemmas.Option.{slice_get_within}
use Rattle.sw_cachestorage.specs.Acts.{IsOutcome}
use Rattle.sw_cachestorage.specs.Adding.{begun, started_by}
use Rattle.sw_cachestorage.specs.declared.act.CacheStep.{CacheStep}
use Rattle.sw_cachestorage.specs.declared.adding.AddAllStep.{AddAllStep}
use Rattle.sw_cachestorage.specs.declared.adding.NewAddAll.{NewAddAll}
use Rattle.sw_data.specs.declared.answers.Answer.{Answer}
use Rattle.sw_data.specs.declared.answers.Notice.{Notice}
use Rattle.sw_data.specs.declared.events.Who.{Who}
use Rattle.sw_data.specs.declared.events.Who.TheVariants as who
use Rattle.sw_data.specs.declared.recordings.Call.{Call}
use Rattle.sw_data.specs.declared.recordings.Handlers.{Handlers}
use Rattle.sw_data.specs.declared.rows.HandlerRow.{HandlerRow}
use Rattle.sw_data.specs.declared.rows.Job.{Job}
use Rattle.sw_data.specs.declared.rows.RegistrationRow.{RegistrationRow}
use Rattle.sw_data.specs.declared.rows.WorkerRow.{WorkerRow}
use Rattle.sw_data.specs.declared.storage.Change.{Change}
use Rattle.sw_data.specs.declared.workers.Phase.{Phase}
use Rattle.sw_data.specs.declared.workers.Phase.TheVariants as phase
use Rattle.sw_data.specs.Events.{is_handler}
use Rattle.sw_data.specs.Sameness.{same_call, same_phase}
use Rattle.sw_laws.specs.Coherent.{Coherent}
use Rattle.sw_laws.proofs.Lists.{find_any}
use Rattle.sw_ledgers.specs.declared.promises.Awaited.{Awaited}
use Rattle.sw_ledgers.specs.Promised.{meaning}
use Rattle.sw_pages.specs.Acts as pages
use Rattle.sw_pages.specs.Acts.{told_by}
use Rattle.sw_pages.specs.Fits.{FitsHost}
use Rattle.sw_pages.specs.Jobs.{IsNextJob, comes_to}
use Rattle.sw_pages.specs.declared.worked.PageAct.{PageAct}
use Rattle.sw_pages.specs.declared.worked.PageAct.TheVariants as page
use Rattle.sw_pages.specs.declared.worked.Worked.{Worked}
use Rattle.sw_reg.specs.Table.{registration_at}
use Rattle.sw_rules.specs.Caching.{add_task}
use Rattle.sw_rules.specs.Calls.{call_by, called, is_at, is_fault, is_next_call, make_call, note_call, noted, own_registration}
use Rattle.sw_rules.specs.Clients.{skip_waiting}
use Rattle.sw_rules.specs.Installing as rules
use Rattle.sw_rules.specs.Jobs.{promise, schedule}
use Rattle.sw_rules.specs.Rows.{free_handler, has_worker, is_active, is_number, is_registration, is_worker, maker_worker, registration_row, worker_row}
use Rattle.sw_rules.specs.State as state_of_rules
use Rattle.sw_rules.specs.State.{State, Handler, Registration, Worker}
use Rattle.sw_rules.specs.Told.{Told, Outcome, followed, quiet}
use Rattle.sw_scope.specs.Scopes.{maps}
use Rattle.sw_state.proofs.Same.{same_state}
use Rattle.sw_tables.proofs.Lookups.{worker_shown}
use Rattle.sw_tables.proofs.Rows.{find_map, found_number}
use Rattle.sw_tables.specs.Lent.{shown_handler, shown_worker}
use Rattle.sw_work.specs.Called.{FitsCall, HasRow, noted_call}
use Rattle.sw_state.specs.Hosted.{Hosted, SameRows, shown_of, state_of}
use Rattle.sw_work.specs.Keeping.{KeepsHandler, handling}
use Rattle.sw_work.specs.Plans.{Agree, FitsWork, IsAsked, IsStarted, Means, Works, has_calls_left, told_by_caches, told_then}
use Rattle.sw_work.specs.declared.plan.Act.TheVariants as act
use Rattle.sw_work.specs.declared.plan.Then.{Then}
use Rattle.sw_work.specs.declared.plan.Then.TheVariants as then
use Rattle.sw_work.specs.declared.plan.Work.{Work}
use Rattle.sw_work.proofs.Keeping.{claim_keeps, skip_waiting_keeps}
use Rattle.sw_worker.specs.Table as workers
use Rattle.sw_worker.specs.Table.{worker_at}

-- what holds of a value in two ways
pub both_ok : {X E : Type 0} (r : Result X E) (P Q R : X → Type 0) → ((x : X) → P x → Q x → R x) → IfOk r P → IfOk r Q → IfOk r R
both_ok (Ok x) P Q R goes one other = goes x one other
both_ok (Err why) P Q R goes one other = tt

pub some_weaker : {X : Type 0} (o : Option X) (P Q : X → Type 0) → ((x : X) → P x → Q x) → IfSome o P → IfSome o Q
some_weaker None P Q goes holds = tt
some_weaker (Some x) P Q goes holds = goes x holds

-- ---- what a call comes to, noted

-- outcomes that answer, tell and leave the same agree where they are noted
noted_agree : (outcome : Outcome) (reply : Answer) (told : Told) (worker : ℕ) → outcome.answer ≡ reply → outcome.told.state ≡ told.state → outcome.told.notices ≡ told.notices
    → Agree (noted outcome worker) (record { answer = reply; told = followed told (λ after. note_call after worker (is_fault reply)) })
unfolding followed note_call
noted_agree outcome reply told worker is left notices = record {
  answer = is;
  state =
      ap (λ (s : State). (note_call s worker (is_fault outcome.answer)).state) left
      ∙ ap (λ (a : Answer). (note_call told.state worker (is_fault a)).state) is;
  notices = ap (λ (n : List Notice). n ++ []) notices;
}

-- a call on caches
pub cache_noted : (state : State) (step : CacheStep) (outcome : Outcome) (worker : ℕ) (next : Then) → next ≡ then.Called worker (is_fault step.answer) → IsOutcome outcome state state.caches step
    → IsAsked (noted outcome worker) (record { answer = step.answer; act = act.Caches step.act step.changes; then = next }) state
unfolding followed note_call
cache_noted state step outcome worker next follows is =
    subst (λ (n : Then). IsAsked (noted outcome worker) (record { answer = step.answer; act = act.Caches step.act step.changes; then = n }) state) (sym follows)
    (record {
      same = noted_agree outcome step.answer (told_by_caches step.act step.changes state) worker is.answer is.state_is is.notices;
      changes = ap (λ (all : List Change). all ++ []) is.changes;
    })

-- the promise of a handler's call has no effect
no_promise : (by : Who) (state : State) (awaited : state_of_rules.Awaited) → is_handler by ≡ true → promise state by awaited ≡ quiet state
unfolding promise
no_promise who.Host state awaited is = refl
no_promise (who.Lane lane at) state awaited is = absurd cc
no_promise (who.Handler worker in_phase number) state awaited is = refl

promised_state : (by : Who) (awaited : Option Awaited) (told : Told) → is_handler by ≡ true → told.state ≡ (pages.promised by awaited told).state
unfolding followed
promised_state by None told is = refl
promised_state by (Some awaited) told is = ap (λ (t : Told). t.state) (sym (no_promise by told.state (meaning awaited) is))

promised_notices : (by : Who) (awaited : Option Awaited) (told : Told) → is_handler by ≡ true → (pages.promised by awaited told).notices ≡ told.notices
unfolding followed
promised_notices by None told is = refl
promised_notices by (Some awaited) told is =
    ap (λ (t : Told). told.notices ++ t.notices) (no_promise by told.state (meaning awaited) is) ∙ append-nil told.notices

no_durable : (by : Who) (state : State) (awaited : state_of_rules.Awaited) → (promise state by awaited).changes ≡ []
unfolding promise
no_durable who.Host state awaited = refl
no_durable (who.Lane lane at) state awaited = refl
no_durable (who.Handler worker in_phase number) state awaited = refl

-- no promise is durable
promised_changes : (by : Who) (awaited : Option Awaited) (told : Told) → (pages.promised by awaited told).changes ≡ told.changes
unfolding followed
promised_changes by None told = refl
promised_changes by (Some awaited) told =
    ap (λ (all : List Change). told.changes ++ all) (no_durable by told.state (meaning awaited)) ∙ append-nil told.changes

-- a handler made what a worker made
pub made_by_handler : (by : Who) (worker : ℕ) → maker_worker by ≡ Some worker → is_handler by ≡ true
made_by_handler who.Host worker is = absurd cc
made_by_handler (who.Lane lane at) worker is = absurd cc
made_by_handler (who.Handler own in_phase number) worker is = refl

-- a call that was worked out as an action of a page
pub page_noted : (state : State) (by : Who) (worked : Worked) (worker : ℕ) (next : Then) → next ≡ then.Called worker (is_fault worked.answer) → is_handler by ≡ true
    → IsAsked (noted (pages.outcome_of by worked state) worker) (record { answer = worked.answer; act = act.Page worked.act; then = next }) state
unfolding followed note_call
page_noted state by worked worker next follows is =
    subst (λ (n : Then). IsAsked (noted (pages.outcome_of by worked state) worker) (record { answer = worked.answer; act = act.Page worked.act; then = n }) state) (sym follows)
    (record {
      same =
          noted_agree (pages.outcome_of by worked state) worked.answer (told_by worked.act state) worker refl
          (sym (promised_state by worked.awaited (told_by worked.act state) is))
          (promised_notices by worked.awaited (told_by worked.act state) is);
      changes = ap (λ (all : List Change). all ++ []) (promised_changes by worked.awaited (told_by worked.act state));
    })

-- an addAll that goes on to its fetches or not
abbrev begun_told : Option NewAddAll → Then → State → Told
begun_told start next state = told_then next (started_by start state)

-- no change is durable before the fetches of an addAll
started_changes : (start : Option NewAddAll) (state : State) → (started_by start state).changes ≡ []
unfolding add_task
started_changes None state = refl
started_changes (Some new) state = refl

begun_changes : (state : State) (by : Who) (step : AddAllStep) (worker : ℕ) → (noted (begun by step state) worker).told.changes ≡ []
unfolding followed note_call
begun_changes state by step worker =
    ap (λ (all : List Change). all ++ []) (promised_changes by (Some step.awaited) (started_by step.start state) ∙ started_changes step.start state)

begun_agree : (state : State) (by : Who) (step : AddAllStep) (worker : ℕ) (start : Option NewAddAll) (next : Then) → step.start ≡ start → next ≡ then.Called worker (is_fault step.answer)
    → is_handler by ≡ true → Agree (noted (begun by step state) worker) (record { answer = step.answer; told = begun_told start next state })
begun_agree state by step worker start next starts follows is =
    subst (λ (n : Then). Agree (noted (begun by step state) worker) (record { answer = step.answer; told = begun_told start n state })) (sym follows)
    (subst (λ (o : Option NewAddAll). Agree (noted (begun by step state) worker) (record { answer = step.answer; told = begun_told o (then.Called worker (is_fault step.answer)) state })) starts
    (noted_agree (begun by step state) step.answer (started_by step.start state) worker refl
    (sym (promised_state by (Some step.awaited) (started_by step.start state) is))
    (promised_notices by (Some step.awaited) (started_by step.start state) is)))

pub start_noted : (state : State) (by : Who) (step : AddAllStep) (worker : ℕ) (new : NewAddAll) (next : Then) → step.start ≡ Some new → next ≡ then.Called worker (is_fault step.answer)
    → is_handler by ≡ true → IsStarted (noted (begun by step state) worker) step.answer new next state
start_noted state by step worker new next starts follows is = record {
  same = begun_agree state by step worker (Some new) next starts follows is;
  changes = begun_changes state by step worker;
}

pub unstarted_noted : (state : State) (by : Who) (step : AddAllStep) (worker : ℕ) (next : Then) → step.start ≡ None → next ≡ then.Called worker (is_fault step.answer)
    → is_handler by ≡ true → IsAsked (noted (begun by step state) worker) (record { answer = step.answer; act = act.Page page.Nothing; then = next }) state
unfolding followed note_call
unstarted_noted state by step worker next starts follows is = record {
  same = begun_agree state by step worker None next starts follows is;
  changes = begun_changes state by step worker ∙ ap (λ (n : Then). (told_then n (quiet state)).changes) (sym follows);
}

-- ---- the calls that are left

-- the calls of a handler that are left, by what is kept of it
abbrev left_in : Option Handler × Handlers → Bool
left_in pair = option_map_or (λ handler. nat_lt handler.made (length (workers.calls_of handler.phase pair.1))) pair.0 false

abbrev left_of : Worker → Bool
left_of row = option_map_or (λ handler. nat_lt handler.made (length (rules.calls_of row handler.phase))) row.handler false

same_calls : (row : Worker) (in_phase : Phase) → rules.calls_of row in_phase ≡ workers.calls_of in_phase row.handlers
same_calls row phase.Install = refl
same_calls row phase.Activate = refl

left_is : (row : Worker) → left_of row ≡ left_in (handling row)
left_is row = by row.handler
  where
    by : (handler : Option Handler) → option_map_or (λ h. nat_lt h.made (length (rules.calls_of row h.phase))) handler false ≡ left_in (handler, row.handlers)
    by None = refl
    by (Some h) = ap (λ (calls : List Call). nat_lt h.made (length calls)) (same_calls row h.phase)

left_shown : (found : Option Worker) → option_map_or left_of found false ≡ option_map_or left_in (option_map handling found) false
left_shown None = refl
left_shown (Some row) = left_is row

runs_where_left : (row : Worker) → left_of row ≡ true → is_some row.handler ≡ true
runs_where_left row left = by row.handler left
  where
    by : (handler : Option Handler) → option_map_or (λ h. nat_lt h.made (length (rules.calls_of row h.phase))) handler false ≡ true → is_some handler ≡ true
    by None left = absurd cc
    by (Some h) left = refl

-- a step that keeps a handler leaves it its calls
calls_kept : (worker : ℕ) (old new : State) → KeepsHandler worker old new → has_calls_left worker old ≡ true → has_calls_left worker new ≡ true
calls_kept worker old new keeps left = by (worker_row old worker) refl left
  where
    by : (found : Option Worker) → worker_row old worker ≡ found → option_map_or left_of found false ≡ true → has_calls_left worker new ≡ true
    by None there left = absurd cc
    by (Some row) there left =
        left_shown (worker_row new worker)
        ∙ (ap (λ (o : Option (Option Handler × Handlers)). option_map_or left_in o false) (keeps.stays row there (runs_where_left row left))
        ∙ (sym (left_is row) ∙ left))

-- a worker's row tells what is left
row_left : (row : WorkerRow) → left_of (shown_worker row) ≡ workers.has_calls_left row
row_left row = by row.handler
  where
    by : (handler : Option HandlerRow)
        → option_map_or (λ h. nat_lt h.made (length (rules.calls_of (shown_worker row) h.phase))) (option_map shown_handler handler) false
        ≡ option_map_or (λ h. nat_lt h.made (length (workers.calls_of h.phase row.handlers))) handler false
    by None = refl
    by (Some h) = ap (λ (calls : List Call). nat_lt h.made (length calls)) (same_calls (shown_worker row) h.phase)

pub row_shown : (host : Hosted) (worker : ℕ) (row : WorkerRow) → worker_at worker host.workers.rows ≡ Some row → worker_row (state_of host) worker ≡ Some (shown_worker row)
row_shown host worker row there = worker_shown worker host.workers.rows ∙ ap (option_map shown_worker) there

pub host_left : (host : Hosted) (row : WorkerRow) → HasRow row host → workers.has_calls_left row ≡ true → has_calls_left row.number (state_of host) ≡ true
host_left host row there left =
    ap (λ (o : Option Worker). option_map_or left_of o false) (row_shown host row.number row there) ∙ (row_left row ∙ left)

-- ---- the acts fit

module _ (host : Hosted) (row : WorkerRow) (there : HasRow row host) (left : workers.has_calls_left row ≡ true) where
  left_here : has_calls_left row.number (state_of host) ≡ true
  left_here = host_left host row there left

  pub skip_fits : (done : PageAct) → done ≡ page.SkipWaiting row.registration row.number → Coherent (state_of host) → FitsCall row.number done host
  skip_fits done is sound =
      subst (λ (a : PageAct). FitsCall row.number a host) (sym is) (record {
        act = ap (option_map (λ (w : WorkerRow). w.registration)) there;
        calls =
            calls_kept row.number (state_of host) (skip_waiting (state_of host) row.registration row.number).state
            (skip_waiting_keeps (state_of host) row.registration row.number row.number sound) left_here;
      })

  claims_active : is_active row.state ≡ true → has_worker (λ w. w.registration == row.registration && is_active w.state) (state_of host).workers row.number ≡ true
  claims_active active =
      find_any (is_worker row.number) (λ w. is_worker row.number w && (w.registration == row.registration && is_active w.state)) (state_of host).workers (shown_worker row)
      (row_shown host row.number row there) (grind (arith, nat_tests, active))

  pub claim_fits : (done : PageAct) → done ≡ (if is_active row.state then page.Claim row.registration row.number else page.Nothing) → Coherent (state_of host) → FitsCall row.number done host
  claim_fits done is sound = subst (λ (a : PageAct). FitsCall row.number a host) (sym is) (by (is_active row.state) refl)
    where
      by : (active : Bool) → is_active row.state ≡ active → FitsCall row.number (if active then page.Claim row.registration row.number else page.Nothing) host
      by true active = record {
        act =
            ap (option_map (λ (w : WorkerRow). (w.registration, is_active w.state))) there
            ∙ ap (λ (b : Bool). Some (row.registration, b)) active;
        calls =
            calls_kept row.number (state_of host) _
            (claim_keeps (state_of host) row.number row.registration (map (λ client. client.number) (state_of host).clients) row.number (claims_active active) sound) left_here;
      }
      by false active = record { act = tt; calls = left_here }

-- a job that is scheduled changes no worker
pub update_fits : (old new : Hosted) (worker : ℕ) (asked : Result Job Worked) (worked : Worked) → SameRows old new → IsNextJob old.queues.rows asked → worked ≡ comes_to old.queues.rows asked
    → FitsHost worked new → has_calls_left worker (state_of old) ≡ true → FitsCall worker worked.act new
unfolding schedule
update_fits old new worker asked worked same next is fits left =
    let here : has_calls_left worker (state_of new) ≡ true = subst (λ (s : State). has_calls_left worker s ≡ true) (sym (same_state old new same)) left in
    by asked next is here
  where
    by : (asked : Result Job Worked) → IsNextJob old.queues.rows asked → worked ≡ comes_to old.queues.rows asked → has_calls_left worker (state_of new) ≡ true → FitsCall worker worked.act new
    by (Ok job) next is here =
        subst (λ (w : Worked). FitsHost w new → FitsCall worker w.act new) (sym is) (λ fits. record { act = fits; calls = here }) fits
    by (Err other) next is here =
        let nothing : worked.act ≡ page.Nothing = ap (λ (w : Worked). w.act) is ∙ next in
        subst (λ (a : PageAct). FitsCall worker a new) (sym nothing) (record { act = tt; calls = here })

-- ---- the registration of a worker

module _ (host : Hosted) (row : WorkerRow) (of : RegistrationRow) (there : registration_at row.registration host.registrations.rows ≡ Some of) where
  of_shown : registration_row (state_of host) row.registration ≡ Some (shown_of host of)
  of_shown =
      find_map (is_registration row.registration) (shown_of host) host.registrations.rows
      ∙ ap (option_map (shown_of host)) there

  -- a worker's own registration, where it is mapped
  pub own_shown : own_registration (state_of host) (shown_worker row)
      ≡ option_map (shown_of host) (if is_number (maps host.scopes of.key of.scope) of.number then Some of else None)
  own_shown =
      ap (option_and_then (λ (r : Registration). if r.mapped then Some r else None)) of_shown
      ∙ by (is_number (maps host.scopes of.key of.scope) of.number) refl
    where
      by : (mapped : Bool) → is_number (maps host.scopes of.key of.scope) of.number ≡ mapped
          → (if mapped then Some (shown_of host of) else None) ≡ option_map (shown_of host) (if mapped then Some of else None)
      by true is = refl
      by false is = refl

-- a worker whose registration isn't there has none
pub none_shown : (host : Hosted) (row : WorkerRow) → registration_at row.registration host.registrations.rows ≡ None → own_registration (state_of host) (shown_worker row) ≡ None
none_shown host row gone =
    ap (option_and_then (λ (r : Registration). if r.mapped then Some r else None))
    (find_map (is_registration row.registration) (shown_of host) host.registrations.rows ∙ ap (option_map (shown_of host)) gone)

-- ---- the next call of a handler

-- the row of a worker is that of its number
pub own_row : (host : Hosted) (worker : ℕ) (row : WorkerRow) → worker_at worker host.workers.rows ≡ Some row → HasRow row host
own_row host worker row there =
    subst (λ (n : ℕ). worker_at n host.workers.rows ≡ Some row)
    (sym (found_number (λ (w : WorkerRow). w.number) worker host.workers.rows row there)) there

module _ (host : Hosted) (worker : ℕ) (in_phase : Phase) (number : ℕ) (asked : Call) where
  abbrev comes : Option Outcome
  comes = make_call (state_of host) (who.Handler worker in_phase number) asked

  abbrev next_of : Worker → Option Outcome
  next_of row =
      if is_next_call (state_of host) row in_phase number asked
      then call_by (state_of host) (who.Handler worker in_phase number) row in_phase asked
      else None

  abbrev noted_for : WorkerRow → Option Registration → Option Outcome
  noted_for row found =
      option_map
      (λ r. noted (called (state_of host) (who.Handler worker in_phase number) (shown_worker row) in_phase r.key asked) row.number)
      found

  -- what holds of the next call of a worker holds of what its event comes to
  pub next_holds : (P : Outcome → Type 0) (row : WorkerRow) (of : RegistrationRow) → worker_at worker host.workers.rows ≡ Some row → registration_at row.registration host.registrations.rows ≡ Some of
      → P (noted_call (who.Handler worker in_phase number) in_phase row of.key asked (state_of host)) → IfSome comes P
  next_holds P row of there held holds =
      subst (λ (o : Option Worker). IfSome (option_and_then next_of o) P) (sym (row_shown host worker row there))
      (by (is_next_call (state_of host) (shown_worker row) in_phase number asked))
    where
      by : (is_next : Bool) → IfSome (if is_next then call_by (state_of host) (who.Handler worker in_phase number) (shown_worker row) in_phase asked else None) P
      by true = subst (λ (o : Option Registration). IfSome (noted_for row o) P) (sym (of_shown host row of held)) holds
      by false = tt

  -- the worker whose handler makes a call is there
  pub no_worker : IsSome comes → worker_at worker host.workers.rows ≡ None → ⊥
  no_worker happens gone =
      let none = worker_shown worker host.workers.rows ∙ ap (option_map shown_worker) gone in
      grind (arith, happens, none)

  module _ (row : WorkerRow) (there : worker_at worker host.workers.rows ≡ Some row) where
    happens_by : IsSome comes → IsSome (next_of (shown_worker row))
    happens_by = subst (λ (o : Option Worker). IsSome (option_and_then next_of o)) (row_shown host worker row there)

    -- and so is its registration
    pub no_registration : IsSome comes → registration_at row.registration host.registrations.rows ≡ None → ⊥
    no_registration happens gone =
        let none =
        find_map (is_registration row.registration) (shown_of host) host.registrations.rows
        ∙ ap (option_map (shown_of host)) gone in
        let by = happens_by happens in
        grind (arith, by, none)

    -- and its handler has calls left
    same_phases : (one other : Phase) → same_phase one other ≡ true → one ≡ other
    same_phases phase.Install phase.Install is = refl
    same_phases phase.Install phase.Activate is = absurd cc
    same_phases phase.Activate phase.Install is = absurd cc
    same_phases phase.Activate phase.Activate is = refl

    within : (calls : List Call) → option_map_or (same_call asked) (slice_get calls number) false ≡ true → nat_lt number (length calls) ≡ true
    within calls is = by (slice_get calls number) refl is
      where
        by : (found : Option Call) → slice_get calls number ≡ found → option_map_or (same_call asked) found false ≡ true → nat_lt number (length calls) ≡ true
        by None got is = absurd cc
        by (Some one) got is = let below = slice_get_within calls number one got in grind (arith, nat_tests, below)

    free_runs : (held : Bool) (found : Option Handler) → option_map_or (is_at in_phase number) (if held then None else found) false ≡ true → option_map_or (is_at in_phase number) found false ≡ true
    free_runs true found is = absurd cc
    free_runs false found is = is

    left_by : (found : Option HandlerRow) → option_map_or (is_at in_phase number) (option_map shown_handler found) false ≡ true
        → nat_lt number (length (workers.calls_of in_phase row.handlers)) ≡ true
        → option_map_or (λ h. nat_lt h.made (length (workers.calls_of h.phase row.handlers))) found false ≡ true
    left_by None is below = absurd cc
    left_by (Some h) is below =
        let parts = and_parts (same_phase h.phase in_phase) (h.made == number) is in
        let own = same_phases h.phase in_phase parts.0 in
        let made : h.made ≡ number = grind (arith, nat_tests, parts.1) in
        cc (own, made, below)

    next_left : is_next_call (state_of host) (shown_worker row) in_phase number asked ≡ true → workers.has_calls_left row ≡ true
    next_left is =
        let parts =
        and_parts (option_map_or (is_at in_phase number) (free_handler (state_of host) row.number) false)
        (option_map_or (same_call asked) (slice_get (rules.calls_of (shown_worker row) in_phase) number) false) is in
        let runs =
        free_runs _ (option_and_then (λ (w : Worker). w.handler) (worker_row (state_of host) row.number)) parts.0 in
        let at_it =
        ap (λ (o : Option Worker). option_map_or (is_at in_phase number) (option_and_then (λ (w : Worker). w.handler) o) false)
        (sym (row_shown host row.number row (own_row host worker row there)))
        ∙ runs in
        let below = within (rules.calls_of (shown_worker row) in_phase) parts.1 in
        left_by row.handler at_it
        (ap (λ (calls : List Call). nat_lt number (length calls)) (sym (same_calls (shown_worker row) in_phase)) ∙ below)

    pub calls_left : IsSome comes → workers.has_calls_left row ≡ true
    calls_left happens = let by = happens_by happens in next_left (grind (arith, by))

    -- what was worked out for it
    pub works_next : (new : Hosted) (of : RegistrationRow) (called_for : Call) (work : Work) → registration_at row.registration host.registrations.rows ≡ Some of → asked ≡ called_for
        → Means work host (noted_call (who.Handler worker in_phase number) in_phase row of.key called_for (state_of host)) → FitsWork work new → Works host new comes work
    works_next new of called_for work held is means fits = record {
      means =
          next_holds (Means work host) row of there held
          (subst (λ (k : Call). Means work host (noted_call (who.Handler worker in_phase number) in_phase row of.key k (state_of host))) (sym is) means);
      fits = fits;
    }
