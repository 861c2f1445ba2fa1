-- When an event is enabled: by the rows of a state, and by the tables that show it.
use Rattle.std.proofs.Common.{◌≡◌, ◌∙◌, ◌==◌, ℕ, Bool, true, false, not, ◌&&◌, List, Option, Some, None, option_map, option_and_then, is_none, is_some, refl, sym, ap, if◌then◌else◌}
use Rattle.std.specs.Option.{option_map_or}
use Rattle.sw_next.proofs.Boards.{some_mapped}
use Rattle.sw_state.specs.Hosted.{Hosted, rest_of, state_of}
use Rattle.sw_data.specs.declared.answers.Answer.TheVariants as answer
use Rattle.sw_data.specs.declared.events.Event.{Event}
use Rattle.sw_data.specs.declared.events.Event.TheVariants as event
use Rattle.sw_data.specs.declared.events.Who.{Who}
use Rattle.sw_data.specs.declared.events.Who.TheVariants as who
use Rattle.sw_data.specs.declared.recordings.Call.{Call}
use Rattle.sw_data.specs.declared.recordings.FetchLine.{FetchLine}
use Rattle.sw_data.specs.declared.rows.HandlerRow.{HandlerRow}
use Rattle.sw_data.specs.declared.rows.JobRow.{JobRow}
use Rattle.sw_data.specs.declared.rows.RegistrationRow.{RegistrationRow}
use Rattle.sw_data.specs.declared.rows.WorkerRow.{WorkerRow}
use Rattle.sw_data.specs.declared.workers.Phase.{Phase}
use Rattle.sw_data.specs.Events.{is_handler, is_lane, who_of}
use Rattle.sw_reg.specs.Table.{registration_at}
use Rattle.sw_rules.specs.Activating.{activated, finish_activate, is_owed, pay, tryactivate}
use Rattle.sw_rules.specs.Calls.{call_by, called, is_next_call, make_call, noted}
use Rattle.sw_rules.specs.Caching.{added, task_ended}
use Rattle.sw_rules.specs.Clients.{await, begin}
use Rattle.sw_rules.specs.Installing.{ended_handler, evaluated, evaluated_worker, fetch_ended, fetched, fetched_of, install_ended, installed, job_worker}
use Rattle.sw_rules.specs.Registering.{may_run, run, run_job}
use Rattle.sw_rules.specs.Rows.{is_in_phase, is_evaluating, is_fetching, is_install, is_installing, is_registration, job_row, registration_row, task_row, worker_row}
use Rattle.sw_rules.specs.State.{State, AddAll, Registration, Worker}
use Rattle.sw_rules.specs.Step.{enabled, step}
use Rattle.sw_rules.specs.Told.{Outcome}
use Rattle.sw_tables.proofs.Lookups.{worker_shown}
use Rattle.sw_tables.proofs.Rows.{any_at, any_map, find_map}
use Rattle.sw_tables.specs.Ends.{is_in}
use Rattle.sw_tables.specs.Lent.{shown_handler, shown_registration, shown_worker}
use Rattle.sw_tables.specs.Linked.{ArePlaces}
use Rattle.sw_worker.specs.Table.{worker_at}

-- ---- options

where_so : {X : Type 0} (test : Bool) (x : X) → test ≡ is_some (if test then Some x else None)
where_so true x = refl
where_so false x = refl

mapped_so : {X Y : Type 0} (test : Bool) (f : X → Y) (o : Option X) → (test && is_some o) ≡ is_some (if test then option_map f o else None)
mapped_so true f o = some_mapped f o
mapped_so false f o = refl

some_then : {X Y Z : Type 0} (next : X → Option Y) (f : X → Y → Z) (o : Option X) → is_some (option_and_then next o) ≡ is_some (option_and_then (λ x. option_map (f x) (next x)) o)
some_then next f None = refl
some_then next f (Some x) = some_mapped (f x) (next x)

-- what follows a value that passes
some_taken : {X Y : Type 0} (test : Bool) (next : X → Option Y) (x : X) → (test && is_some (next x)) ≡ is_some (option_and_then next (if test then Some x else None))
some_taken true next x = refl
some_taken false next x = refl

-- what follows two values, where the second is there
some_both : {X Y Z : Type 0} (o : Option X) (p : Option Y) (f : X → Y → Z) → (is_some o && is_some p) ≡ is_some (option_and_then (λ x. option_map (f x) p) o)
some_both None p f = refl
some_both (Some x) None f = refl
some_both (Some x) (Some y) f = refl

-- ---- events of the host

-- a job runs where it may
pub runs_where : (state : State) (job : ℕ) → option_map_or (may_run state) (job_row state job) false ≡ is_some (run state job)
runs_where state job = by (job_row state job)
  where
    by : (o : Option JobRow) → option_map_or (may_run state) o false ≡ is_some (elim o [ None ↦ None | Some row ↦ if may_run state row then Some (run_job state row.job) else None ])
    by None = refl
    by (Some row) = where_so (may_run state row) (run_job state row.job)

-- the fetch of a job ends where it is in flight
pub fetched_where : (state : State) (job : ℕ) (line : Option FetchLine)
    → option_map_or (λ row. is_in_phase is_fetching row && is_some row.registration) (job_row state job) false ≡ is_some (fetched state job line)
fetched_where state job line = by (job_row state job)
  where
    ended : JobRow → Option Outcome
    ended row = option_map (fetch_ended state row (fetched_of line)) row.registration

    by : (o : Option JobRow) → option_map_or (λ row. is_in_phase is_fetching row && is_some row.registration) o false
        ≡ is_some (option_and_then ended (option_and_then (λ row. if is_in_phase is_fetching row then Some row else None) o))
    by None = refl
    by (Some row) =
        ap (λ b. is_in_phase is_fetching row && b) (some_mapped (fetch_ended state row (fetched_of line)) row.registration)
        ∙ some_taken (is_in_phase is_fetching row) ended row

-- own: a job's script may be evaluated: the job has its registration and its worker
abbrev pub may_evaluate : State → JobRow → Bool
may_evaluate state row = is_in_phase is_evaluating row && (is_some row.registration && is_some (job_worker state row))

pub evaluated_where : (state : State) (job : ℕ) → option_map_or (may_evaluate state) (job_row state job) false ≡ is_some (evaluated state job)
evaluated_where state job = by (job_row state job)
  where
    next : JobRow → Option Outcome
    next row = option_and_then (λ registration. option_map (evaluated_worker state row.job registration) (job_worker state row)) row.registration

    by : (o : Option JobRow) → option_map_or (may_evaluate state) o false
        ≡ is_some (option_and_then next (option_and_then (λ row. if is_in_phase is_evaluating row then Some row else None) o))
    by None = refl
    by (Some row) =
        ap (λ b. is_in_phase is_evaluating row && b) (some_both row.registration (job_worker state row) (evaluated_worker state row.job))
        ∙ some_taken (is_in_phase is_evaluating row) next row

-- own: the install handler of a job's worker may end: the job has its registration, and the handler has made its calls
abbrev pub may_end_install : State → JobRow → Bool
may_end_install state row =
    is_in_phase is_installing row && (is_some row.registration && is_some (option_and_then (ended_handler state is_install) (job_worker state row)))

pub installed_where : (state : State) (job : ℕ) → option_map_or (may_end_install state) (job_row state job) false ≡ is_some (installed state job)
installed_where state job = by (job_row state job)
  where
    next : JobRow → Option Outcome
    next row =
        option_and_then (λ registration.
        option_and_then (λ worker. option_map (install_ended state row registration worker) (ended_handler state is_install worker)) (job_worker state row))
        row.registration

    follows : (row : JobRow) (registration : Option ℕ) (worker : Option Worker)
        → (is_some registration && is_some (option_and_then (ended_handler state is_install) worker))
        ≡ is_some (option_and_then (λ number. option_and_then (λ made. option_map (install_ended state row number made) (ended_handler state is_install made)) worker) registration)
    follows row None worker = refl
    follows row (Some number) worker = some_then (ended_handler state is_install) (install_ended state row number) worker

    by : (o : Option JobRow) → option_map_or (may_end_install state) o false
        ≡ is_some (option_and_then next (option_and_then (λ row. if is_in_phase is_installing row then Some row else None) o))
    by None = refl
    by (Some row) =
        ap (λ b. is_in_phase is_installing row && b) (follows row row.registration (job_worker state row))
        ∙ some_taken (is_in_phase is_installing row) next row

-- a Try Activate happens where it is owed
pub tried_where : (state : State) (registration : ℕ) → is_owed state registration ≡ is_some (tryactivate state registration)
tried_where state registration = where_so (is_owed state registration) (pay state registration)

-- an activate handler ends where it has made its calls
pub activated_where : (state : State) (worker : ℕ)
    → is_some (option_and_then (ended_handler state (λ phase. not (is_install phase))) (worker_row state worker)) ≡ is_some (activated state worker)
activated_where state worker =
    some_then (ended_handler state (λ phase. not (is_install phase)))
    (λ row handler. record { answer = answer.Ok; told = finish_activate state row.registration row.number }) (worker_row state worker)

-- the fetches of an addAll end where it has not settled
pub added_where : (state : State) (task : ℕ) (lines : List (Option FetchLine)) → option_map_or (λ row. is_none row.settled) (task_row state task) false ≡ is_some (added state task lines)
added_where state task lines = by (task_row state task)
  where
    by : (o : Option AddAll) → option_map_or (λ row. is_none row.settled) o false ≡ is_some (option_and_then (λ row. if is_none row.settled then Some (task_ended state lines row) else None) o)
    by None = refl
    by (Some row) = where_so (is_none row.settled) (task_ended state lines row)

-- ---- calls of handlers

-- a call of a handler happens where it is the next one, and the registration of the worker is there
pub called_where : (state : State) (worker : ℕ) (phase : Phase) (number : ℕ) (call : Call)
    → option_map_or (λ row. is_next_call state row phase number call && is_some (registration_row state row.registration)) (worker_row state worker) false
    ≡ is_some (make_call state (who.Handler worker phase number) call)
called_where state worker phase number call = by (worker_row state worker)
  where
    by : (o : Option Worker) → option_map_or (λ row. is_next_call state row phase number call && is_some (registration_row state row.registration)) o false
        ≡ is_some (option_and_then (λ row. if is_next_call state row phase number call then call_by state (who.Handler worker phase number) row phase call else None) o)
    by None = refl
    by (Some row) =
        mapped_so (is_next_call state row phase number call)
        (λ found. noted (called state (who.Handler worker phase number) row phase found.key call) row.number) (registration_row state row.registration)

-- ---- events and their makers

module _ (state : State) (happened : Event) (by : Who) (lane at : ℕ) (may : Bool) (made : who_of happened ≡ who.Lane lane at) where
  -- a lane awaits a promise
  pub awaited_where : (of : ℕ) → happened ≡ event.Await by of → may ≡ is_some (await state (who.Lane lane at) of) → may ≡ enabled state happened
  unfolding step who_of
  awaited_where of is holds =
      holds ∙ (ap (λ (w : Who). is_some (if is_lane w then await state w of else None)) (sym made ∙ ap who_of is) ∙ sym (ap (λ (e : Event). is_some (step state e)) is))

  -- a fetch event of a lane begins
  pub begun_where : (client number : ℕ) → happened ≡ event.Begin by client number → may ≡ is_some (begin state client number) → may ≡ enabled state happened
  unfolding step who_of
  begun_where client number is holds =
      holds ∙ (ap (λ (w : Who). is_some (if is_lane w then begin state client number else None)) (sym made ∙ ap who_of is) ∙ sym (ap (λ (e : Event). is_some (step state e)) is))

-- a call of another than a handler doesn't happen
handled : (state : State) (w : Who) (call : Call) → make_call state w call ≡ (if is_handler w then make_call state w call else None)
handled state (who.Handler worker p number) call = refl
handled state (who.Lane lane at) call = refl
handled state who.Host call = refl

-- a call happens in the name of its maker
pub call_comes : (state : State) (happened : Event) (by : Who) (call : Call) (maker : Who) → happened ≡ event.Call by call → who_of happened ≡ maker
    → make_call state maker call ≡ step state happened
unfolding step who_of
call_comes state happened by call maker is made =
    ap (λ (w : Who). make_call state w call) (sym made ∙ ap who_of is) ∙ (handled state by call ∙ sym (ap (step state) is))

-- ---- by the tables of a host

-- a registration is there where its row is
pub registration_there : (host : Hosted) (n : ℕ) (o : Option RegistrationRow) → o ≡ registration_at n host.registrations.rows → is_some o ≡ is_some (registration_row (state_of host) n)
registration_there host n o is =
    some_mapped (shown_registration host.scopes (rest_of host)) o
    ∙ ap is_some (ap (option_map (shown_registration host.scopes (rest_of host))) is
    ∙ sym (find_map (is_registration n) (shown_registration host.scopes (rest_of host)) host.registrations.rows))

-- a registration is owed a Try Activate by its row
pub owed_shown : (host : Hosted) → ArePlaces (λ (row : RegistrationRow). row.number) host.registrations.rows → (n : ℕ) (o : Option RegistrationRow)
    → o ≡ registration_at n host.registrations.rows → option_map_or (λ row. row.owed) o false ≡ is_owed (state_of host) n
owed_shown host are n o is =
    ap (λ found. option_map_or (λ (row : RegistrationRow). row.owed) found false) is
    ∙ sym (any_map (λ (row : Registration). row.number == n && row.owed) (shown_registration host.scopes (rest_of host)) host.registrations.rows
    ∙ any_at (λ (row : RegistrationRow). row.number) (λ (row : RegistrationRow). row.owed) n host.registrations.rows are)

-- the handler of a worker is at its end by the worker's row
pub ends_shown : (host : Hosted) (phase : Phase) (worker : ℕ) (row : WorkerRow) (found : Option HandlerRow) → worker_at worker host.workers.rows ≡ Some row
    → option_map shown_handler found ≡ ended_handler (state_of host) (is_in phase) (shown_worker row)
    → is_some found ≡ is_some (option_and_then (ended_handler (state_of host) (is_in phase)) (worker_row (state_of host) worker))
ends_shown host phase worker row found here is =
    some_mapped shown_handler found
    ∙ (ap is_some is
    ∙ ap (λ (o : Option Worker). is_some (option_and_then (ended_handler (state_of host) (is_in phase)) o))
    (sym (worker_shown worker host.workers.rows ∙ ap (option_map shown_worker) here)))
