-- The split over helpers and events, made once for all laws: a law of a state and of what follows it holds of each
-- event, if it holds of each least step. First what a law has to say, and what happens where a registration is left.
use Rattle.std.proofs.Common.{◌≡◌, ℕ, Bool, true, false, not, ◌&&◌, ◌==◌, List, length, Option, Some, None, Ok, IfSome, arith}
use Rattle.std.specs.Prelude.{option_and_then, is_none, is_some, map}
use Rattle.std.specs.Option.{option_map_or}
use Rattle.sw_data.specs.declared.answers.Fault.{Fault}
use Rattle.sw_data.specs.declared.answers.Settlement.{Settlement}
use Rattle.sw_data.specs.declared.answers.Settlement.TheVariants as settlement
use Rattle.sw_data.specs.declared.events.Event.{Event}
use Rattle.sw_data.specs.declared.events.Event.TheVariants as event
use Rattle.sw_data.specs.declared.events.Who.{Who}
use Rattle.sw_data.specs.declared.exchange.Op.{Op}
use Rattle.sw_data.specs.declared.exchange.Request.{Request}
use Rattle.sw_data.specs.declared.recordings.Fetched.{Fetched}
use Rattle.sw_data.specs.declared.recordings.FetchLine.{FetchLine}
use Rattle.sw_data.specs.declared.rows.ClientRow.{ClientRow}
use Rattle.sw_data.specs.declared.rows.Job.{Job}
use Rattle.sw_data.specs.declared.rows.JobPhase.{JobPhase}
use Rattle.sw_data.specs.declared.rows.JobRow.{JobRow}
use Rattle.sw_data.specs.declared.workers.Mode.{Mode}
use Rattle.sw_rules.specs.Activating.{activated, become_activated, is_owed, paid}
use Rattle.sw_rules.specs.Batch.{batch}
use Rattle.sw_rules.specs.Caching.{add_cache, add_task, added, carry_out, drop_cache, pairs_of, settle_task}
use Rattle.sw_rules.specs.Forgetting.{forget_key, is_busy}
use Rattle.sw_rules.specs.Calls.{note_call}
use Rattle.sw_rules.specs.Clients.{add_client, add_event, claim_clients, flagged, leave, new_client, remove_event}
use Rattle.sw_rules.specs.Installing.{begin_install, end_handler, ended_handler, evaluated, fail_install, fetched, finish_install, installed, job_worker, make_worker, reject_and_drop, tell_update, throw}
use Rattle.sw_rules.specs.Jobs.{finish, promise, schedule, settle}
use Rattle.sw_rules.specs.Matching.{Pair}
use Rattle.sw_rules.specs.Preloading.{set_preload}
use Rattle.sw_rules.specs.Registering.{fetch_script, may_run, run}
use Rattle.sw_rules.specs.Registrations.{activate, chosen, clear, left_by, map_registration, recheck, release, set_mode, try_activate, try_clear, unload, unmap}
use Rattle.sw_rules.specs.Rows.{active_worker_number, client_row, event_row, has_pending_worker, has_worker, is_in_phase, is_activating, is_active, is_evaluating, is_fetching, is_install, is_installing, is_mapped, is_used, job_row, maker_worker, mapped_registration, task_row, worker_row}
use Rattle.sw_rules.specs.State.{State, Registration, Worker, Awaited, Handler}
use Rattle.sw_rules.specs.Told.{Told, followed, quiet}
use Rattle.sw_laws.specs.Coherent.{is_running, is_settled_phase, is_there}
use Rattle.sw_laws.proofs.Lists.{by_option}

-- ---- jobs and addAlls that may come to their end

-- a job that joined no other is there, and is before its installing
abbrev pub may_end : State → ℕ → Bool
may_end state job =
    option_map_or (λ row. is_none row.leader && not (is_settled_phase row.phase)) (job_row state job) false

-- and its promise has settled
abbrev pub may_finish : State → ℕ → Bool
may_finish state job =
    option_map_or (λ row. is_none row.leader && not (is_settled_phase row.phase) && is_some row.settled) (job_row state job) false

-- an addAll is there, and has not settled
abbrev pub may_settle : State → ℕ → Bool
may_settle state task = option_map_or (λ row. is_none row.settled) (task_row state task) false

-- ---- a job in a phase

-- the row of a job in a phase, with its registration
pub record IsAt (state : State) (test : JobPhase → Bool) (row : JobRow) (registration : ℕ) : Type 0 where
  pub found : job_row state row.job.number ≡ Some row
  pub phase : is_in_phase test row ≡ true
  pub registered : row.registration ≡ Some registration

-- the worker that such a job made, with its handler at its end
pub record IsInstalled (state : State) (row : JobRow) (registration : ℕ) (worker : Worker) (handler : Handler) : Type 0 where
  pub at : IsAt state is_installing row registration
  pub made : job_worker state row ≡ Some worker
  pub ended : ended_handler state is_install worker ≡ Some handler

-- ---- leaving a registration

-- a law of what happens where this registration is rechecked
pub record IsRecheckLawOf (registration : ℕ) (Law : State → Told → Type 0) : Type 0 where
  pub nothing : (state : State) → Law state (quiet state)
  pub further : (state : State) (told : Told) (next : State → Told) → Law state told → Law told.state (next told.state) → Law state (followed told next)
  pub activating : (state : State) (worker : ℕ) → chosen state registration ≡ Some worker → Law state (activate state registration worker)
  pub clearing : (state : State) → is_mapped state registration ≡ false → is_used state registration ≡ false → has_pending_worker state registration ≡ false → Law state (clear state registration)

-- and of any registration
pub record IsRecheckLaw (Law : State → Told → Type 0) : Type 0 where
  pub nothing : (state : State) → Law state (quiet state)
  pub further : (state : State) (told : Told) (next : State → Told) → Law state told → Law told.state (next told.state) → Law state (followed told next)
  pub activating : (state : State) (registration worker : ℕ) → chosen state registration ≡ Some worker → Law state (activate state registration worker)
  pub clearing : (state : State) (registration : ℕ) → is_mapped state registration ≡ false → is_used state registration ≡ false → has_pending_worker state registration ≡ false → Law state (clear state registration)

pub law_of : {Law : State → Told → Type 0} (registration : ℕ) → IsRecheckLaw Law → IsRecheckLawOf registration Law
law_of registration law = record {
  nothing = law.nothing;
  further = law.further;
  activating = λ state worker is. law.activating state registration worker is;
  clearing = λ state gone unused calm. law.clearing state registration gone unused calm;
}

module _ (Law : State → Told → Type 0) (registration : ℕ) (law : IsRecheckLawOf registration Law) where
  pub try_activate-law : (state : State) → Law state (try_activate state registration)
  unfolding try_activate
  try_activate-law state =
      by_option (Law state) (chosen state registration) _ _ (λ none. law.nothing state) (λ worker is. law.activating state worker is)

  pub try_clear-law : (state : State) → is_mapped state registration ≡ false → Law state (try_clear state registration)
  unfolding try_clear
  try_clear-law state gone = grind (arith, law.nothing, law.clearing, gone)

  pub recheck-law : (state : State) → Law state (recheck state registration)
  unfolding recheck
  recheck-law state = grind (arith, law.nothing, law.further, try_activate-law, try_clear-law)

  pub release-law : (state : State) → Law state (release state registration)
  unfolding release
  release-law state = grind (arith, law.nothing, recheck-law)

-- and where a client leaves it
pub unload-law : (Law : State → Told → Type 0) (law : IsRecheckLaw Law) → ((state : State) (client : ℕ) → Law state (quiet (left_by client state))) → (state : State) (client : ℕ) → Law state (unload state client)
unfolding unload
unload-law Law law leaving state client = grind (arith, law.nothing, law.further, leaving, λ (registration : ℕ). release-law Law registration (law_of registration law))

-- ---- what a law has to say

-- a law of the steps in which a registration leaves the map because its job ends: that of unregistering, and that of a
-- fetch which is rejected, as a whole
pub record IsLeavingLaw (Law : State → Told → Type 0) : Type 0 where
  pub unregistering : (state : State) (row : JobRow) (registration : Registration) → job_row state row.job.number ≡ Some row → may_run state row ≡ true → mapped_registration state row.job.key row.job.scope ≡ Some registration → Law state (unmap state registration.number)
  pub rejecting : (state : State) (row : JobRow) (registration : ℕ) (why : Fault) → IsAt state is_fetching row registration → Law state (reject_and_drop state row.job.number registration why)

-- a law of a registration that leaves the map: anywhere, or only there
abbrev pub LeavesMap : Bool → (State → Told → Type 0) → Type 0
LeavesMap true Law = (state : State) (registration : ℕ) → Law state (unmap state registration)
LeavesMap false Law = IsLeavingLaw Law

-- a law of a registration that gets a preload: anywhere, or only where it has an active worker
abbrev pub GetsPreload : Bool → (State → Told → Type 0) → Type 0
GetsPreload true Law = (state : State) (registration : ℕ) (on : Bool) (text : List ℕ) → Law state (set_preload state registration on text)
GetsPreload false Law = (state : State) (registration : ℕ) (on : Bool) (text : List ℕ) → is_some (active_worker_number state registration) ≡ true → Law state (set_preload state registration on text)

-- a law of all events: it holds of each least step, under the tests under which the step is taken; what gives a client
-- a controller that it hadn't is asked for only where that counts, a registration leaves the map and gets a preload
-- anywhere or only as the events have it, of what moves a worker on another law is asked, and of what ends a job, its
-- fetch or an addAll a third
pub record IsLawBeside (Law Own Ends : State → Told → Type 0) (controls anywhere : Bool) : Type 0 where
  pub rechecks : IsRecheckLaw Law
  pub scheduling : (state : State) (job : Job) → job.number ≡ length state.jobs → Law state (schedule state job)
  pub promising : (state : State) (who : Who) (awaited : Awaited) → is_there state.jobs state.tasks awaited ≡ true → Law state (promise state who awaited)
  pub settling : (state : State) (job : ℕ) (result : Settlement) → may_end state job ≡ true → Law state (settle state job result)
  pub finishing : (state : State) (job : ℕ) → may_finish state job ≡ true → Ends state (finish state job)
  pub mapping : (state : State) (job : Job) → mapped_registration state job.key job.scope ≡ None → Law state (map_registration state job)
  pub unmapping : LeavesMap anywhere Law
  pub moding : (state : State) (registration : ℕ) (mode : Mode) → Law state (set_mode state registration mode)
  pub preloading : GetsPreload anywhere Law
  pub fetching : (state : State) (row : JobRow) (registration : Registration) → job_row state row.job.number ≡ Some row → may_run state row ≡ true → mapped_registration state row.job.key row.job.scope ≡ Some registration → Law state (fetch_script state row.job registration.number)
  pub making : (state : State) (row : JobRow) (registration : ℕ) (fetched : Fetched) → IsAt state is_fetching row registration → Ends state (make_worker state row registration fetched)
  pub throwing : (state : State) (row : JobRow) (registration : ℕ) (worker : Worker) → IsAt state is_evaluating row registration → job_worker state row ≡ Some worker → Ends state (throw state row.job.number registration worker.number)
  pub beginning : (state : State) (row : JobRow) (registration : ℕ) (worker : Worker) → IsAt state is_evaluating row registration → job_worker state row ≡ Some worker
      → Own state (followed (begin_install state row.job.number registration worker.number) (λ begun. followed (settle begun row.job.number (settlement.Registration registration)) (λ settled. tell_update settled registration)))
  pub failing : (state : State) (row : JobRow) (registration : ℕ) (worker : Worker) (handler : Handler) → IsInstalled state row registration worker handler → Ends state (fail_install state row registration worker.number)
  pub installing : (state : State) (row : JobRow) (registration : ℕ) (worker : Worker) (handler : Handler) → IsInstalled state row registration worker handler → Own state (finish_install state row.job.number registration worker)
  pub paying : (state : State) (registration : ℕ) (told : Told) → is_owed state registration ≡ true → Law (paid registration state) told → Law state told
  pub activated : (state : State) (worker : Worker) (handler : Handler) (next : State → Told) → worker_row state worker.number ≡ Some worker → ended_handler state (λ phase. not (is_install phase)) worker ≡ Some handler → ((after : State) → Law after (next after))
      → Own state (followed (end_handler state worker.number) (λ ended. followed (become_activated ended worker.registration worker.number) next))
  pub opening : controls ≡ true → (state : State) (number : ℕ) (key url : List ℕ) → is_some (client_row state number) ≡ false → Law state (add_client state (new_client state number key url))
  pub closing : (state : State) (number : ℕ) → Law state (leave state number)
  pub flagging : (state : State) (worker : ℕ) → Law state (quiet (flagged worker state))
  pub claiming : controls ≡ true → (state : State) (worker : Worker) → has_worker (λ row. row.registration == worker.registration && is_active row.state) state.workers worker.number ≡ true
      → Law state (claim_clients state worker.number worker.registration (map (λ client. client.number) state.clients))
  pub adding : (state : State) (client number : ℕ) (row : ClientRow) (worker : Worker) → client_row state client ≡ Some row → option_and_then (worker_row state) row.controller ≡ Some worker → is_activating worker ≡ false → is_some (event_row state number) ≡ false
      → Law state (add_event state number worker.number)
  pub ending : (state : State) (number : ℕ) → Law state (remove_event state number)
  pub caching : (state : State) (key name : List ℕ) → is_some (pairs_of key name state.caches) ≡ false → Law state (add_cache state key name)
  pub dropping : (state : State) (key name : List ℕ) → Law state (drop_cache state key name)
  pub carrying : (state : State) (key name : List ℕ) (ops : List Op) (pairs new : List Pair) → pairs_of key name state.caches ≡ Some pairs → batch pairs ops ≡ Ok new → Law state (carry_out state key name ops new)
  pub forgetting : (state : State) (key : List ℕ) → is_busy state key ≡ false → Law state (forget_key state key)
  pub awaiting : (state : State) (who : Who) (key name : List ℕ) (requests : List Request) → is_running state.workers (maker_worker who) ≡ true → Law state (add_task state who key name requests)
  pub answering : (state : State) (number : ℕ) (result : Settlement) (faulted : Bool) → may_settle state number ≡ true → Ends state (settle_task state number result faulted)
  pub noting : (state : State) (worker : ℕ) (faulted : Bool) → Law state (note_call state worker faulted)

-- a law that is asked of all steps alike
abbrev pub IsLawWhere : (State → Told → Type 0) → Bool → Bool → Type 0
IsLawWhere Law controls anywhere = IsLawBeside Law Law Law controls anywhere

-- a law that holds of a registration which leaves the map or gets a preload anywhere
abbrev pub IsLaw : (State → Told → Type 0) → Bool → Type 0
IsLaw Law controls = IsLawWhere Law controls true

-- a law of the three events that move a worker on
pub record IsMoveLaw (Law : State → Told → Type 0) : Type 0 where
  pub evaluating : (state : State) (number : ℕ) → IfSome (evaluated state number) (λ outcome. Law state outcome.told)
  pub installing : (state : State) (number : ℕ) → IfSome (installed state number) (λ outcome. Law state outcome.told)
  pub activating : (state : State) (number : ℕ) → IfSome (activated state number) (λ outcome. Law state outcome.told)

-- a law of the events of the host that move a job, a worker or an addAll on; of the ends of fetches only where they are
-- allowed
pub record IsHostLaw (Allowed : Event → Type 0) (Law : State → Told → Type 0) : Type 0 where
  pub moves : IsMoveLaw Law
  pub running : (state : State) (number : ℕ) → IfSome (run state number) (λ outcome. Law state outcome.told)
  pub fetching : (state : State) (maker : Who) (number : ℕ) (line : Option FetchLine) → Allowed (event.Fetched maker number line) → IfSome (fetched state number line) (λ outcome. Law state outcome.told)
  pub adding : (state : State) (maker : Who) (number : ℕ) (lines : List (Option FetchLine)) → Allowed (event.Added maker number lines) → IfSome (added state number lines) (λ outcome. Law state outcome.told)
