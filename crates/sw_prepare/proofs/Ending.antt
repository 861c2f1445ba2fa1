-- The durable changes of the end of an install handler.
use Rattle.std.proofs.Common.{◌≡◌, ◌∙◌, ◌==◌, subst, ℕ, Bool, true, false, ◌&&◌, ◌||◌, List, [], ◌∷◌, ◌++◌, map, Option, Some, None, option_map, option_and_then, find, is_some, is_none, refl, sym, ap, arith, if◌then◌else◌}
use Rattle.std.specs.Prelude.{IfSome, option_to_list}
use Rattle.std.specs.Option.{option_map_or}
use Rattle.std.specs.List.{list_any}
use Rattle.std.proofs.lemmas.Bool.{and_parts}
use Rattle.std.proofs.lemmas.Bool.Decides.{nat_tests}
use Rattle.std.proofs.lemmas.List.{append-nil}
use Rattle.sw_client.specs.Table as clients
use Rattle.sw_data.specs.declared.answers.Answer.TheVariants as answer
use Rattle.sw_data.specs.declared.rows.JobPhase.TheVariants as job_phase
use Rattle.sw_data.specs.declared.rows.JobRow.{JobRow}
use Rattle.sw_data.specs.declared.rows.RegistrationRow.{RegistrationRow}
use Rattle.sw_data.specs.declared.rows.WorkerRow.{WorkerRow}
use Rattle.sw_data.specs.declared.storage.Change.TheVariants as change
use Rattle.sw_data.specs.declared.workers.Slot.{Slot}
use Rattle.sw_data.specs.declared.workers.Slot.TheVariants as slot
use Rattle.sw_data.specs.declared.workers.WorkerState.{WorkerState}
use Rattle.sw_data.specs.declared.workers.WorkerState.TheVariants as worker_state
use Rattle.sw_prepare.specs.OfJobs.{end_changes, failure_changes, gone_changes, has_failed, install_changes, waiting_changes, worker_changes, worker_of_job}
use Rattle.sw_prepare.specs.Telling.{HasChanges}
use Rattle.sw_install.proofs.Enabled.{both, if_some}
use Rattle.sw_install.specs.Underway.{GoesItsWay, IsMade, IsUnderWay}
use Rattle.sw_reg.specs.Table as registrations
use Rattle.sw_reg.specs.Table.{registration_at}
use Rattle.sw_rules.specs.Installing.{become_waiting, end_handler, ended_handler, fail_install, finish_install, install_ended, installed, is_over, job_worker, kept_worker, owe_try_activate}
use Rattle.sw_laws.proofs.AtOnce as at_once
use Rattle.sw_rules.specs.Jobs.{finish}
use Rattle.sw_rules.specs.Registrations.{become, unmap}
use Rattle.sw_rules.specs.Rows.{free_handler, is_in_phase, in_slot, is_install, is_installing, is_job, is_registration, is_unsettled_of, is_worker, registration_row, slot_worker, worker_row}
use Rattle.sw_rules.specs.State.{State, Registration, Worker, Handler}
use Rattle.sw_rules.specs.Told.{Outcome, Told, followed, is_kept, quiet}
use Rattle.sw_scope.specs.Scopes.{Scopes}
use Rattle.sw_tables.proofs.Rows.{find_map, found_number, map_on}
use Rattle.sw_tables.specs.Happened.{with_jobs}
use Rattle.sw_tables.specs.Lent.{Rest, lent, shown_registration, shown_worker}
use Rattle.sw_tables.specs.Linked.{ArePlaces, HasSlots}
use Rattle.sw_tables.specs.Parts as parts
use Rattle.sw_worker.specs.Table as workers
use Rattle.sw_worker.specs.Table.{has_worker, worker_at}

-- ---- a worker that installs stands in no other slot, so that what is kept stays so without it

seen : {X Y : Type 0} (test : Y → Bool) (f : X → Y) (xs : List X) → is_some (find test (map f xs)) ≡ is_some (find (λ x. test (f x)) xs)
seen test f [] = refl
seen test f (x ∷ xs) = grind (arith, seen test f xs)

seen_by : {X : Type 0} (test : X → Bool) (xs : List X) → is_some (find test xs) ≡ list_any (λ (b : Bool). b) (map test xs)
seen_by test [] = refl
seen_by test (x ∷ xs) = grind (arith, seen_by test xs)

-- two tests that agree on each row that is there
seen_on : (number : WorkerRow → ℕ) (test other : WorkerRow → Bool) (rows : List WorkerRow) → ArePlaces number rows
    → ((x : WorkerRow) → find (λ row. number row == number x) rows ≡ Some x → test x ≡ other x) → is_some (find test rows) ≡ is_some (find other rows)
seen_on number test other rows are agree =
    seen_by test rows ∙ (ap (list_any (λ (b : Bool). b)) (map_on number test other rows are agree) ∙ sym (seen_by other rows))

kept_same : (old new : State) (n : ℕ) → new.registrations ≡ old.registrations
    → ((m : ℕ) → is_some (slot_worker new slot.Waiting m) ≡ is_some (slot_worker old slot.Waiting m))
    → ((m : ℕ) → is_some (slot_worker new slot.Active m) ≡ is_some (slot_worker old slot.Active m)) → gone_changes new n ≡ gone_changes old n
kept_same old new n rows waiting active =
    ap (λ (list : List Registration). option_map_or (λ (row : Registration). if is_kept new row then change.Gone row.key row.scope ∷ [] else []) (find (λ (row : Registration). row.number == n) list) []) rows
    ∙ by (registration_row old n)
  where
    same : (row : Registration) → is_kept new row ≡ is_kept old row
    same row =
        ap (λ (b : Bool). row.mapped && (b || is_some (slot_worker new slot.Active row.number))) (waiting row.number)
        ∙ ap (λ (b : Bool). row.mapped && (is_some (slot_worker old slot.Waiting row.number) || b)) (active row.number)

    by : (o : Option Registration) → option_map_or (λ (row : Registration). if is_kept new row then change.Gone row.key row.scope ∷ [] else []) o []
        ≡ option_map_or (λ (row : Registration). if is_kept old row then change.Gone row.key row.scope ∷ [] else []) o []
    by None = refl
    by (Some row) = ap (λ (b : Bool). if b then change.Gone row.key row.scope ∷ [] else []) (same row)

installs : (s : WorkerState) → parts.is_installing s ≡ true → s ≡ worker_state.Installing
installs worker_state.Installing is = refl
installs worker_state.Parsed is = absurd cc
installs worker_state.Installed is = absurd cc
installs worker_state.Activating is = absurd cc
installs worker_state.Activated is = absurd cc
installs worker_state.Redundant is = absurd cc

module _ (of_workers : workers.Table) (are : ArePlaces (λ (row : WorkerRow). row.number) of_workers.rows) (n w : ℕ) (has : has_worker (parts.is_of_in parts.is_installing n) w of_workers.rows ≡ true) where
  -- the worker of this number installs
  state_of : (x : WorkerRow) → worker_at x.number of_workers.rows ≡ Some x → (x.number == w) ≡ true → x.state ≡ worker_state.Installing
  state_of x there own =
      let same : x.number ≡ w = grind (arith, nat_tests, own) in
      let found : worker_at w of_workers.rows ≡ Some x = ap (λ (m : ℕ). worker_at m of_workers.rows) (sym same) ∙ there in
      let passes : parts.is_of_in parts.is_installing n x ≡ true = ap (λ (o : Option WorkerRow). option_map_or (parts.is_of_in parts.is_installing n) o false) (sym found) ∙ has in
      installs x.state (and_parts (x.registration == n) (parts.is_installing x.state) passes).1

  abbrev over : Worker → Worker
  over row = if is_worker w row then record row { handler = None } else row

  abbrev gone : Worker → Worker
  gone row = if is_worker w row then record row { state = worker_state.Redundant } else row

  module _ (place : Slot) (m : ℕ) (installing : in_slot place worker_state.Installing ≡ false) (redundant : in_slot place worker_state.Redundant ≡ false) where
    abbrev stands : Worker → Bool
    stands row = row.registration == m && in_slot place row.state

    one : (x : WorkerRow) → worker_at x.number of_workers.rows ≡ Some x → (b : Bool) → (x.number == w) ≡ b
        → stands (gone (if b then record (shown_worker x) { handler = None } else shown_worker x)) ≡ stands (shown_worker x)
    one x there true own =
        ap (λ (b : Bool). stands (if b then record (record (shown_worker x) { handler = None }) { state = worker_state.Redundant } else record (shown_worker x) { handler = None })) own
        ∙ (ap (λ (b : Bool). x.registration == m && b) (redundant ∙ sym installing)
        ∙ ap (λ (s : WorkerState). x.registration == m && in_slot place s) (sym (state_of x there own)))
    one x there false other =
        ap (λ (b : Bool). stands (if b then record (shown_worker x) { state = worker_state.Redundant } else shown_worker x)) other

    pub without : is_some (find stands (map gone (map over (map shown_worker of_workers.rows)))) ≡ is_some (find stands (map shown_worker of_workers.rows))
    without =
        seen stands gone (map over (map shown_worker of_workers.rows))
        ∙ (seen (λ (row : Worker). stands (gone row)) over (map shown_worker of_workers.rows)
        ∙ (seen (λ (row : Worker). stands (gone (over row))) shown_worker of_workers.rows
        ∙ (seen_on (λ (row : WorkerRow). row.number) (λ (row : WorkerRow). stands (gone (over (shown_worker row)))) (λ (row : WorkerRow). stands (shown_worker row)) of_workers.rows are
        (λ x there. one x there (x.number == w) refl)
        ∙ sym (seen stands shown_worker of_workers.rows))))

  -- where an install failed, the registration is kept as before
  pub fail_told : (scopes : Scopes) (of : registrations.Table) (of_clients : clients.Table) (rest : Rest) (row : JobRow) (registration : ℕ)
      → (fail_install (lent scopes of_workers of of_clients rest) row registration w).changes
      ≡ (if is_none row.remembered then gone_changes (lent scopes of_workers of of_clients rest) registration else [])
  unfolding fail_install end_handler become unmap finish followed
  fail_told scopes of of_clients rest row registration = by (is_none row.remembered)
    where
      state : State
      state = lent scopes of_workers of of_clients rest

      after : State
      after = record state { workers = map gone (map over state.workers) }

      by : (b : Bool) → ((if b then unmap after registration else quiet after).changes ++ []) ≡ (if b then gone_changes state registration else [])
      by true =
          append-nil (gone_changes after registration)
          ∙ kept_same state after registration refl (λ m. without slot.Waiting m refl refl) (λ m. without slot.Active m refl refl)
      by false = refl

finish_told : (state : State) (job registration : ℕ) (worker : Worker) → (finish_install state job registration worker).changes ≡ waiting_changes state registration worker
unfolding finish_install end_handler owe_try_activate finish followed
finish_told state job registration worker =
    let ended = (end_handler state worker.number).state in
    append-nil (become_waiting ended registration worker).changes ∙ at_once.waiting_changes ended registration worker

-- a registration gets a waiting worker, as its row says
pub waiting_told : (scopes : Scopes) (of_workers : workers.Table) (of : registrations.Table) (of_clients : clients.Table) (rest : Rest) (n : ℕ) (worker : Worker)
    → option_to_list (option_map (λ (row : RegistrationRow). change.Waiting row.key row.scope row.mode (kept_worker worker)) (registration_at n of.rows))
    ≡ waiting_changes (lent scopes of_workers of of_clients rest) n worker
waiting_told scopes of_workers of of_clients rest n worker =
    by (registration_at n of.rows)
    ∙ ap (λ (o : Option Registration). option_map_or (λ (row : Registration). change.Waiting row.key row.scope row.mode (kept_worker worker) ∷ []) o [])
    (sym (find_map (is_registration n) (shown_registration scopes rest) of.rows))
  where
    by : (o : Option RegistrationRow) → option_to_list (option_map (λ (row : RegistrationRow). change.Waiting row.key row.scope row.mode (kept_worker worker)) o)
        ≡ option_map_or (λ (row : Registration). change.Waiting row.key row.scope row.mode (kept_worker worker) ∷ []) (option_map (shown_registration scopes rest) o) []
    by None = refl
    by (Some row) = refl

-- ---- the handler that has ended

-- a handler that has ended is that of the worker's row
ended_is : (state : State) (worker : Worker) (handler : Handler) → worker_row state worker.number ≡ Some worker → ended_handler state is_install worker ≡ Some handler → worker.handler ≡ Some handler
ended_is state worker handler there ended =
    by (list_any (is_unsettled_of worker.number) state.tasks) (both (λ (row : Handler). is_install row.phase && is_over worker row) (free_handler state worker.number) handler ended).0
  where
    by : (b : Bool) → (if b then None else option_and_then (λ (row : Worker). row.handler) (worker_row state worker.number)) ≡ Some handler → worker.handler ≡ Some handler
    by true is = absurd cc
    by false is = ap (option_and_then (λ (row : Worker). row.handler)) (sym there) ∙ is

failed_so : (worker : Worker) (handler : Handler) → worker.handler ≡ Some handler → has_failed worker ≡ (worker.handlers.install_fails || handler.faulted)
failed_so worker handler is = ap (λ (o : Option Handler). worker.handlers.install_fails || option_map_or (λ (row : Handler). row.faulted) o false) is

-- a job that installs, whose worker was made
module _ (scopes : Scopes) (of_workers : workers.Table) (of : registrations.Table) (of_clients : clients.Table) (jobs : List JobRow) (rest : Rest) (job : ℕ) (has : HasSlots of_workers of) (goes : IsUnderWay job jobs of_workers of) where
  abbrev state : State
  state = lent scopes of_workers of of_clients (with_jobs jobs rest)

  -- the worker installs
  made_so : (row : JobRow) (n w : ℕ) → find (is_job job) jobs ≡ Some row → is_in_phase is_installing row ≡ true → row.registration ≡ Some n → row.worker ≡ Some w
      → has_worker (parts.is_of_in parts.is_installing n) w of_workers.rows ≡ true
  made_so row n w is installing of_it by =
      let parts_of = and_parts (is_none row.leader) (is_installing row.phase) installing in
      let phase : row.phase ≡ job_phase.Installing = grind (arith, parts_of.1) in
      let way : GoesItsWay jobs of_workers of row = goes.goes row is (grind (arith, parts_of.0, phase)) in
      let made : IsMade row.phase n w of_workers of =
      if_some (λ (worker : ℕ). IsMade row.phase n worker of_workers of) row.worker w by
      (if_some (λ (registration : ℕ). IfSome row.worker (λ (worker : ℕ). IsMade row.phase registration worker of_workers of)) row.registration n of_it way.made) in
      subst (λ p. IsMade p n w of_workers of) phase made

  ended : (row : JobRow) (n : ℕ) (worker : Worker) (handler : Handler) → find (is_job job) jobs ≡ Some row → is_in_phase is_installing row ≡ true → row.registration ≡ Some n
      → job_worker state row ≡ Some worker → worker.handler ≡ Some handler → (b : Bool)
      → (if b then failure_changes state job n else waiting_changes state n worker)
      ≡ (if b then fail_install state row n worker.number else finish_install state row.job.number n worker).changes
  ended row n worker handler is installing of_it made runs true =
      ap (λ (o : Option JobRow). if option_map_or (λ (r : JobRow). is_none r.remembered) o false then gone_changes state n else []) is
      ∙ sym (numbered row.worker refl made)
    where
      numbered : (o : Option ℕ) → row.worker ≡ o → option_and_then (worker_row state) o ≡ Some worker
          → (fail_install state row n worker.number).changes ≡ (if is_none row.remembered then gone_changes state n else [])
      numbered None by there = absurd cc
      numbered (Some w) by there =
          let own : worker.number ≡ w = found_number (λ (x : Worker). x.number) w state.workers worker there in
          ap (λ (m : ℕ). (fail_install state row n m).changes) own
          ∙ fail_told of_workers has.worker_places n w (made_so row n w is installing of_it by) scopes of of_clients (with_jobs jobs rest) row n
  ended row n worker handler is installing of_it made runs false = sym (finish_told state row.job.number n worker)

  abbrev outcome_by : JobRow → ℕ → Worker → Bool → Outcome
  outcome_by row n worker b =
      if b then record { answer = answer.Failed; told = fail_install state row n worker.number }
      else record { answer = answer.Ok; told = finish_install state row.job.number n worker }

  told_by : (row : JobRow) (n : ℕ) (worker : Worker) (b : Bool) → (if b then fail_install state row n worker.number else finish_install state row.job.number n worker) ≡ (outcome_by row n worker b).told
  told_by row n worker true = refl
  told_by row n worker false = refl

  -- what is found of the job
  found_so : (row : JobRow) (n : ℕ) (worker : Worker) → find (is_job job) jobs ≡ Some row → row.registration ≡ Some n → job_worker state row ≡ Some worker
      → install_changes state job ≡ end_changes state job n worker
  found_so row n worker is of_it made =
      ap (λ (o : Option JobRow). option_map_or (worker_changes state job (worker_of_job state job)) (option_and_then (λ (r : JobRow). r.registration) o) []) is
      ∙ (ap (λ (o : Option ℕ). option_map_or (worker_changes state job (worker_of_job state job)) o []) of_it
      ∙ (ap (λ (o : Option JobRow). worker_changes state job (option_and_then (job_worker state) o) n) is
      ∙ ap (λ (o : Option Worker). worker_changes state job o n) made))

  pub install_told : HasChanges (installed state job) (install_changes state job)
  install_told = by (find (is_job job) jobs) refl
    where
      handled : (row : JobRow) (n : ℕ) (worker : Worker) → find (is_job job) jobs ≡ Some row → is_in_phase is_installing row ≡ true → row.registration ≡ Some n → job_worker state row ≡ Some worker
          → (h : Option Handler) → ended_handler state is_install worker ≡ h → HasChanges (option_map (install_ended state row n worker) h) (install_changes state job)
      handled row n worker is installing of_it made None over = tt
      handled row n worker is installing of_it made (Some handler) over =
          let runs : worker.handler ≡ Some handler = ended_is state worker handler (at_number row.worker made) over in
          found_so row n worker is of_it made
          ∙ (ap (λ (b : Bool). if b then failure_changes state job n else waiting_changes state n worker) (failed_so worker handler runs)
          ∙ (ended row n worker handler is installing of_it made runs (worker.handlers.install_fails || handler.faulted)
          ∙ ap (λ (t : Told). t.changes) (told_by row n worker (worker.handlers.install_fails || handler.faulted))))
        where
          at_number : (o : Option ℕ) → option_and_then (worker_row state) o ≡ Some worker → worker_row state worker.number ≡ Some worker
          at_number None there = absurd cc
          at_number (Some w) there =
              ap (worker_row state) (found_number (λ (x : Worker). x.number) w state.workers worker there) ∙ there

      worked : (row : JobRow) (n : ℕ) → find (is_job job) jobs ≡ Some row → is_in_phase is_installing row ≡ true → row.registration ≡ Some n → (w : Option Worker) → job_worker state row ≡ w
          → HasChanges (option_and_then (λ (worker : Worker). option_map (install_ended state row n worker) (ended_handler state is_install worker)) w) (install_changes state job)
      worked row n is installing of_it None made = tt
      worked row n is installing of_it (Some worker) made = handled row n worker is installing of_it made (ended_handler state is_install worker) refl

      registered : (row : JobRow) → find (is_job job) jobs ≡ Some row → is_in_phase is_installing row ≡ true → (r : Option ℕ) → row.registration ≡ r
          → HasChanges (option_and_then (λ (n : ℕ). option_and_then (λ (worker : Worker). option_map (install_ended state row n worker) (ended_handler state is_install worker)) (job_worker state row)) r) (install_changes state job)
      registered row is installing None of_it = tt
      registered row is installing (Some n) of_it = worked row n is installing of_it (job_worker state row) refl

      phased : (row : JobRow) → find (is_job job) jobs ≡ Some row → (b : Bool) → is_in_phase is_installing row ≡ b
          → HasChanges (option_and_then (λ (r : JobRow). option_and_then (λ (n : ℕ). option_and_then (λ (worker : Worker). option_map (install_ended state r n worker) (ended_handler state is_install worker)) (job_worker state r)) r.registration) (if b then Some row else None)) (install_changes state job)
      phased row is false installing = tt
      phased row is true installing = registered row is installing row.registration refl

      by : (o : Option JobRow) → find (is_job job) jobs ≡ o
          → HasChanges (option_and_then (λ (r : JobRow). option_and_then (λ (n : ℕ). option_and_then (λ (worker : Worker). option_map (install_ended state r n worker) (ended_handler state is_install worker)) (job_worker state r)) r.registration) (option_and_then (λ (r : JobRow). if is_in_phase is_installing r then Some r else None) o)) (install_changes state job)
      by None is = tt
      by (Some row) is = phased row is (is_in_phase is_installing row) refl
