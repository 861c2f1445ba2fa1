-- What a coherent state gives to the events of the tables that show it.
use Rattle.std.proofs.Common.{◌≡◌, ◌∙◌, ℕ, Bool, true, false, not, ◌&&◌, ◌||◌, ◌==◌, List, map, Option, Some, None, IfSome, option_map, is_none, is_some, refl, sym, ap, subst, arith}
use Rattle.std.specs.List.{list_all, list_any}
use Rattle.std.specs.Option.{option_map_or}
use Rattle.std.specs.Prelude.{bytes_eq, find}
use Rattle.std.proofs.lemmas.Bool.{and_parts}
use Rattle.std.proofs.lemmas.Bool.Decides.{nat_tests}
use Rattle.sw_activate.specs.Running.{RunsWhileActivating}
use Rattle.sw_client.specs.Table as clients
use Rattle.sw_data.specs.declared.rows.HandlerRow.{HandlerRow}
use Rattle.sw_data.specs.declared.rows.JobPhase.{JobPhase}
use Rattle.sw_data.specs.declared.rows.JobPhase.TheVariants as job_phase
use Rattle.sw_data.specs.declared.rows.JobRow.{JobRow}
use Rattle.sw_data.specs.declared.rows.RegistrationRow.{RegistrationRow}
use Rattle.sw_data.specs.declared.rows.WorkerRow.{WorkerRow}
use Rattle.sw_data.specs.declared.workers.Slot.TheVariants as slot
use Rattle.sw_install.specs.Underway.{GoesItsWay, IsMade, IsUnderWay}
use Rattle.sw_laws.specs.Coherent.{Coherent, has_its_handler, has_its_job, has_its_worker, has_made, has_own_registration, is_being_installed, is_early, is_settled_phase}
use Rattle.sw_laws.specs.Coherent as coherent
use Rattle.sw_laws.proofs.KeptRechecks.{is_underway}
use Rattle.sw_laws.proofs.Lists.{any_weaker, bytes_eq_same, bytes_eq_symmetric, find_any, find_passes, found_by}
use Rattle.sw_laws.proofs.Places.{all_at_found, found_any, found_numbered, places_apart}
use Rattle.sw_laws.proofs.Underway.{is_free, others_free}
use Rattle.sw_queue.specs.Tables.{is_under_way}
use Rattle.sw_reg.specs.Table as registrations
use Rattle.sw_reg.specs.Table.{slot_of}
use Rattle.sw_rules.specs.Rows as rules
use Rattle.sw_rules.specs.Rows.{is_in_phase, in_slot, is_evaluating, is_first, is_installing, is_job, is_number, is_unfinished}
use Rattle.sw_rules.specs.State.{State, Registration, Worker}
use Rattle.sw_scope.specs.Scopes.{Scopes}
use Rattle.sw_tables.proofs.Lookups.{worker_shown}
use Rattle.sw_tables.proofs.Moves.{there}
use Rattle.sw_tables.proofs.Rows.{any_at, any_map, found_number}
use Rattle.sw_tables.specs.Lent.{Rest, lent, shown_registration, shown_worker}
use Rattle.sw_tables.specs.Linked.{ArePlaces, HasSlots, Linked}
use Rattle.sw_tables.specs.Parts as parts
use Rattle.sw_worker.specs.Table as workers
use Rattle.sw_worker.specs.Table.{has_worker, worker_at}

-- ---- one job of each queue is past waiting

-- a job past waiting stands first in its queue
stands_first : (jobs : List JobRow) (row : JobRow) → coherent.apart is_early jobs ≡ true → find (is_job row.job.number) jobs ≡ Some row → is_underway row ≡ true → is_first jobs row ≡ true
stands_first jobs row queues there underway =
    let in_queue = λ (other : JobRow). is_unfinished other && bytes_eq other.job.key row.job.key && bytes_eq other.job.scope row.job.scope in
    let own : in_queue row ≡ true = grind (arith, underway, bytes_eq_same row.job.key, bytes_eq_same row.job.scope) in
    let first = found_by is_early (is_job row.job.number) in_queue jobs row queues there own
    (λ other passes. grind (arith, passes, underway, bytes_eq_symmetric other.job.key row.job.key, bytes_eq_symmetric other.job.scope row.job.scope)) in
    ap (λ (o : Option JobRow). option_map_or (is_job row.job.number) o false) first ∙ grind (arith, nat_tests)

being_installed : (worker : Worker) → in_slot slot.Installing worker.state ≡ true → is_being_installed worker ≡ true
being_installed worker stands = grind (arith, stands)

its_job : (jobs : List JobRow) (worker : Worker) → has_its_job jobs worker ≡ true → is_being_installed worker ≡ true
    → list_any (λ row. is_in_phase is_installing row && is_number row.worker worker.number && is_number row.registration worker.registration) jobs ≡ true
its_job jobs worker has installs = grind (arith, has, installs)

same_job : (row job : JobRow) (worker of registration : ℕ) → (is_in_phase is_installing job && is_number job.worker worker && is_number job.registration of) ≡ true
    → (is_job row.job.number job || is_free registration job) ≡ true → (of == registration) ≡ true → (job.job.number == row.job.number && is_in_phase is_installing job) ≡ true
same_job row job worker of registration passes free same = grind (arith, nat_tests, passes, free, same)

past_waiting : (row : JobRow) → is_in_phase is_evaluating row ≡ true → is_underway row ≡ true
past_waiting row evaluates = grind (arith, evaluates)

one_phase : (row : JobRow) → is_in_phase is_evaluating row ≡ true → is_in_phase is_installing row ≡ true → ⊥
one_phase row evaluates installs = grind (arith, evaluates, installs)

-- ---- what the state shows

module _ (scopes : Scopes) (of_workers : workers.Table) (of_registrations : registrations.Table) (of_clients : clients.Table) (rest : Rest) where
  -- the state of these tables
  abbrev shown : State
  shown = lent scopes of_workers of_registrations of_clients rest

  -- numbers of jobs are their places
  pub job_numbers : Coherent shown → ArePlaces (λ row. row.job.number) rest.jobs
  job_numbers sound = sound.jobs.numbers

  -- what holds of each worker that is shown holds of a row
  of_row : (test : Worker → Bool) (worker : ℕ) (row : WorkerRow) → list_all test (map shown_worker of_workers.rows) ≡ true → worker_at worker of_workers.rows ≡ Some row → test (shown_worker row) ≡ true
  of_row test worker row all there =
      all_at_found (rules.is_worker worker) test (map shown_worker of_workers.rows) (shown_worker row) (worker_shown worker of_workers.rows ∙ ap (option_map shown_worker) there) all

  -- an activate handler runs only while its worker activates
  pub runs_while_activating : (worker : ℕ) → Coherent shown → RunsWhileActivating worker of_workers.rows
  runs_while_activating worker sound = by (worker_at worker of_workers.rows) refl
    where
      runs : (row : WorkerRow) (handler : Option HandlerRow) → row.handler ≡ handler → has_its_handler (shown_worker row) ≡ true
          → IfSome handler (λ h. not (rules.is_install h.phase) ≡ true → parts.is_activating row.state ≡ true)
      runs row None is has = tt
      runs row (Some h) is has = λ activates. grind (arith, is, has, activates)

      by : (o : Option WorkerRow) → worker_at worker of_workers.rows ≡ o
          → IfSome o (λ row. IfSome row.handler (λ h. not (rules.is_install h.phase) ≡ true → parts.is_activating row.state ≡ true))
      by None there = tt
      by (Some row) there = runs row row.handler refl (of_row has_its_handler worker row sound.workers.handlers there)

  -- ---- the registration and the worker of a job

  -- the registration of a job is there
  pub registered : (row : JobRow) (registration : Option ℕ)
      → option_map_or (λ number. list_any (λ found. found.number == number && bytes_eq found.key row.job.key && bytes_eq found.scope row.job.scope) (map (shown_registration scopes rest) of_registrations.rows)) registration true ≡ true
      → IfSome registration (λ number. registrations.is_there number of_registrations.rows ≡ true)
  registered row None has = tt
  registered row (Some number) has =
      let keyed = λ (found : Registration). found.number == number && bytes_eq found.key row.job.key && bytes_eq found.scope row.job.scope in
      let one = sym (any_map keyed (shown_registration scopes rest) of_registrations.rows) ∙ has in
      let found = found_any (registrations.is_registration number) of_registrations.rows
      (any_weaker (λ (r : RegistrationRow). keyed (shown_registration scopes rest r)) (registrations.is_registration number) (λ r passes. grind (arith, passes)) of_registrations.rows one) in
      ap is_some found.1

  -- the worker that a job made passes, by the rows
  made_row : (test : Worker → Bool) (test_row : WorkerRow → Bool) (registration worker : ℕ)
      → ((row : WorkerRow) → (is_number (Some registration) row.registration && test (shown_worker row)) ≡ true → test_row row ≡ true)
      → ArePlaces (λ (row : WorkerRow). row.number) of_workers.rows
      → rules.has_worker (λ w. is_number (Some registration) w.registration && test w) (map shown_worker of_workers.rows) worker ≡ true
      → has_worker test_row worker of_workers.rows ≡ true
  made_row test test_row registration worker goes are has =
      let shows = λ (w : Worker). w.number == worker && (is_number (Some registration) w.registration && test w) in
      let one = sym (any_map shows shown_worker of_workers.rows) ∙ has in
      let rows = any_weaker (λ (r : WorkerRow). shows (shown_worker r)) (λ (r : WorkerRow). r.number == worker && test_row r) (λ r passes. grind (arith, passes, goes r)) of_workers.rows one in
      sym (any_at (λ (r : WorkerRow). r.number) test_row worker of_workers.rows are) ∙ rows

  -- no worker installs whose registration is that of a job which evaluates
  none_installs : (row : JobRow) (registration worker : ℕ) (installing : WorkerRow) → Coherent shown → find (is_job row.job.number) rest.jobs ≡ Some row
      → is_in_phase is_evaluating row ≡ true → row.registration ≡ Some registration → worker_at worker of_workers.rows ≡ Some installing → (installing.registration == registration && in_slot slot.Installing installing.state) ≡ true → ⊥
  none_installs row registration worker installing sound found evaluates own at_it stands =
      let of_it = λ (job : JobRow). is_in_phase is_installing job && is_number job.worker installing.number && is_number job.registration installing.registration in
      let has = of_row (has_its_job rest.jobs) worker installing sound.work.installing at_it in
      let parts = and_parts (installing.registration == registration) (in_slot slot.Installing installing.state) stands in
      let job = found_any of_it rest.jobs (its_job rest.jobs (shown_worker installing) has (being_installed (shown_worker installing) parts.1)) in
      let passes = find_passes of_it rest.jobs job.0 job.1 in
      let others = others_free shown row registration found (past_waiting row evaluates) own sound in
      let free = all_at_found of_it (λ x. is_job row.job.number x || is_free registration x) rest.jobs job.0 job.1 others in
      let mine = find_any of_it (λ x. x.job.number == row.job.number && is_in_phase is_installing x) rest.jobs job.0 job.1 (same_job row job.0 installing.number installing.registration registration passes free parts.0) in
      let installs = found_numbered (λ (x : JobRow). x.job.number) (is_in_phase is_installing) rest.jobs row.job.number row (places_apart (λ (x : JobRow). x.job.number) rest.jobs sound.jobs.numbers) found mine in
      one_phase row evaluates installs

  empty_slot : (row : JobRow) (registration : ℕ) → Coherent shown → HasSlots of_workers of_registrations → find (is_job row.job.number) rest.jobs ≡ Some row
      → is_in_phase is_evaluating row ≡ true → row.registration ≡ Some registration → slot_of slot.Installing registration of_registrations.rows ≡ None
  empty_slot row registration sound slots found evaluates own = by (slot_of slot.Installing registration of_registrations.rows) refl
    where
      by : (o : Option ℕ) → slot_of slot.Installing registration of_registrations.rows ≡ o → slot_of slot.Installing registration of_registrations.rows ≡ None
      by None is = is
      by (Some worker) is =
          let stands = λ (w : WorkerRow). w.registration == registration && in_slot slot.Installing w.state in
          let held = there stands (worker_at worker of_workers.rows) (slots.filled slot.Installing registration worker is) in
          absurd (none_installs row registration worker held.0 sound found evaluates own held.1 held.2)

  -- the worker that a job made, in each phase
  made_in : (row : JobRow) (registration worker : ℕ) (in_this : JobPhase) → row.phase ≡ in_this → row.registration ≡ Some registration → row.worker ≡ Some worker → is_none row.leader ≡ true
      → Coherent shown → HasSlots of_workers of_registrations → find (is_job row.job.number) rest.jobs ≡ Some row → IsMade in_this registration worker of_workers of_registrations
  made_in row registration worker job_phase.Waiting is own of alone sound slots found = tt
  made_in row registration worker job_phase.Fetching is own of alone sound slots found = tt
  made_in row registration worker job_phase.Done is own of alone sound slots found = tt
  made_in row registration worker job_phase.Evaluating is own of alone sound slots found =
      let evaluates : is_in_phase is_evaluating row ≡ true = grind (arith, is, alone) in
      let phases = all_at_found (is_job row.job.number) (has_its_worker (map shown_worker of_workers.rows)) rest.jobs row found sound.work.phases in
      let has : has_made coherent.is_parsed (map shown_worker of_workers.rows) row ≡ true = grind (arith, phases, evaluates) in (
        made_row coherent.is_parsed (parts.is_of_in parts.is_parsed registration) registration worker (λ w passes. grind (arith, nat_tests, passes)) slots.worker_places (rw (own, of) at has),
        empty_slot row registration sound slots found evaluates own,
      )
  made_in row registration worker job_phase.Installing is own of alone sound slots found =
      let installs : is_in_phase is_installing row ≡ true = grind (arith, is, alone) in
      let phases = all_at_found (is_job row.job.number) (has_its_worker (map shown_worker of_workers.rows)) rest.jobs row found sound.work.phases in
      let has : has_made is_being_installed (map shown_worker of_workers.rows) row ≡ true = grind (arith, phases, installs) in
      made_row is_being_installed (parts.is_of_in parts.is_installing registration) registration worker (λ w passes. grind (arith, nat_tests, passes)) slots.worker_places (rw (own, of) at has)

  made : (row : JobRow) (registration worker : Option ℕ) → row.registration ≡ registration → row.worker ≡ worker → is_none row.leader ≡ true
      → Coherent shown → HasSlots of_workers of_registrations → find (is_job row.job.number) rest.jobs ≡ Some row
      → IfSome registration (λ r. IfSome worker (λ w. IsMade row.phase r w of_workers of_registrations))
  made row None worker own of alone sound slots found = tt
  made row (Some r) None own of alone sound slots found = tt
  made row (Some r) (Some w) own of alone sound slots found = made_in row r w row.phase refl own of alone sound slots found

  goes_its_way : (row : JobRow) → Coherent shown → HasSlots of_workers of_registrations → find (is_job row.job.number) rest.jobs ≡ Some row
      → is_none row.leader && is_under_way row.phase ≡ true → GoesItsWay rest.jobs of_workers of_registrations row
  goes_its_way row sound slots found goes = record {
    first = stands_first rest.jobs row sound.jobs.queues found (grind (arith, goes));
    settled = λ installs.
        let settled = all_at_found (is_job row.job.number) (λ x. not (is_settled_phase x.phase) || is_some x.settled) rest.jobs row found sound.jobs.settled in
        grind (arith, installs, settled);
    there = registered row row.registration (all_at_found (is_job row.job.number) (has_own_registration (map (shown_registration scopes rest) of_registrations.rows)) rest.jobs row found sound.work.keys);
    made = made row row.registration row.worker refl refl (grind (arith, goes)) sound slots found;
  }

  -- a job past waiting goes its way
  pub under_way : (job : ℕ) → Coherent shown → Linked scopes of_workers of_registrations of_clients → IsUnderWay job rest.jobs of_workers of_registrations
  under_way job sound linked = record {
    numbers = sound.jobs.numbers;
    goes = λ row found goes.
        let own = found_number (λ (x : JobRow). x.job.number) job rest.jobs row found in
        goes_its_way row sound linked.slots (subst (λ (n : ℕ). find (is_job n) rest.jobs ≡ Some row) (sym own) found) goes;
  }
