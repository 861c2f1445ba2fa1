-- A ready task has an event that is enabled.
use Rattle.std.proofs.Common.{◌≡◌, ◌∙◌, ℕ, zero, suc, ◌+◌, ◌≤◌, ◌<◌, Bool, true, false, not, ◌&&◌, ◌||◌, ◌==◌, List, [], ◌∷◌, map, filter, length, slice_get, Option, Some, None, option_map, refl, sym, ap, subst, arith, if◌then◌else◌}
use Rattle.std.specs.List.{list_any, range_with_len}
use Rattle.std.specs.Option.{option_map_or}
use Rattle.std.specs.Prelude.{find, is_none, is_some, nat_le, option_and_then}
use Rattle.std.proofs.lemmas.Bool.Decides.{nat_tests}
use Rattle.std.proofs.lemmas.List.Folds.{list_any-append}
use Rattle.sw_data.specs.declared.events.Event.{Event}
use Rattle.sw_data.specs.declared.events.Event.TheVariants as event
use Rattle.sw_data.specs.declared.events.Who.TheVariants as who
use Rattle.sw_data.specs.declared.exchange.Header.{Header}
use Rattle.sw_data.specs.declared.exchange.Op.{Op}
use Rattle.sw_data.specs.declared.exchange.Op.TheVariants as op
use Rattle.sw_data.specs.declared.exchange.Options.{Options}
use Rattle.sw_data.specs.declared.exchange.Request.{Request}
use Rattle.sw_data.specs.declared.exchange.Response.{Response}
use Rattle.sw_data.specs.declared.histories.Task.{Task}
use Rattle.sw_data.specs.declared.histories.Task.TheVariants as task
use Rattle.sw_data.specs.declared.recordings.Call.{Call}
use Rattle.sw_data.specs.declared.recordings.Call.TheVariants as call
use Rattle.sw_data.specs.declared.recordings.FetchLine.{FetchLine}
use Rattle.sw_data.specs.declared.recordings.Recording.{Recording}
use Rattle.sw_data.specs.declared.rows.JobPhase.{JobPhase}
use Rattle.sw_data.specs.declared.rows.JobPhase.TheVariants as job_phase
use Rattle.sw_data.specs.declared.rows.JobRow.{JobRow}
use Rattle.sw_data.specs.declared.workers.Phase.{Phase}
use Rattle.sw_data.specs.declared.workers.Phase.TheVariants as phase
use Rattle.sw_data.specs.Sameness.{same_call, same_header, same_list, same_op, same_options, same_phase, same_request, same_response, same_truth}
use Rattle.sw_lane.specs.Picked.{is_task}
use Rattle.sw_laws.specs.Coherent.{ArePlaces, Coherent, has_its_worker, is_parsed, is_place}
use Rattle.sw_laws.proofs.Lists.{any_weaker, by_truth, bytes_eq_same, find_passes}
use Rattle.sw_laws.proofs.Places.{all_at_found, found_any, found_numbered, places_apart}
use Rattle.sw_rules.specs.Activating.{is_owed}
use Rattle.sw_rules.specs.Calls.{call_by, is_next_call}
use Rattle.sw_rules.specs.Installing.{calls_of, ended_handler, job_in, job_worker}
use Rattle.sw_rules.specs.Registering.{may_run}
use Rattle.sw_rules.specs.Rows.{free_handler, has_worker, is_in_phase, is_done, is_evaluating, is_fetching, is_install, is_installing, is_job, is_number, is_waiting, is_worker, job_row, registration_row, task_row, worker_row}
use Rattle.sw_rules.specs.State.{State, AddAll, Handler, Registration, Worker}
use Rattle.sw_rules.specs.Step.{enabled, step}
use Rattle.sw_rules.specs.Tasks.{activates, add_all_fetches, add_all_lines, call_or, evaluations, event_of, handler_event, installs, job_line, may_activate, may_install, ready_tasks, runs, jobs_where, script_fetches, try_activates}

-- ---- rows that are found

row_of : {X : Type 0} (number : X → ℕ) (test : X → Bool) (xs : List X) (n : ℕ) → ArePlaces number xs → list_any (λ x. number x == n && test x) xs ≡ true → (row : X) × ((find (λ x. number x == n) xs ≡ Some row) × (test row ≡ true))
row_of number test xs n are has =
    let found = found_any (λ x. number x == n) xs (any_weaker (λ x. number x == n && test x) (λ x. number x == n) (λ x is. grind (arith, is)) xs has) in
    (found.0, (found.1, found_numbered number test xs n found.0 (places_apart number xs are) found.1 has))

any_place : {X : Type 0} (number : X → ℕ) (xs : List X) (a n : ℕ) → map number xs ≡ range_with_len a (length xs) → a ≤ n → n < a + length xs → list_any (λ x. number x == n) xs ≡ true
any_place number [] a n is low high = absurd (omega (arith, low, high))
any_place number (x ∷ xs) a n is low high =
    let here : number x ≡ a = cc in
    let rest : map number xs ≡ range_with_len (a + 1) (length xs) = cc in
    by_truth {P = list_any (λ y. number y == n) (x ∷ xs) ≡ true} (number x == n) (λ same. grind (arith, same))
    (λ other.
    let apart : n ≡ a → ⊥ = λ same. grind (arith, nat_tests, other, here, same) in
    grind (arith, other, any_place number xs (a + 1) n rest (omega (arith, low, apart)) (omega (arith, high))))

-- a number that is a place is that of a row
place_found : {X : Type 0} (number : X → ℕ) (xs : List X) (n : ℕ) → ArePlaces number xs → is_place xs n ≡ true → is_some (find (λ x. number x == n) xs) ≡ true
place_found number xs n are place =
    let within : n < 0 + length xs = grind (arith, nat_tests, place) in
    let found = found_any (λ x. number x == n) xs (any_place number xs 0 n are (omega arith) within) in
    ap is_some found.1

bound_some : {X Y : Type 0} (f : X → Option Y) (o : Option X) (x : X) → o ≡ Some x → is_some (f x) ≡ true → is_some (option_and_then f o) ≡ true
bound_some f o x is some = ap (λ given. is_some (option_and_then f given)) is ∙ some

mapped_some : {X Y : Type 0} (f : X → Y) (o : Option X) → is_some o ≡ true → is_some (option_map f o) ≡ true
mapped_some f None some = some
mapped_some f (Some x) some = refl

taken_some : {X : Type 0} (test : Bool) (x : X) → test ≡ true → is_some (if test then Some x else None) ≡ true
taken_some true x is = refl
taken_some false x is = absurd cc

there : {X : Type 0} (o : Option X) → is_some o ≡ true → (x : X) × (o ≡ Some x)
there None some = absurd cc
there (Some x) some = (x, refl)

-- ---- among the ready tasks

none_mapped : {X : Type 0} (p : Task → Bool) (f : X → Task) → ((x : X) → p (f x) ≡ false) → (xs : List X) → list_any p (map f xs) ≡ false
none_mapped p f never [] = refl
none_mapped p f never (x ∷ xs) = grind (arith, never x, none_mapped p f never xs)

any_mapped : {X : Type 0} (p : Task → Bool) (f : X → Task) (q test : X → Bool) → ((x : X) → p (f x) ≡ q x) → (xs : List X) → list_any p (map f (filter test xs)) ≡ true → list_any (λ x. q x && test x) xs ≡ true
any_mapped p f q test same [] is = is
any_mapped p f q test same (x ∷ xs) is = grind (arith, is, same x, any_mapped p f q test same xs)

pub map_twice : {X : Type 0} (f : ℕ → Task) (number : X → ℕ) (xs : List X) → map f (map number xs) ≡ map (λ x. f (number x)) xs
map_twice f number [] = refl
map_twice f number (x ∷ xs) = ap (λ (rest : List Task). f (number x) ∷ rest) (map_twice f number xs)

pub turned : (a b : ℕ) → (a == b) ≡ (b == a)
turned a b = by_truth {P = (a == b) ≡ (b == a)} (a == b) (λ is. grind (arith, nat_tests, is)) (λ not_is. by_truth {P = (a == b) ≡ (b == a)} (b == a) (λ was. grind (arith, nat_tests, was)) (λ not_was. not_is ∙ sym not_was))

-- the ready tasks are those of each kind
pub each_kind : (p : Task → Bool) (state : State) → list_any p (ready_tasks state)
    ≡ (list_any p (runs state) || list_any p (script_fetches state) || list_any p (add_all_fetches state) || list_any p (evaluations state)
    || list_any p (installs state) || list_any p (try_activates state) || list_any p (activates state))
each_kind p state =
    simp (list_any-append p) refl

module _ (p : Task → Bool) (state : State) where
  no_runs : ((n : ℕ) → p (task.Run n) ≡ false) → list_any p (runs state) ≡ false
  no_runs never = none_mapped p task.Run never (jobs_where (may_run state) state)

  no_fetches : ((n : ℕ) → p (task.Fetch n) ≡ false) → list_any p (script_fetches state) ≡ false
  no_fetches never = none_mapped p task.Fetch never (jobs_where (is_in_phase is_fetching) state)

  no_add_alls : ((n : ℕ) → p (task.FetchAll n) ≡ false) → list_any p (add_all_fetches state) ≡ false
  no_add_alls never = none_mapped p (λ (row : AddAll). task.FetchAll row.number) (λ row. never row.number) (filter (λ row. is_none row.settled) state.tasks)

  no_evaluations : ((n : ℕ) → p (task.Evaluate n) ≡ false) → list_any p (evaluations state) ≡ false
  no_evaluations never = none_mapped p task.Evaluate never (jobs_where (is_in_phase is_evaluating) state)

  no_installs : ((n : ℕ) → p (task.Install n) ≡ false) → list_any p (installs state) ≡ false
  no_installs never = none_mapped p task.Install never (jobs_where (may_install state) state)

  no_try_activates : ((n : ℕ) → p (task.TryActivate n) ≡ false) → list_any p (try_activates state) ≡ false
  no_try_activates never = none_mapped p (λ (row : Registration). task.TryActivate row.number) (λ row. never row.number) (filter (λ row. row.owed) state.registrations)

  no_activates : ((n : ℕ) → p (task.Activate n) ≡ false) → list_any p (activates state) ≡ false
  no_activates never = none_mapped p (λ (row : Worker). task.Activate row.number) (λ row. never row.number) (filter (may_activate state) state.workers)

-- a fetch is ready: it is one of its kind
pub script_fetch_ready : (state : State) (job : ℕ) → list_any (is_task (task.Fetch job)) (ready_tasks state) ≡ true → list_any (is_task (task.Fetch job)) (script_fetches state) ≡ true
script_fetch_ready state job is =
    let p = is_task (task.Fetch job) in
    grind (arith, is, each_kind p state, no_runs p state (λ n. refl), no_add_alls p state (λ n. refl), no_evaluations p state (λ n. refl), no_installs p state (λ n. refl), no_try_activates p state (λ n. refl), no_activates p state (λ n. refl))

pub add_all_fetch_ready : (state : State) (number : ℕ) → list_any (is_task (task.FetchAll number)) (ready_tasks state) ≡ true → list_any (λ (of : AddAll). of.number == number && is_none of.settled) state.tasks ≡ true
add_all_fetch_ready state number is =
    let p = is_task (task.FetchAll number) in
    let kind : list_any p (add_all_fetches state) ≡ true =
    grind (arith, is, each_kind p state, no_runs p state (λ n. refl), no_fetches p state (λ n. refl), no_evaluations p state (λ n. refl), no_installs p state (λ n. refl), no_try_activates p state (λ n. refl), no_activates p state (λ n. refl)) in
    any_mapped p (λ (of : AddAll). task.FetchAll of.number) (λ of. of.number == number) (λ of. is_none of.settled) (λ of. turned number of.number) state.tasks kind

-- the jobs of ready tasks of a kind pass
pub any_job : (make : ℕ → Task) (test : JobRow → Bool) (state : State) (job : ℕ) → ((n : ℕ) → is_task (make job) (make n) ≡ (job == n))
    → list_any (is_task (make job)) (map make (jobs_where test state)) ≡ true → list_any (λ (row : JobRow). row.job.number == job && test row) state.jobs ≡ true
any_job make test state job same is =
    any_mapped (is_task (make job)) (λ (row : JobRow). make row.job.number) (λ row. row.job.number == job) test
    (λ row. same row.job.number ∙ turned job row.job.number) state.jobs
    (subst (λ (all : List Task). list_any (is_task (make job)) all ≡ true) (map_twice make (λ (row : JobRow). row.job.number) (filter test state.jobs)) is)

-- the job of a ready fetch is there
pub fetched_job : (state : State) (job : ℕ) → list_any (is_task (task.Fetch job)) (ready_tasks state) ≡ true → (row : JobRow) × (job_row state job ≡ Some row)
fetched_job state job is =
    found_any (is_job job) state.jobs
    (any_weaker (λ (row : JobRow). row.job.number == job && is_in_phase is_fetching row) (is_job job) (λ row is. grind (arith, is)) state.jobs
    (any_job task.Fetch (is_in_phase is_fetching) state job (λ n. refl) (script_fetch_ready state job is)))

-- the addAll of a ready fetch is there
pub fetched_add_all : (state : State) (number : ℕ) → list_any (is_task (task.FetchAll number)) (ready_tasks state) ≡ true → (row : AddAll) × (task_row state number ≡ Some row)
fetched_add_all state number is =
    found_any (λ (of : AddAll). of.number == number) state.tasks
    (any_weaker (λ (of : AddAll). of.number == number && is_none of.settled) (λ of. of.number == number) (λ of is. grind (arith, is)) state.tasks (add_all_fetch_ready state number is))

-- a task of a job is ready: there is that job, which passes
of_a_job : (make : ℕ → Task) (test : JobRow → Bool) (state : State) (job : ℕ) → ((n : ℕ) → is_task (make job) (make n) ≡ (job == n)) → Coherent state
    → list_any (is_task (make job)) (map make (jobs_where test state)) ≡ true → (row : JobRow) × ((job_row state job ≡ Some row) × (test row ≡ true))
of_a_job make test state job same sound is =
    row_of (λ (row : JobRow). row.job.number) test state.jobs job sound.jobs.numbers (any_job make test state job same is)

-- ---- jobs

-- a job that fetches, evaluates or installs is neither done nor waiting
under_way : (now : JobPhase) → (is_fetching now || is_evaluating now || is_installing now) ≡ true → (is_done now || is_waiting now) ≡ false
under_way job_phase.Waiting is = absurd cc
under_way job_phase.Fetching is = refl
under_way job_phase.Evaluating is = refl
under_way job_phase.Installing is = refl
under_way job_phase.Done is = absurd cc

registered : (leader done waits some rest : Bool) → leader ≡ true → (done || waits) ≡ false → ((not (leader && not done) || waits || some) && rest) ≡ true → some ≡ true
registered leader done waits some rest is way all = grind (arith, is, way, all)

module _ (state : State) (sound : Coherent state) (job : ℕ) (row : JobRow) (found : job_row state job ≡ Some row) where
  fits : has_its_worker state.workers row ≡ true
  fits = all_at_found (is_job job) (has_its_worker state.workers) state.jobs row found sound.work.phases

  has_registration : (is_none row.leader && (is_fetching row.phase || is_evaluating row.phase || is_installing row.phase)) ≡ true → is_some row.registration ≡ true
  has_registration is = grind (arith, fits, is, under_way row.phase)

  job_in_is : (test : JobRow → Bool) → test row ≡ true → job_in test state job ≡ Some row
  job_in_is test is = grind (arith, found, is)

  -- the worker that a job made is there
  worker_there : (made : Option ℕ) → option_map_or (has_worker (λ worker. is_number row.registration worker.registration && is_parsed worker) state.workers) made false ≡ true → is_some (option_and_then (worker_row state) made) ≡ true
  worker_there None has = absurd cc
  worker_there (Some number) has =
      ap is_some (found_any (is_worker number) state.workers
      (any_weaker (λ worker. worker.number == number && (is_number row.registration worker.registration && is_parsed worker)) (is_worker number) (λ worker is. grind (arith, is)) state.workers has)).1

  run_enabled : may_run state row ≡ true → enabled state (event.Run who.Host job) ≡ true
  unfolding step
  run_enabled may = grind (arith, found, may)

  fetched_enabled : is_in_phase is_fetching row ≡ true → (line : Option FetchLine) → enabled state (event.Fetched who.Host job line) ≡ true
  unfolding step
  fetched_enabled is line =
      bound_some _ _ row (job_in_is (is_in_phase is_fetching) is) (mapped_some _ row.registration (has_registration (grind (arith, is))))

  evaluated_enabled : is_in_phase is_evaluating row ≡ true → enabled state (event.Evaluated who.Host job) ≡ true
  unfolding step
  evaluated_enabled is =
      let registration = there row.registration (has_registration (grind (arith, is))) in
      bound_some _ _ row (job_in_is (is_in_phase is_evaluating) is)
      (bound_some _ row.registration registration.0 registration.1
      (mapped_some _ (job_worker state row) (worker_there row.worker (grind (arith, is, fits)))))

-- ---- addAlls, and the owed Try Activate

added_enabled : (state : State) (number : ℕ) (row : AddAll) → task_row state number ≡ Some row → is_none row.settled ≡ true → (lines : List (Option FetchLine)) → enabled state (event.Added who.Host number lines) ≡ true
unfolding step
added_enabled state number row found is lines = bound_some _ (task_row state number) row found (taken_some (is_none row.settled) _ is)

owed_enabled : (state : State) (registration : ℕ) → is_owed state registration ≡ true → enabled state (event.TryActivate who.Host registration) ≡ true
unfolding step
owed_enabled state registration is = taken_some (is_owed state registration) _ is

-- ---- handlers

same_members : {X : Type 0} (same : X → X → Bool) → ((x : X) → same x x ≡ true) → (xs : List X) → same_list same xs xs ≡ true
same_members same own [] = refl
same_members same own (x ∷ xs) = grind (arith, own x, same_members same own xs)

own_truth : (b : Bool) → same_truth b b ≡ true
own_truth true = refl
own_truth false = refl

own_header : (x : Header) → same_header x x ≡ true
own_header x = grind (arith, bytes_eq_same x.name, bytes_eq_same x.value)

own_request : (x : Request) → same_request x x ≡ true
own_request x = grind (arith, bytes_eq_same x.method, bytes_eq_same x.url, same_members same_header own_header x.headers)

own_response : (x : Response) → same_response x x ≡ true
own_response x = grind (arith, nat_tests, same_members same_header own_header x.headers, bytes_eq_same x.body)

own_options : (x : Options) → same_options x x ≡ true
own_options x = grind (arith, own_truth x.ignore_search, own_truth x.ignore_method, own_truth x.ignore_vary)

own_op : (x : Op) → same_op x x ≡ true
own_op (op.Delete request options) = grind (arith, own_request request, own_options options)
own_op (op.Put request response) = grind (arith, own_request request, own_response response)

own_call : (x : Call) → same_call x x ≡ true
unfolding same_call
own_call call.SkipWaiting = refl
own_call call.Claim = refl
own_call call.Update = refl
own_call (call.CacheOpen name) = bytes_eq_same name
own_call (call.CacheDelete name) = bytes_eq_same name
own_call (call.Put put) = grind (arith, bytes_eq_same put.name, own_request put.request, own_response put.response)
own_call (call.Delete asked) = grind (arith, bytes_eq_same asked.name, own_request asked.request, own_options asked.options)
own_call (call.Batch asked) = grind (arith, bytes_eq_same asked.name, same_members same_op own_op asked.operations)
own_call (call.AddAll asked) = grind (arith, bytes_eq_same asked.name, same_members same_request own_request asked.requests)

own_phase : (x : Phase) → same_phase x x ≡ true
own_phase phase.Install = refl
own_phase phase.Activate = refl

none_beyond : {X : Type 0} (xs : List X) (n : ℕ) → slice_get xs n ≡ None → nat_le (length xs) n ≡ true
none_beyond [] n is = grind (arith, nat_tests)
none_beyond (x ∷ xs) zero is = absurd cc
none_beyond (x ∷ xs) (suc n) is = grind (arith, nat_tests, none_beyond xs n is)

-- a handler that may go on is one of a worker
its_worker : (state : State) (worker : ℕ) (row : Handler) (found : Option Worker) → worker_row state worker ≡ found → free_handler state worker ≡ Some row → (own : Worker) × (worker_row state worker ≡ Some own)
its_worker state worker row None is free = absurd (grind (arith, is, free))
its_worker state worker row (Some own) is free = (own, is)

module _ (state : State) (sound : Coherent state) (worker : ℕ) (handler : Handler) (free : free_handler state worker ≡ Some handler) (row : Worker) (found : worker_row state worker ≡ Some row) where
  numbered : row.number ≡ worker
  numbered = grind (arith, nat_tests, find_passes (is_worker worker) state.workers row found)

  free_own : free_handler state row.number ≡ Some handler
  free_own = subst (λ n. free_handler state n ≡ Some handler) (sym numbered) free

  its_registration : is_some (registration_row state row.registration) ≡ true
  its_registration =
      place_found (λ (r : Registration). r.number) state.registrations row.registration sound.registrations.numbers
      (all_at_found (is_worker worker) (λ own. is_place state.registrations own.registration) state.workers row found sound.workers.owners)

  next_is : (called : Call) → slice_get (calls_of row handler.phase) handler.made ≡ Some called → is_next_call state row handler.phase handler.made called ≡ true
  next_is called is = grind (arith, nat_tests, free_own, is, own_phase handler.phase, own_call called)

  call_enabled : (called : Call) → slice_get (calls_of row handler.phase) handler.made ≡ Some called → enabled state (event.Call (who.Handler worker handler.phase handler.made) called) ≡ true
  unfolding step
  call_enabled called is =
      bound_some _ (worker_row state worker) row found
      (ap (λ (b : Bool). is_some (if b then call_by state (who.Handler worker handler.phase handler.made) row handler.phase called else None)) (next_is called is)
      ∙ mapped_some _ (registration_row state row.registration) its_registration)

  ends : (test : Phase → Bool) → test handler.phase ≡ true → slice_get (calls_of row handler.phase) handler.made ≡ None → ended_handler state test row ≡ Some handler
  ends test of_phase none = grind (arith, free_own, of_phase, none_beyond (calls_of row handler.phase) handler.made none)

  -- the event of the handler is the next call, or else this end
  either : (end : Event) (next : Option Call) → slice_get (calls_of row handler.phase) handler.made ≡ next
      → (slice_get (calls_of row handler.phase) handler.made ≡ None → enabled state end ≡ true)
      → enabled state (call_or state end worker handler) ≡ true
  either end next is at_end =
      subst (λ (o : Option Call). enabled state (elim o [ Some called ↦ event.Call (who.Handler worker handler.phase handler.made) called | None ↦ end ]) ≡ true)
      (sym (ap (option_and_then (λ (maker : Worker). slice_get (calls_of maker handler.phase) handler.made)) found)) (by next is)
    where
      by : (next : Option Call) → slice_get (calls_of row handler.phase) handler.made ≡ next
          → enabled state (elim (slice_get (calls_of row handler.phase) handler.made) [ Some called ↦ event.Call (who.Handler worker handler.phase handler.made) called | None ↦ end ]) ≡ true
      by None its = rw its (at_end its)
      by (Some called) its = rw its (call_enabled called its)

  installed_enabled : (job : ℕ) (of_job : JobRow) → job_row state job ≡ Some of_job → is_in_phase is_installing of_job ≡ true → of_job.worker ≡ Some worker → is_install handler.phase ≡ true
      → slice_get (calls_of row handler.phase) handler.made ≡ None → enabled state (event.Installed who.Host job) ≡ true
  unfolding step
  installed_enabled job of_job its is made of_phase none =
      let registration = there of_job.registration (has_registration state sound job of_job its (grind (arith, is))) in
      bound_some _ _ of_job (job_in_is state sound job of_job its (is_in_phase is_installing) is)
      (bound_some _ of_job.registration registration.0 registration.1
      (bound_some _ (job_worker state of_job) row (ap (option_and_then (worker_row state)) made ∙ found)
      (mapped_some _ (ended_handler state is_install row) (ap is_some (ends is_install of_phase none)))))

  activated_enabled : not (is_install handler.phase) ≡ true → slice_get (calls_of row handler.phase) handler.made ≡ None → enabled state (event.Activated who.Host worker) ≡ true
  unfolding step
  activated_enabled of_phase none =
      bound_some _ (worker_row state worker) row found
      (mapped_some _ (ended_handler state (λ p. not (is_install p)) row) (ap is_some (ends (λ p. not (is_install p)) of_phase none)))

-- ---- the events of ready tasks

-- the handler of a worker may go on, and does by its next call or by this end
handler_goes_on : (state : State) (worker : ℕ) (end happened : Event) (handler : Option Handler) → Coherent state → free_handler state worker ≡ handler
    → ((row : Handler) (own : Worker) → handler ≡ Some row → worker_row state worker ≡ Some own → slice_get (calls_of own row.phase) row.made ≡ None → enabled state end ≡ true)
    → handler_event state end worker ≡ Some happened → enabled state happened ≡ true
handler_goes_on state worker end happened None sound free ends is =
    let never : handler_event state end worker ≡ None = ap (option_map (call_or state end worker)) free in
    absurd cc
handler_goes_on state worker end happened (Some row) sound free ends is =
    let own = its_worker state worker row (worker_row state worker) refl free in
    let goes : handler_event state end worker ≡ Some (call_or state end worker row) = ap (option_map (call_or state end worker)) free in
    let same : call_or state end worker row ≡ happened = cc in
    subst (λ (h : Event). enabled state h ≡ true) same
    (either state sound worker row free own.0 own.1 end (slice_get (calls_of own.0 row.phase) row.made) refl (ends row own.0 refl own.1))

-- the event of a job's install handler
install_goes_on : (state : State) (job : ℕ) (row : JobRow) (happened : Event) (made : Option ℕ) → Coherent state → job_row state job ≡ Some row → may_install state row ≡ true → row.worker ≡ made
    → option_and_then (handler_event state (event.Installed who.Host job)) made ≡ Some happened → enabled state happened ≡ true
install_goes_on state job row happened None sound found may made is = absurd cc
install_goes_on state job row happened (Some worker) sound found may made is =
    handler_goes_on state worker (event.Installed who.Host job) happened (free_handler state worker) sound refl
    (λ handler own free its none.
    let installs : option_map_or (λ (h : Handler). is_install h.phase) (option_and_then (free_handler state) row.worker) false ≡ true = grind (arith, may) in
    let of_phase : is_install handler.phase ≡ true =
    sym (ap (λ (o : Option Handler). option_map_or (λ (h : Handler). is_install h.phase) o false) (ap (option_and_then (free_handler state)) made ∙ free)) ∙ installs in
    installed_enabled state sound worker handler free own its job row found (grind (arith, may)) made of_phase none)
    is

-- the event of an activate handler
activate_goes_on : (state : State) (worker : ℕ) (row : Worker) (happened : Event) → Coherent state → worker_row state worker ≡ Some row → row.number ≡ worker → may_activate state row ≡ true
    → handler_event state (event.Activated who.Host worker) worker ≡ Some happened → enabled state happened ≡ true
activate_goes_on state worker row happened sound found same may is =
    handler_goes_on state worker (event.Activated who.Host worker) happened (free_handler state worker) sound refl
    (λ handler own free its none.
    let activates : option_map_or (λ (h : Handler). not (is_install h.phase)) (free_handler state worker) false ≡ true =
    subst (λ n. option_map_or (λ (h : Handler). not (is_install h.phase)) (free_handler state n) false ≡ true) same may in
    let of_phase : not (is_install handler.phase) ≡ true =
    sym (ap (λ (o : Option Handler). option_map_or (λ (h : Handler). not (is_install h.phase)) o false) free) ∙ activates in
    activated_enabled state sound worker handler free own its of_phase none)
    is

-- the event of a task that is there is this one
is_its : (state : State) {given happened : Event} → Some given ≡ Some happened → enabled state given ≡ true → enabled state happened ≡ true
is_its state {given} {happened} is may = let same : given ≡ happened = cc in subst (λ (h : Event). enabled state h ≡ true) same may

given_by : {X : Type 0} (state : State) {happened : Event} (make : X → Event) (o : Option X) → option_map make o ≡ Some happened → ((x : X) → o ≡ Some x → enabled state (make x) ≡ true) → enabled state happened ≡ true
given_by state make None is may = absurd cc
given_by state make (Some x) is may = is_its state is (may x refl)

-- where a task is ready its event is enabled
pub ready_enabled : (recording : Recording) (state : State) (ready : Task) (happened : Event) → Coherent state
    → list_any (is_task ready) (ready_tasks state) ≡ true → event_of recording state ready ≡ Some happened → enabled state happened ≡ true
ready_enabled recording state (task.Run job) happened sound is gives =
    let p = is_task (task.Run job) in
    let kind : list_any p (runs state) ≡ true =
    grind (arith, is, each_kind p state, no_fetches p state (λ n. refl), no_add_alls p state (λ n. refl), no_evaluations p state (λ n. refl), no_installs p state (λ n. refl), no_try_activates p state (λ n. refl), no_activates p state (λ n. refl)) in
    let row = of_a_job task.Run (may_run state) state job (λ n. refl) sound kind in
    is_its state gives (run_enabled state sound job row.0 row.1.0 row.1.1)
ready_enabled recording state (task.Fetch job) happened sound is gives =
    let row = of_a_job task.Fetch (is_in_phase is_fetching) state job (λ n. refl) sound (script_fetch_ready state job is) in
    given_by state (λ (of_job : JobRow). event.Fetched who.Host job (job_line recording of_job)) (job_row state job) gives
    (λ of_job its. fetched_enabled state sound job row.0 row.1.0 row.1.1 (job_line recording of_job))
ready_enabled recording state (task.FetchAll number) happened sound is gives =
    let row = row_of (λ (of : AddAll). of.number) (λ of. is_none of.settled) state.tasks number sound.tasks.numbers (add_all_fetch_ready state number is) in
    given_by state (λ (of : AddAll). event.Added who.Host number (add_all_lines recording of)) (task_row state number) gives
    (λ of its. added_enabled state number row.0 row.1.0 row.1.1 (add_all_lines recording of))
ready_enabled recording state (task.Evaluate job) happened sound is gives =
    let p = is_task (task.Evaluate job) in
    let kind : list_any p (evaluations state) ≡ true =
    grind (arith, is, each_kind p state, no_runs p state (λ n. refl), no_fetches p state (λ n. refl), no_add_alls p state (λ n. refl), no_installs p state (λ n. refl), no_try_activates p state (λ n. refl), no_activates p state (λ n. refl)) in
    let row = of_a_job task.Evaluate (is_in_phase is_evaluating) state job (λ n. refl) sound kind in
    is_its state gives (evaluated_enabled state sound job row.0 row.1.0 row.1.1)
ready_enabled recording state (task.Install job) happened sound is gives =
    let p = is_task (task.Install job) in
    let kind : list_any p (installs state) ≡ true =
    grind (arith, is, each_kind p state, no_runs p state (λ n. refl), no_fetches p state (λ n. refl), no_add_alls p state (λ n. refl), no_evaluations p state (λ n. refl), no_try_activates p state (λ n. refl), no_activates p state (λ n. refl)) in
    let row = of_a_job task.Install (may_install state) state job (λ n. refl) sound kind in
    install_goes_on state job row.0 happened row.0.worker sound row.1.0 row.1.1 refl
    (sym (ap (λ (o : Option JobRow). option_and_then (handler_event state (event.Installed who.Host job)) (option_and_then (λ (r : JobRow). r.worker) o)) row.1.0) ∙ gives)
ready_enabled recording state (task.TryActivate registration) happened sound is gives =
    let p = is_task (task.TryActivate registration) in
    let kind : list_any p (try_activates state) ≡ true =
    grind (arith, is, each_kind p state, no_runs p state (λ n. refl), no_fetches p state (λ n. refl), no_add_alls p state (λ n. refl), no_evaluations p state (λ n. refl), no_installs p state (λ n. refl), no_activates p state (λ n. refl)) in
    is_its state gives
    (owed_enabled state registration
    (any_mapped p (λ (row : Registration). task.TryActivate row.number) (λ row. row.number == registration) (λ row. row.owed) (λ row. turned registration row.number) state.registrations kind))
ready_enabled recording state (task.Activate worker) happened sound is gives =
    let p = is_task (task.Activate worker) in
    let kind : list_any p (activates state) ≡ true =
    grind (arith, is, each_kind p state, no_runs p state (λ n. refl), no_fetches p state (λ n. refl), no_add_alls p state (λ n. refl), no_evaluations p state (λ n. refl), no_installs p state (λ n. refl), no_try_activates p state (λ n. refl)) in
    let row = row_of (λ (own : Worker). own.number) (may_activate state) state.workers worker sound.workers.numbers
    (any_mapped p (λ (own : Worker). task.Activate own.number) (λ own. own.number == worker) (may_activate state) (λ own. turned worker own.number) state.workers kind) in
    activate_goes_on state worker row.0 happened sound row.1.0 (grind (arith, nat_tests, find_passes (is_worker worker) state.workers row.0 row.1.0)) row.1.1 gives
