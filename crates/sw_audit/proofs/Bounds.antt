-- The numbers that a mark holds are those of lanes and rows, and so they are below the most of these.
use Rattle.std.proofs.Common.{◌≡◌, ℕ, ◌<◌, ◌≤◌, Bool, true, false, ◌&&◌, ◌==◌, nat_lt, List, length, Option, Some, None, refl, arith, option_and_then, option_map, slice_get, if◌then◌else◌}
use Rattle.std.specs.Prelude.{find}
use Rattle.std.proofs.lemmas.Bool.Decides.{nat_tests}
use Rattle.std.proofs.lemmas.Option.{slice_get_past}
use Rattle.sw_data.specs.declared.events.Event.{Event}
use Rattle.sw_data.specs.declared.events.Event.TheVariants as event
use Rattle.sw_data.specs.declared.events.Who.TheVariants as who
use Rattle.sw_data.specs.declared.recordings.Call.{Call}
use Rattle.sw_data.specs.declared.recordings.Recording.{Recording}
use Rattle.sw_data.specs.declared.rows.JobRow.{JobRow}
use Rattle.sw_data.specs.declared.workers.Phase.{Phase}
use Rattle.sw_rules.specs.Activating.{is_owed, pay}
use Rattle.sw_rules.specs.Calls.{make_call}
use Rattle.sw_rules.specs.Installing.{job_in}
use Rattle.sw_rules.specs.Recordings.{recorded_event}
use Rattle.sw_rules.specs.Rows.{is_registration, job_row, task_row, worker_row}
use Rattle.sw_rules.specs.State.{State, Registration, Worker, AddAll}
use Rattle.sw_rules.specs.Step.{case_of, step}
use Rattle.sw_rules.specs.Told.{Outcome}
use Rattle.sw_laws.specs.Coherent.{Coherent, ArePlaces, is_place}
use Rattle.sw_laws.proofs.Lists.{any_weaker, find_passes}
use Rattle.sw_laws.proofs.Places.{all_at_found, found_any, places_below}
use Rattle.sw_audit.specs.Naming.{AreFew}
use Rattle.sw_audit.proofs.HostEvents.{HostForm, its_case, named_number}

-- ---- rows

-- the number of a row that is found is a place
found_below : {X : Type 0} (number : X → ℕ) (rows : List X) (n : ℕ) (row : X) → ArePlaces number rows → find (λ x. number x == n) rows ≡ Some row → n < length rows
found_below number rows n row are is =
    let place = all_at_found (λ x. number x == n) (λ x. is_place rows (number x)) rows row is (places_below number rows are) in
    grind (arith, nat_tests, place, find_passes (λ x. number x == n) rows row is)

-- what comes of a value needs one
bound_there : {A B : Type 0} (f : A → Option B) (o : Option A) (b : B) → option_and_then f o ≡ Some b → (a : A) × (o ≡ Some a)
bound_there f None b is = absurd cc
bound_there f (Some a) b is = (a, refl)

mapped_there : {A B : Type 0} (f : A → B) (o : Option A) (b : B) → option_map f o ≡ Some b → (a : A) × (o ≡ Some a)
mapped_there f None b is = absurd cc
mapped_there f (Some a) b is = (a, refl)

elim_there : {A B : Type 0} (f : A → Option B) (o : Option A) (b : B) → elim o [ None ↦ None | Some a ↦ f a ] ≡ Some b → (a : A) × (o ≡ Some a)
elim_there f None b is = absurd cc
elim_there f (Some a) b is = (a, refl)

where_true : {A : Type 0} (test : Bool) (a b : A) → (if test then Some a else None) ≡ Some b → test ≡ true
where_true true a b is = refl
where_true false a b is = absurd cc

module _ {most : ℕ} (recording : Recording) (state : State) (sound : Coherent state) (fits : AreFew most recording state) where
  job_fits : (number : ℕ) (row : JobRow) → job_row state number ≡ Some row → number < most
  job_fits number row is = let below = found_below (λ (x : JobRow). x.job.number) state.jobs number row sound.jobs.numbers is in omega (arith, below, fits.jobs)

  worker_fits : (number : ℕ) (row : Worker) → worker_row state number ≡ Some row → number < most
  worker_fits number row is = let below = found_below (λ (x : Worker). x.number) state.workers number row sound.workers.numbers is in omega (arith, below, fits.workers)

  task_fits : (number : ℕ) (row : AddAll) → task_row state number ≡ Some row → number < most
  task_fits number row is = let below = found_below (λ (x : AddAll). x.number) state.tasks number row sound.tasks.numbers is in omega (arith, below, fits.tasks)

  owed_fits : (number : ℕ) → is_owed state number ≡ true → number < most
  owed_fits number is =
      let there = found_any (is_registration number) state.registrations (any_weaker (λ (row : Registration). row.number == number && row.owed) _ (λ row here. grind (arith, here)) state.registrations is) in
      let below = found_below (λ (x : Registration). x.number) state.registrations number there.0 sound.registrations.numbers there.1 in
      omega (arith, below, fits.registrations)

  -- a job in a phase
  phase_fits : (test : JobRow → Bool) (number : ℕ) (f : JobRow → Option Outcome) (o : Outcome) → option_and_then f (job_in test state number) ≡ Some o → number < most
  phase_fits test number f o is =
      let row = (bound_there f (job_in test state number) o is) in
      let there = bound_there _ (job_row state number) row.0 row.1 in
      job_fits number there.0 there.1

  case_fits : (happened : Event) (o : Outcome) → HostForm happened → case_of state happened ≡ Some o → named_number happened < most
  case_fits (event.Run maker job) o host is = let there = elim_there _ (job_row state job) o is in job_fits job there.0 there.1
  case_fits (event.Fetched maker job line) o host is = phase_fits _ job _ o is
  case_fits (event.Evaluated maker job) o host is = phase_fits _ job _ o is
  case_fits (event.Installed maker job) o host is = phase_fits _ job _ o is
  case_fits (event.TryActivate maker registration) o host is = owed_fits registration (where_true (is_owed state registration) (pay state registration) o is)
  case_fits (event.Activated maker worker) o host is = let there = bound_there _ (worker_row state worker) o is in worker_fits worker there.0 there.1
  case_fits (event.Added maker task lines) o host is = let there = bound_there _ (task_row state task) o is in task_fits task there.0 there.1
  case_fits _ o host is = absurd host

  -- the number of a host's event
  pub number_fits : (happened : Event) (o : Outcome) → HostForm happened → step state happened ≡ Some o → named_number happened < most
  number_fits happened o host is = case_fits happened o host (its_case state happened o is).1

  -- the worker of a handler that makes a call
  pub handler_fits : (worker : ℕ) (p : Phase) (number : ℕ) (called : Call) (o : Outcome) → make_call state (who.Handler worker p number) called ≡ Some o → worker < most
  handler_fits worker p number called o is = let there = bound_there _ (worker_row state worker) o is in worker_fits worker there.0 there.1

  -- a lane with an action
  pub lane_fits : (lane at : ℕ) (happened : Event) → recorded_event recording lane at ≡ Some happened → lane < most
  lane_fits lane at happened is = by (nat_lt lane (length recording.lanes)) refl
    where
      by : (b : Bool) → nat_lt lane (length recording.lanes) ≡ b → lane < most
      by true below = let small : lane < length recording.lanes = grind (arith, nat_tests, below) in omega (arith, small, fits.lanes)
      by false past =
          let beyond : length recording.lanes ≤ lane = grind (arith, nat_tests, past) in
          let action = mapped_there _ _ happened is in
          let actions = bound_there _ (slice_get recording.lanes lane) action.0 action.1 in
          let none = slice_get_past recording.lanes lane beyond in
          absurd cc
