-- A job's worker begins to install, and the job's promise resolves: this keeps a state coherent.
use Rattle.std.proofs.Common.{◌≡◌, ◌∙◌, ℕ, Bool, true, false, not, ◌&&◌, ◌||◌, ◌==◌, List, [], ◌∷◌, map, Option, Some, None, option_map, refl, sym, subst, true≢false, arith, if◌then◌else◌}
use Rattle.std.specs.List.{list_all, list_any}
use Rattle.std.specs.Prelude.{bytes_eq, is_none, is_some}
use Rattle.std.specs.Option.{option_map_or}
use Rattle.std.proofs.lemmas.Bool.{and_from, and_parts}
use Rattle.std.proofs.lemmas.Bool.Decides.{nat_tests}
use Rattle.sw_data.specs.declared.answers.Settlement.{Settlement}
use Rattle.sw_data.specs.declared.answers.Settlement.TheVariants as settlement
use Rattle.sw_data.specs.declared.rows.JobPhase.TheVariants as job_phase
use Rattle.sw_data.specs.declared.rows.JobRow.{JobRow}
use Rattle.sw_rules.specs.Installing.{begin_install, job_worker, remember, tell_update}
use Rattle.sw_rules.specs.Jobs.{gets_value, settle}
use Rattle.sw_rules.specs.Rows.{changed, has_worker, is_in_phase, is_evaluating, is_installing, is_job, is_number, is_unfinished, is_waiting, is_worker, newest_worker, worker_row}
use Rattle.sw_rules.specs.State.{State, Registration, Worker}
use Rattle.sw_rules.specs.Told.{followed}
use Rattle.sw_laws.specs.Coherent.{Coherent, SoundJobs, SoundWork, apart, has_its_handler, has_its_job, has_its_worker, has_own_registration, has_worker_row, is_being_installed, is_early, is_parsed, is_place, is_settled_phase, share_slot, share_worker}
use Rattle.sw_laws.proofs.AtOnce.{begun_at_once, installing}
use Rattle.sw_laws.proofs.EndSteps.{IsMaker, alone, alone_has, other_number, pass_on, same_place}
use Rattle.sw_laws.proofs.FetchSteps.{bytes_joined}
use Rattle.sw_laws.proofs.InstallSteps.{made_of, parsed_of}
use Rattle.sw_laws.proofs.JobMoves.{GoTogether, KeepsJob, its_job, joined-moved, jobs_of_number, there_of_jobs}
use Rattle.sw_laws.proofs.JobSteps.{settled_keeps, settled_queues, settled_together, settled_with}
use Rattle.sw_laws.proofs.Lists.{all_both, all_changed, all_not, all_true, all_weaker, any_changed, apart_changed, by_test, bytes_eq_symmetric, either_way, find_any, find_passes, found_same, not_true, where_there}
use Rattle.sw_laws.proofs.Moves.{Keeps, all_of_number, clients-moved, events-moved, from_any, tasks-moved, weaker_phases}
use Rattle.sw_laws.proofs.Places.{all_at_found, all_known, any_known, apart_both, apart_known, both_numbered, found_any, place_changed, places_apart, places_changed}
use Rattle.sw_laws.proofs.Split.{IsAt}

-- ---- no other worker of the registration installs

-- two jobs of one queue that are both past waiting
abbrev both_past : JobRow → JobRow → Bool
both_past x y = is_unfinished x && is_unfinished y && bytes_eq y.job.key x.job.key && bytes_eq y.job.scope x.job.scope && not (is_waiting x.phase) && not (is_waiting y.phase)

past_plain : (a b key key' scope scope' w w' : Bool) → key ≡ key' → scope ≡ scope' → (a && b && key && scope && w && w') ≡ (b && a && key' && scope' && w' && w)
past_plain a b key key' scope scope' w w' one other = grind (arith, one, other)

past_weaker : (a b key scope w w' : Bool) → not (a && (b && key && scope) && w') ≡ true → not (a && b && key && scope && w && w') ≡ true
past_weaker a b key scope w w' is = grind (arith, is)

past_symmetric : (x y : JobRow) → both_past x y ≡ both_past y x
past_symmetric x y = past_plain (is_unfinished x) (is_unfinished y) _ _ _ _ (not (is_waiting x.phase)) (not (is_waiting y.phase)) (bytes_eq_symmetric y.job.key x.job.key) (bytes_eq_symmetric y.job.scope x.job.scope)

past_apart : (rows : List JobRow) → apart is_early rows ≡ true → apart both_past rows ≡ true
past_apart [] is = refl
past_apart (x ∷ xs) is =
    let parts = and_parts (list_all (λ y. not (is_early x y)) xs) (apart is_early xs) is in
    and_from _ _ (all_weaker (λ y. not (is_early x y)) _ (λ y here. past_weaker (is_unfinished x) (is_unfinished y) _ _ (not (is_waiting x.phase)) (not (is_waiting y.phase)) here) xs parts.0) (past_apart xs parts.1)

regrouped : (number : ℕ) (key scope : List ℕ) (rows : List Registration) → list_any (λ row. row.number == number && bytes_eq row.key key && bytes_eq row.scope scope) rows ≡ true → list_any (λ row. row.number == number && (bytes_eq row.key key && bytes_eq row.scope scope)) rows ≡ true
regrouped number key scope [] is = is
regrouped number key scope (x ∷ xs) is = grind (arith, is, regrouped number key scope xs)

keys_joined : (a b c d e f : List ℕ) (here : Bool) → (here && ((bytes_eq a b && bytes_eq d e) && (bytes_eq a c && bytes_eq d f))) ≡ true → (bytes_eq b c && bytes_eq e f) ≡ true
keys_joined a b c d e f here is = grind (arith, is, bytes_joined a b c, bytes_joined d e f)

-- two jobs of one registration are of one queue
same_queue : (registrations : List Registration) (x y : JobRow) (registration : ℕ) → apart (λ a b. a.number == b.number) registrations ≡ true
    → list_any (λ row. row.number == registration && bytes_eq row.key x.job.key && bytes_eq row.scope x.job.scope) registrations ≡ true
    → list_any (λ row. row.number == registration && bytes_eq row.key y.job.key && bytes_eq row.scope y.job.scope) registrations ≡ true
    → (bytes_eq x.job.key y.job.key && bytes_eq x.job.scope y.job.scope) ≡ true
same_queue registrations x y registration fine one other =
    from_any (λ row. row.number == registration && ((bytes_eq row.key x.job.key && bytes_eq row.scope x.job.scope) && (bytes_eq row.key y.job.key && bytes_eq row.scope y.job.scope))) _
    (λ row here. keys_joined row.key x.job.key y.job.key row.scope x.job.scope y.job.scope (row.number == registration) here) registrations
    (both_numbered (λ (r : Registration). r.number) (λ row. bytes_eq row.key x.job.key && bytes_eq row.scope x.job.scope) (λ row. bytes_eq row.key y.job.key && bytes_eq row.scope y.job.scope) registrations registration fine (regrouped registration x.job.key x.job.scope registrations one) (regrouped registration y.job.key y.job.scope registrations other))

-- ---- the job and its worker go on

abbrev begun : ℕ → Option ℕ → JobRow → JobRow
begun job newest row = if is_job job row then record row { phase = job_phase.Installing; remembered = newest } else row

begun_keeps : (job : ℕ) (newest : Option ℕ) → KeepsJob (begun job newest)
begun_keeps job newest = record { job = λ x. grind arith; leader = λ x. grind arith }

abbrev may_begin : JobRow → ℕ → ℕ → JobRow → Bool
may_begin row registration worker x =
    alone_has row worker x && (not (is_job row.job.number x) || (is_evaluating x.phase && is_number x.registration registration))

begun_together : (row : JobRow) (registration worker : ℕ) (newest : Option ℕ) → GoTogether (may_begin row registration worker) (begun row.job.number newest)
begun_together row registration worker newest other first leader know knows is there joined waits same =
    (grind (arith, know, is, waits), grind (arith, same))

begun_both : (x y : JobRow) (newest : Option ℕ) → is_unfinished x ≡ true → (is_unfinished y && not (is_waiting y.phase)) ≡ true → is_early x y ≡ false → is_early (record x { phase = job_phase.Installing; remembered = newest }) (record y { phase = job_phase.Installing; remembered = newest }) ≡ false
begun_both x y newest one other fine = grind (arith, one, other, fine)

begun_first : (x y : JobRow) (newest : Option ℕ) → is_unfinished x ≡ true → is_early x y ≡ false → is_early (record x { phase = job_phase.Installing; remembered = newest }) y ≡ false
begun_first x y newest one fine = grind (arith, one, fine)

begun_last : (x y : JobRow) (newest : Option ℕ) → (is_unfinished y && not (is_waiting y.phase)) ≡ true → is_early x y ≡ false → is_early x (record y { phase = job_phase.Installing; remembered = newest }) ≡ false
begun_last x y newest other fine = grind (arith, other, fine)

begun_queues : (row : JobRow) (registration worker : ℕ) (newest : Option ℕ) (x y : JobRow) → may_begin row registration worker x ≡ true → may_begin row registration worker y ≡ true → is_early x y ≡ false → is_early (begun row.job.number newest x) (begun row.job.number newest y) ≡ false
begun_queues row registration worker newest x y one other fine =
    by_test (λ r. is_early r (begun row.job.number newest y) ≡ false) (is_job row.job.number x) _ x
    (λ here. by_test (λ r. is_early (record x { phase = job_phase.Installing; remembered = newest }) r ≡ false) (is_job row.job.number y) _ y
    (λ there. begun_both x y newest (grind (arith, here, one)) (grind (arith, there, other)) fine)
    (λ none. begun_first x y newest (grind (arith, here, one)) fine))
    (λ none. by_test (λ r. is_early x r ≡ false) (is_job row.job.number y) _ y (λ there. begun_last x y newest (grind (arith, there, other)) fine) (λ same. fine))

abbrev installing_of_number : ℕ → Worker → Worker
installing_of_number number row = if is_worker number row then installing row else row

installing_keeps : (number : ℕ) → Keeps (installing_of_number number)
installing_keeps number = record { number = λ x. grind arith; registration = λ x. grind arith }

-- what is known of workers where this one may begin to install
abbrev may_install : ℕ → ℕ → Worker → Bool
may_install number registration w =
    (not (w.number == number) || (is_parsed w && w.registration == registration))
    && not (w.registration == registration && is_being_installed w)

installing_slots : (number registration : ℕ) (x y : Worker) → may_install number registration x ≡ true → may_install number registration y ≡ true → (share_slot x y || x.number == y.number) ≡ false → share_slot (installing_of_number number x) (installing_of_number number y) ≡ false
installing_slots number registration x y one other fine = grind (arith, nat_tests, one, other, fine)

its_installing : (owner registration : ℕ) (w : Worker) (jobs : List JobRow) → (w.registration == registration && is_being_installed w) ≡ true → has_its_job jobs w ≡ true
    → list_any (λ x. is_in_phase is_installing x && is_number x.worker w.number && is_number x.registration w.registration) jobs ≡ true
its_installing owner registration w jobs here is = grind (arith, here, is)

own_by : (registrations : List Registration) (x : JobRow) (o : Option ℕ) (registration : ℕ) → is_number o registration ≡ true
    → option_map_or (λ n. list_any (λ row. row.number == n && bytes_eq row.key x.job.key && bytes_eq row.scope x.job.scope) registrations) o true ≡ true
    → list_any (λ row. row.number == registration && bytes_eq row.key x.job.key && bytes_eq row.scope x.job.scope) registrations ≡ true
own_by registrations x None registration of own = absurd cc
own_by registrations x (Some n) registration of own =
    let same : n ≡ registration = grind (arith, nat_tests, of) in
    subst (λ m. list_any (λ (row : Registration). row.number == m && bytes_eq row.key x.job.key && bytes_eq row.scope x.job.scope) registrations ≡ true) same own

own_at : (registrations : List Registration) (x : JobRow) (registration : ℕ) → is_number x.registration registration ≡ true → has_own_registration registrations x ≡ true
    → list_any (λ row. row.number == registration && bytes_eq row.key x.job.key && bytes_eq row.scope x.job.scope) registrations ≡ true
own_at registrations x registration of own = own_by registrations x x.registration registration of own

past_both : (x row : JobRow) (w : Worker) → is_in_phase is_evaluating row ≡ true → (is_in_phase is_installing x && is_number x.worker w.number && is_number x.registration w.registration) ≡ true → (bytes_eq x.job.key row.job.key && bytes_eq x.job.scope row.job.scope) ≡ true → both_past x row ≡ true
past_both x row w phase is queue = grind (arith, phase, is, queue, bytes_eq_symmetric x.job.key row.job.key, bytes_eq_symmetric x.job.scope row.job.scope)

phases_clash : (x : JobRow) → is_in_phase is_evaluating x ≡ true → is_in_phase is_installing x ≡ true → ⊥
phases_clash x one other = grind (arith, one, other)

phases_differ : (x row : JobRow) (w : Worker) → x ≡ row → is_in_phase is_evaluating row ≡ true → (is_in_phase is_installing x && is_number x.worker w.number && is_number x.registration w.registration) ≡ true → ⊥
phases_differ x row w same phase is = phases_clash x (subst (λ (r : JobRow). is_in_phase is_evaluating r ≡ true) (sym same) phase) (grind (arith, is))

pub parsed_rows : (state : State) (row : JobRow) (registration : ℕ) (worker : Worker) (at : IsAt state is_evaluating row registration) (made : job_worker state row ≡ Some worker) (sound : Coherent state)
    → list_all (λ w. not (w.number == worker.number) || (is_parsed w && w.registration == registration)) state.workers ≡ true
parsed_rows state row registration worker at made sound =
    all_of_number (λ w. is_parsed w && w.registration == registration) state.workers worker.number worker sound.workers.numbers (made_of state row.worker worker made).1 (grind (arith, parsed_of state row registration worker at made sound))

begins_by : (x : JobRow) (workers : List Worker) (newest : Option ℕ) (number : ℕ) (made : Option ℕ) → has_worker (λ w. is_number x.registration w.registration && is_being_installed w) workers number ≡ true → is_number made number ≡ true → is_some x.registration ≡ true
    → has_its_worker workers (record x { phase = job_phase.Installing; remembered = newest; worker = made }) ≡ true
begins_by x workers newest number None has made there = absurd cc
begins_by x workers newest number (Some n) has made there =
    let same : n ≡ number = grind (arith, nat_tests, made) in
    let own : has_worker (λ w. is_number x.registration w.registration && is_being_installed w) workers n ≡ true = subst (λ m. has_worker (λ w. is_number x.registration w.registration && is_being_installed w) workers m ≡ true) (sym same) has in
    grind (arith, own, there)

begun_plain : (leader made owner : Option ℕ) (number registration n r : ℕ) → is_none leader ≡ true → is_number made number ≡ true → is_number owner registration ≡ true → (n == number) ≡ true → (r == registration) ≡ true → (is_none leader && true && is_number made n && is_number owner r) ≡ true
begun_plain leader made owner number registration n r one two three same of = grind (arith, nat_tests, one, two, three, same, of)

begins_fits : (x : JobRow) (workers : List Worker) (newest : Option ℕ) (number : ℕ) → has_worker (λ w. is_number x.registration w.registration && is_being_installed w) workers number ≡ true → is_number x.worker number ≡ true → is_some x.registration ≡ true
    → has_its_worker workers (record x { phase = job_phase.Installing; remembered = newest }) ≡ true
begins_fits x workers newest number has made there = begins_by x workers newest number x.worker has made there

has_job_from : (q : JobRow → Bool) (rows : List JobRow) (w : Worker) → list_any q rows ≡ true → (not (is_being_installed w) || list_any q rows) ≡ true
has_job_from q rows w is = grind (arith, is)

begun_job : (row : JobRow) (registration number : ℕ) (newest : Option ℕ) (w : Worker) (x : JobRow) → may_begin row registration number x ≡ true → is_job row.job.number x ≡ true → is_worker number w ≡ true → (w.registration == registration) ≡ true
    → (is_in_phase is_installing (begun row.job.number newest x) && is_number (begun row.job.number newest x).worker w.number && is_number (begun row.job.number newest x).registration w.registration) ≡ true
begun_job row registration number newest w x know here same of =
    by_test (λ r. (is_in_phase is_installing r && is_number r.worker w.number && is_number r.registration w.registration) ≡ true) (is_job row.job.number x) _ x
    (λ yes_here. begun_plain x.leader x.worker x.registration number registration w.number w.registration (grind (arith, know, here)) (grind (arith, know, here)) (grind (arith, know, here)) same of)
    (λ other. absurd (true≢false (sym here ∙ other)))

still_at : (row : JobRow) (registration number : ℕ) (newest : Option ℕ) (w : Worker) (x : JobRow) → may_begin row registration number x ≡ true
    → (is_in_phase is_installing x && is_number x.worker w.number && is_number x.registration w.registration) ≡ true
    → (is_in_phase is_installing (begun row.job.number newest x) && is_number (begun row.job.number newest x).worker w.number && is_number (begun row.job.number newest x).registration w.registration) ≡ true
still_at row registration number newest w x know is =
    by_test (λ r. (is_in_phase is_installing r && is_number r.worker w.number && is_number r.registration w.registration) ≡ true) (is_job row.job.number x) _ x
    (λ here. absurd (grind (arith, know, here, is))) (λ other. is)

module _ (state : State) (row : JobRow) (registration : ℕ) (worker : Worker) (at : IsAt state is_evaluating row registration) (made : job_worker state row ≡ Some worker) (sound : Coherent state) where
  abbrev job : ℕ
  job = row.job.number

  abbrev number : ℕ
  number = worker.number

  own : (row.worker ≡ Some worker.number) × (worker_row state worker.number ≡ Some worker)
  own = made_of state row.worker worker made

  is_maker : IsMaker state row number
  is_maker = record { found = at.found; leads = grind (arith, at.phase); made = own.0 }

  knows_jobs : list_all (may_begin row registration number) state.jobs ≡ true
  knows_jobs = all_both _ _ state.jobs (alone state row number is_maker sound)
      (jobs_of_number (λ x. is_evaluating x.phase && is_number x.registration registration) state.jobs job row sound.jobs.numbers at.found (grind (arith, nat_tests, at.phase, at.registered)))

  -- a worker of the registration that installs has a job of the same queue that is past waiting
  never_two : list_any (λ w. w.registration == registration && is_being_installed w) state.workers ≡ true → ⊥
  never_two is =
      let p = λ (w : Worker). w.registration == registration && is_being_installed w in
      let other = found_any p state.workers is in
      let w = other.0 in
      let passes = find_passes p state.workers w other.1 in
      let q = λ (x : JobRow). is_in_phase is_installing x && is_number x.worker w.number && is_number x.registration w.registration in
      let its = found_any q state.jobs (its_installing w.registration registration w state.jobs passes (all_at_found p (has_its_job state.jobs) state.workers w other.1 sound.work.installing)) in
      let x = its.0 in
      let is_it = find_passes q state.jobs x its.1 in
      let one = own_at state.registrations x registration (grind (arith, nat_tests, is_it, passes)) (all_at_found q (has_own_registration state.registrations) state.jobs x its.1 sound.work.keys) in
      let two = own_at state.registrations row registration (grind (arith, nat_tests, at.registered)) (all_at_found (is_job job) (has_own_registration state.registrations) state.jobs row at.found sound.work.keys) in
      let queue = same_queue state.registrations x row registration (places_apart (λ r. r.number) state.registrations sound.registrations.numbers) one two in
      let same : x ≡ row = found_same both_past past_symmetric q (is_job job) state.jobs x row (past_apart state.jobs sound.jobs.queues) its.1 at.found (past_both x row w at.phase is_it queue) in
      phases_differ x row w same at.phase is_it

  knows_workers : list_all (may_install number registration) state.workers ≡ true
  knows_workers = all_both _ _ state.workers
      (parsed_rows state row registration worker at made sound)
      (all_not (λ w. w.registration == registration && is_being_installed w) state.workers (not_true never_two))

  abbrev newest : Option ℕ
  newest = option_map (λ w. w.number) (newest_worker state registration)

  abbrev result : Settlement
  result = settlement.Registration registration

  abbrev rows : List JobRow
  rows = map (begun job newest) state.jobs

  abbrev f : Worker → Worker
  f = installing_of_number number

  sound_jobs : SoundJobs (changed (gets_value job) (λ x. record x { settled = Some result }) rows)
  sound_jobs =
      let jobs = state.jobs in
      let known = may_begin row registration number in
      let leads : list_all (λ x. not (is_job job x) || is_none x.leader) rows ≡ true =
      all_known known (λ x. true) _ (begun job newest) (λ x know here. either_way (λ r. (not (is_job job r) || is_none r.leader) ≡ true) (is_job job x) _ x (grind (arith, know)) (grind (arith, know))) jobs knows_jobs (all_true jobs) in
      let nearly : list_all (λ x. is_job job x || (not (is_settled_phase x.phase) || is_some x.settled)) rows ≡ true =
      all_known known _ _ (begun job newest) (λ x know is. by_test (λ r. (is_job job r || (not (is_settled_phase r.phase) || is_some r.settled)) ≡ true) (is_job job x) _ x (λ here. grind (arith, here)) (λ other. grind (arith, is))) jobs knows_jobs sound.jobs.settled in
      record {
        numbers = places_changed (λ x. x.job.number) (settled_with job result) (λ x. grind arith) rows (places_changed (λ x. x.job.number) (begun job newest) (λ x. grind arith) jobs sound.jobs.numbers);
        queues = apart_changed is_early (settled_with job result) (λ x y fine. settled_queues job result x y fine) rows
            (apart_known known is_early is_early (begun job newest) (begun_queues row registration number newest) jobs knows_jobs sound.jobs.queues);
        settled = all_changed _ _ (settled_with job result) (λ x is. grind (arith, is)) rows nearly;
        joined = joined-moved (settled_with job result) (settled_keeps job result) _ rows leads (settled_together job result)
            (joined-moved (begun job newest) (begun_keeps job newest) known jobs knows_jobs (begun_together row registration number newest) sound.jobs.joined);
        workers = apart_changed share_worker (settled_with job result) (λ x y fine. grind (arith, fine)) rows (apart_changed share_worker (begun job newest) (λ x y fine. grind (arith, fine)) jobs sound.jobs.workers);
      }

  made_after : (made owner : Option ℕ) (p : Worker → Bool) → ((x : Worker) → may_install number registration x ≡ true → (x.number == number) ≡ false → p x ≡ true → p (f x) ≡ true) → is_number made number ≡ false
      → option_map_or (has_worker (λ w. is_number owner w.registration && p w) state.workers) made false ≡ true
      → option_map_or (has_worker (λ w. is_number owner w.registration && p w) (map f state.workers)) made false ≡ true
  made_after None owner p goes free is = absurd cc
  made_after (Some n) owner p goes free is =
      any_known (may_install number registration) (λ w. w.number == n && (is_number owner w.registration && p w)) _ f
      (λ x know here. same_place (f x).number x.number (f x).registration x.registration n owner (p (f x)) ((installing_keeps number).number x) ((installing_keeps number).registration x)
      (pass_on (x.number == n) (is_number owner x.registration) (p x) (p (f x)) (λ same passes. goes x know (other_number x.number n number same free) passes) here)) state.workers knows_workers is

  -- the worker that begins
  begins_there : (x : JobRow) → may_begin row registration number x ≡ true → is_job job x ≡ true → has_its_worker (map f state.workers) (record x { phase = job_phase.Installing; remembered = newest }) ≡ true
  begins_there x know here =
      begins_fits x (map f state.workers) newest number
      (any_known (may_install number registration) (λ w. w.number == number && (w.registration == registration && is_parsed w)) _ f
      (λ w know_w passes. grind (arith, nat_tests, passes, know, here)) state.workers knows_workers
      (find_any (is_worker number) _ state.workers worker own.1 (grind (arith, nat_tests, parsed_of state row registration worker at made sound))))
      (grind (arith, know, here)) (grind (arith, know, here))

  fits_after : (x : JobRow) → may_begin row registration number x ≡ true → has_its_worker state.workers x ≡ true → has_its_worker (map f state.workers) (begun job newest x) ≡ true
  fits_after x know is =
      by_test (λ r. has_its_worker (map f state.workers) r ≡ true) (is_job job x) _ x
      (λ here. begins_there x know here)
      (λ there.
      let free : is_number x.worker number ≡ false = grind (arith, know, there) in
      weaker_phases x _ _ _ _ (made_after x.worker x.registration is_parsed (λ w a other passes. grind (arith, other, passes)) free) (made_after x.worker x.registration is_being_installed (λ w a other passes. grind (arith, other, passes)) free) is)

  own_job : (w : Worker) → is_worker number w ≡ true → (w.registration == registration) ≡ true → has_its_job rows (installing w) ≡ true
  own_job w here of =
      has_job_from (λ x. is_in_phase is_installing x && is_number x.worker w.number && is_number x.registration w.registration) rows (installing w)
      (any_known (may_begin row registration number) (is_job job) _ (begun job newest) (λ x know passes. begun_job row registration number newest w x know passes here of) state.jobs knows_jobs
      (find_any (is_job job) (is_job job) state.jobs row at.found (grind (arith, nat_tests))))

  job_after : (w : Worker) → may_install number registration w ≡ true → has_its_job state.jobs w ≡ true → has_its_job rows (f w) ≡ true
  job_after w know is =
      by_test (λ r. has_its_job rows r ≡ true) (is_worker number w) _ w
      (λ here. own_job w here (grind (arith, know, here)))
      (λ other. its_job w _ _ (any_known (may_begin row registration number) _ _ (begun job newest) (λ x knows_x passes. still_at row registration number newest w x knows_x passes) state.jobs knows_jobs) is)

  sound_work : SoundWork state.registrations (map f state.workers) (changed (gets_value job) (λ x. record x { settled = Some result }) rows)
  sound_work =
      let known = may_begin row registration number in
      let jobs = state.jobs in
      let g = settled_with job result in
      record {
        keys = all_changed _ _ g (λ x is. either_way (λ r. has_own_registration state.registrations r ≡ true) (gets_value job x) _ x is is) rows
            (all_known known _ _ (begun job newest) (λ x know is. either_way (λ r. has_own_registration state.registrations r ≡ true) (is_job job x) _ x is is) jobs knows_jobs sound.work.keys);
        made = all_changed _ _ g (λ x is. either_way (λ r. has_worker_row (map f state.workers) r ≡ true) (gets_value job x) _ x is is) rows
            (all_known known _ _ (begun job newest) (λ x know is. let now = where_there _ _ x.worker (place_changed f state.workers) is in either_way (λ r. has_worker_row (map f state.workers) r ≡ true) (is_job job x) _ x now now) jobs knows_jobs sound.work.made);
        phases = all_changed _ _ g (λ x is. either_way (λ r. has_its_worker (map f state.workers) r ≡ true) (gets_value job x) _ x is is) rows
            (all_known known _ _ (begun job newest) fits_after jobs knows_jobs sound.work.phases);
        installing = all_weaker _ _ (λ w is. its_job w _ _ (any_changed _ _ g (λ x passes. either_way (λ r. (is_in_phase is_installing r && is_number r.worker w.number && is_number r.registration w.registration) ≡ true) (gets_value job x) _ x passes passes) rows) is) (map f state.workers)
            (all_known (may_install number registration) _ _ f job_after state.workers knows_workers sound.work.installing);
      }

  pub begin-coherent : Coherent (followed (begin_install state row.job.number registration worker.number) (λ begun. followed (settle begun row.job.number (settlement.Registration registration)) (λ settled. tell_update settled registration))).state
  unfolding settle tell_update followed remember
  begin-coherent =
      subst (λ s. Coherent (tell_update (settle s job result).state registration).state) (sym (begun_at_once state job registration number)) (
      let known = λ (w : Worker). may_install number registration w && has_its_handler w in
      let knows : list_all known state.workers ≡ true = all_both _ _ state.workers knows_workers sound.workers.handlers in
      record {
        registrations = sound.registrations;
        workers = record {
          numbers = places_changed (λ w. w.number) f (λ w. (installing_keeps number).number w) state.workers sound.workers.numbers;
          slots = apart_known (may_install number registration) (λ x y. share_slot x y || x.number == y.number) share_slot f (installing_slots number registration) state.workers knows_workers (apart_both share_slot (λ x y. x.number == y.number) state.workers sound.workers.slots (places_apart (λ w. w.number) state.workers sound.workers.numbers));
          handlers = all_changed _ _ f (λ w is. by_test (λ r. has_its_handler r ≡ true) (is_worker number w) _ w (λ here. refl) (λ other. is)) state.workers sound.workers.handlers;
          owners = all_changed _ _ f (λ w is. by_test (λ (r : Worker). is_place state.registrations r.registration ≡ true) (is_worker number w) _ w (λ here. is) (λ other. is)) state.workers sound.workers.owners;
        };
        jobs = sound_jobs;
        work = sound_work;
        tasks = tasks-moved f (installing_keeps number) known state.workers knows state.tasks (λ x a is. grind (arith, is)) sound.tasks;
        clients = clients-moved f (installing_keeps number) known state.workers knows state.registrations state.clients (λ x a is. grind (arith, a, is)) sound.clients;
        events = events-moved f (installing_keeps number) known state.workers knows state.fetch_events (λ x a is. grind (arith, a, is)) sound.events;
        caches = sound.caches;
        promises = all_weaker _ _ (λ p is. there_of_jobs (settled_with job result) rows state.tasks p.awaited (there_of_jobs (begun job newest) state.jobs state.tasks p.awaited is)) state.promises sound.promises;
      })
