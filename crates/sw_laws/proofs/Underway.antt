-- The registration of a job that is underway is mapped.
use Rattle.std.proofs.Common.{◌≡◌, ◌∙◌, ℕ, Bool, true, false, not, ◌&&◌, ◌||◌, ◌==◌, List, [], ◌∷◌, ◌++◌, map, Option, Some, None, refl, sym, ap, subst, true≢false, arith, if◌then◌else◌}
use Rattle.std.specs.List.{list_all, list_any}
use Rattle.std.specs.Prelude.{bytes_eq, find, is_none, is_some}
use Rattle.std.specs.Option.{option_map_or}
use Rattle.std.proofs.lemmas.Bool.{and_from, and_parts}
use Rattle.std.proofs.lemmas.Bool.Decides.{nat_tests}
use Rattle.std.proofs.lemmas.List.Folds.{list_any-append}
use Rattle.sw_data.specs.declared.answers.Settlement.{Settlement}
use Rattle.sw_data.specs.declared.rows.Job.{Job}
use Rattle.sw_data.specs.declared.rows.JobRow.{JobRow}
use Rattle.sw_data.specs.declared.rows.JobPhase.TheVariants as job_phase
use Rattle.sw_rules.specs.Forgetting.{is_busy, is_mapped_of, is_worker_of_key}
use Rattle.sw_rules.specs.Jobs.{new_job_row}
use Rattle.sw_rules.specs.Registering.{may_run}
use Rattle.sw_rules.specs.Rows.{changed, first_job, in_queue, is_job, is_mapped_to, is_number, is_registration, is_unfinished, is_waiting, job_row, mapped_registration}
use Rattle.sw_rules.specs.State.{State, Registration}
use Rattle.sw_laws.specs.Coherent.{Coherent, apart, has_own_registration, is_early}
use Rattle.sw_laws.proofs.FetchSteps.{bytes_joined, first_is}
use Rattle.sw_laws.proofs.JobMoves.{jobs_of_number}
use Rattle.sw_laws.proofs.KeptRechecks.{has_mapped, is_underway}
use Rattle.sw_laws.proofs.Lists.{all_both, all_changed, all_not, all_weaker, any_changed, any_weaker, by_test, by_truth, bytes_eq_equal, bytes_eq_same, bytes_eq_symmetric, find_any, find_passes, found_by, or_from, where_there}
use Rattle.sw_laws.proofs.Moves.{from_any}
use Rattle.sw_laws.proofs.Places.{all_as_found, all_at_found, all_known, all_pushed, both_numbered, places_apart}

abbrev pub AllMapped : List Registration → List JobRow → Type 0
AllMapped rows jobs = list_all (has_mapped rows) jobs ≡ true

same_text : (a b c : List ℕ) → bytes_eq a c ≡ true → bytes_eq b c ≡ true → bytes_eq a b ≡ true
same_text a b c one other = let is : a ≡ b = bytes_eq_equal a c one ∙ sym (bytes_eq_equal b c other) in subst (λ (x : List ℕ). bytes_eq a x ≡ true) is (bytes_eq_same a)

-- ---- changes of registrations

weaker_mapped : (underway one other : Bool) → (one ≡ true → other ≡ true) → (not underway || one) ≡ true → (not underway || other) ≡ true
weaker_mapped underway one other goes is = grind (arith, goes, is)

-- a change of registrations that leaves the mapped ones mapped
pub mapped_rows : (g : Registration → Registration) → ((x : Registration) → (g x).number ≡ x.number) → ((x : Registration) → (g x).mapped ≡ x.mapped) → (rows : List Registration) (jobs : List JobRow) → AllMapped rows jobs → AllMapped (map g rows) jobs
mapped_rows g number mapped rows jobs is =
    all_weaker (has_mapped rows) (has_mapped (map g rows))
    (λ job here. weaker_mapped (is_underway job) _ _ (λ was. where_there _ _ job.registration (λ n has. any_changed (λ found. found.number == n && found.mapped) _ g (λ x passes. rw (number x, mapped x) passes) rows has) was) here) jobs is

pub mapped_plain : (test : Registration → Bool) (g : Registration → Registration) → ((x : Registration) → (g x).number ≡ x.number) → ((x : Registration) → (g x).mapped ≡ x.mapped) → (rows : List Registration) (jobs : List JobRow) → AllMapped rows jobs → AllMapped (changed test g rows) jobs
mapped_plain test g number mapped rows jobs is =
    mapped_rows (λ x. if test x then g x else x) (λ x. by_test (λ (r : Registration). r.number ≡ x.number) (test x) _ x (λ here. number x) (λ other. refl)) (λ x. by_test (λ (r : Registration). r.mapped ≡ x.mapped) (test x) _ x (λ here. mapped x) (λ other. refl)) rows jobs is

pub mapped_pushed : (rows : List Registration) (new : Registration) (jobs : List JobRow) → AllMapped rows jobs → AllMapped (rows ++ new ∷ []) jobs
mapped_pushed rows new jobs is =
    all_weaker (has_mapped rows) (has_mapped (rows ++ new ∷ []))
    (λ job here. weaker_mapped (is_underway job) _ _ (λ was. where_there _ _ job.registration (λ n has. grind (arith, has, list_any-append (λ found. found.number == n && found.mapped) rows (new ∷ []))) was) here) jobs is

-- a job that is underway has no registration of this number
abbrev pub is_free : ℕ → JobRow → Bool
is_free number job = not (is_underway job) || not (is_number job.registration number)

-- the registration of this number leaves the map, and no job that is underway has it
unmapped_by : (rows : List Registration) (number n : ℕ) → (n == number) ≡ false → list_any (λ found. found.number == n && found.mapped) rows ≡ true → list_any (λ found. found.number == n && found.mapped) (changed (is_registration number) (λ row. record row { mapped = false }) rows) ≡ true
unmapped_by rows number n other is = any_changed (λ found. found.number == n && found.mapped) _ _ (λ x passes. grind (arith, nat_tests, passes, other)) rows is

free_by : (registration : Option ℕ) (number : ℕ) (rows : List Registration) → is_number registration number ≡ false → option_map_or (λ n. list_any (λ found. found.number == n && found.mapped) rows) registration true ≡ true
    → option_map_or (λ n. list_any (λ found. found.number == n && found.mapped) (changed (is_registration number) (λ row. record row { mapped = false }) rows)) registration true ≡ true
free_by None number rows free is = refl
free_by (Some n) number rows free is = unmapped_by rows number n free is

unmapped_job : (rows : List Registration) (number : ℕ) (job : JobRow) → is_free number job ≡ true → has_mapped rows job ≡ true → has_mapped (changed (is_registration number) (λ row. record row { mapped = false }) rows) job ≡ true
unmapped_job rows number job free is =
    by_truth (is_underway job)
    (λ here. or_from (is_underway job) _ (λ own. free_by job.registration number rows (grind (arith, free, here)) (grind (arith, is, here))))
    (λ other. grind (arith, other))

pub mapped_left : (rows : List Registration) (number : ℕ) (jobs : List JobRow) → list_all (is_free number) jobs ≡ true → AllMapped rows jobs → AllMapped (changed (is_registration number) (λ row. record row { mapped = false }) rows) jobs
mapped_left rows number jobs free is = all_weaker (λ job. is_free number job && has_mapped rows job) _ (λ job both. let parts = and_parts (is_free number job) (has_mapped rows job) both in unmapped_job rows number job parts.0 parts.1) jobs (all_both _ _ jobs free is)

-- ---- changes of jobs

-- a change of jobs that leaves their registrations, and lets none go on
pub mapped_jobs : (g : JobRow → JobRow) (known : JobRow → Bool) (rows : List Registration) → ((x : JobRow) → known x ≡ true → has_mapped rows x ≡ true → has_mapped rows (g x) ≡ true) → (jobs : List JobRow) → list_all known jobs ≡ true → AllMapped rows jobs → AllMapped rows (map g jobs)
mapped_jobs g known rows goes jobs knows is = all_known known (has_mapped rows) (has_mapped rows) g goes jobs knows is

pub mapped_scheduled : (rows : List Registration) (job : Job) (leader : Option ℕ) (jobs : List JobRow) → AllMapped rows jobs → AllMapped rows (jobs ++ new_job_row job leader ∷ [])
mapped_scheduled rows job leader jobs is = all_pushed (has_mapped rows) jobs (new_job_row job leader) is (grind arith)

pub mapped_settled : (rows : List Registration) (test : JobRow → Bool) (result : Settlement) (jobs : List JobRow) → AllMapped rows jobs → AllMapped rows (changed test (λ row. record row { settled = Some result }) jobs)
mapped_settled rows test result jobs is = all_changed (has_mapped rows) (has_mapped rows) _ (λ x here. by_test (λ (r : JobRow). has_mapped rows r ≡ true) (test x) _ x (λ a. here) (λ b. here)) jobs is

over : (rows : List Registration) (x : JobRow) → has_mapped rows (record x { phase = job_phase.Done }) ≡ true
over rows x = grind arith

-- all but the job that is over
pub mapped_finished : (rows : List Registration) (job : ℕ) (jobs : List JobRow) → list_all (λ x. is_job job x || has_mapped rows x) jobs ≡ true → AllMapped rows (changed (is_job job) (λ row. record row { phase = job_phase.Done }) jobs)
mapped_finished rows job jobs is =
    all_changed (λ x. is_job job x || has_mapped rows x) (has_mapped rows) _ (λ x here. by_test (λ (r : JobRow). has_mapped rows r ≡ true) (is_job job x) _ x (λ a. over rows x) (λ other. grind (arith, here, other))) jobs is

pub all_of_them : (rows : List Registration) (job : ℕ) (jobs : List JobRow) → AllMapped rows jobs → list_all (λ x. is_job job x || has_mapped rows x) jobs ≡ true
all_of_them rows job jobs is = all_weaker (has_mapped rows) _ (λ x here. grind (arith, here)) jobs is

-- ---- one job of a registration is underway

-- a job with a registration of this number has its key and scope
abbrev keyed_job : List ℕ → List ℕ → ℕ → JobRow → Bool
keyed_job key scope number job = not (is_number job.registration number) || (bytes_eq job.job.key key && bytes_eq job.job.scope scope)

keyed_by : (rows : List Registration) (key scope : List ℕ) (number : ℕ) (job : JobRow) (registration : Option ℕ) → apart (λ x y. x.number == y.number) rows ≡ true → list_any (λ r. r.number == number && (bytes_eq r.key key && bytes_eq r.scope scope)) rows ≡ true
    → option_map_or (λ n. list_any (λ found. found.number == n && bytes_eq found.key job.job.key && bytes_eq found.scope job.job.scope) rows) registration true ≡ true → (not (is_number registration number) || (bytes_eq job.job.key key && bytes_eq job.job.scope scope)) ≡ true
keyed_by rows key scope number job None fine there has = refl
keyed_by rows key scope number job (Some n) fine there has =
    or_from (n == number) _ (λ same.
    from_any (λ (r : Registration). r.number == number && ((bytes_eq r.key key && bytes_eq r.scope scope) && (bytes_eq r.key job.job.key && bytes_eq r.scope job.job.scope))) _
    (λ r both. grind (arith, both, bytes_joined r.key job.job.key key, bytes_joined r.scope job.job.scope scope)) rows
    (both_numbered (λ (r : Registration). r.number) (λ r. bytes_eq r.key key && bytes_eq r.scope scope) (λ r. bytes_eq r.key job.job.key && bytes_eq r.scope job.job.scope) rows number fine there
    (any_weaker (λ (r : Registration). r.number == n && bytes_eq r.key job.job.key && bytes_eq r.scope job.job.scope) _ (λ r here. grind (arith, nat_tests, here, same)) rows has)))

keyed_jobs : (state : State) (key scope : List ℕ) (number : ℕ) → Coherent state → list_any (λ r. r.number == number && (bytes_eq r.key key && bytes_eq r.scope scope)) state.registrations ≡ true → list_all (keyed_job key scope number) state.jobs ≡ true
keyed_jobs state key scope number sound there =
    all_weaker (has_own_registration state.registrations) _ (λ job has. keyed_by state.registrations key scope number job job.registration (places_apart (λ (r : Registration). r.number) state.registrations sound.registrations.numbers) there has) state.jobs sound.work.keys

behind_waits : (key scope : List ℕ) (x y : JobRow) → in_queue key scope x ≡ true → not (is_early x y) ≡ true → (not (in_queue key scope y) || is_waiting y.phase) ≡ true
behind_waits key scope x y here clear =
    grind (arith, here, clear, same_text y.job.key x.job.key key, same_text y.job.scope x.job.scope scope)

-- no job of the queue of a job that may run is underway
first_waits : (key scope : List ℕ) (jobs : List JobRow) (this : JobRow) → find (in_queue key scope) jobs ≡ Some this → is_waiting this.phase ≡ true → apart is_early jobs ≡ true → list_all (λ y. not (in_queue key scope y) || is_waiting y.phase) jobs ≡ true
first_waits key scope [] this found waits fine = refl
first_waits key scope (x ∷ xs) this found waits fine =
    let parts = and_parts (list_all (λ y. not (is_early x y)) xs) (apart is_early xs) fine in
    by_truth (in_queue key scope x)
    (λ here.
    let one : x ≡ this = grind (arith, found, here) in
    let own : is_waiting x.phase ≡ true = ap (λ (j : JobRow). is_waiting j.phase) one ∙ waits in
    and_from _ _ (grind (arith, own)) (all_weaker (λ y. not (is_early x y)) _ (λ y clear. behind_waits key scope x y here clear) xs parts.0))
    (λ other. and_from _ _ (grind (arith, other)) (first_waits key scope xs this (grind (arith, found, other)) waits parts.1))

-- the registration of a job that unregisters it is no other job's
pub unregister_free : (state : State) (row : JobRow) (registration : Registration) → job_row state row.job.number ≡ Some row → may_run state row ≡ true → mapped_registration state row.job.key row.job.scope ≡ Some registration → Coherent state → list_all (is_free registration.number) state.jobs ≡ true
unregister_free state row registration found may mapped sound =
    let key = row.job.key in
    let scope = row.job.scope in
    let first = first_is state.jobs row (first_job key scope state.jobs) refl (grind (arith, may)) in
    let waiting = jobs_of_number (λ x. is_waiting x.phase) state.jobs row.job.number row sound.jobs.numbers found (grind (arith, may)) in
    let waits : is_waiting first.0.phase ≡ true = grind (arith, nat_tests, first.2, all_at_found (in_queue key scope) _ state.jobs first.0 first.1 waiting) in
    let queue = first_waits key scope state.jobs first.0 first.1 waits sound.jobs.queues in
    let passes = find_passes (is_mapped_to key scope) state.registrations registration mapped in
    let there = find_any (is_mapped_to key scope) (λ r. r.number == registration.number && (bytes_eq r.key key && bytes_eq r.scope scope)) state.registrations registration mapped (grind (arith, nat_tests, passes)) in
    all_weaker (λ x. keyed_job key scope registration.number x && (not (in_queue key scope x) || is_waiting x.phase)) _ (λ x both. grind (arith, both)) state.jobs
    (all_both _ _ state.jobs (keyed_jobs state key scope registration.number sound there) queue)

underway_clash : (y row : JobRow) → (is_underway y && bytes_eq y.job.key row.job.key && bytes_eq y.job.scope row.job.scope) ≡ true → is_underway row ≡ true → is_early y row ≡ true
underway_clash y row here underway = grind (arith, here, underway, bytes_eq_symmetric y.job.key row.job.key, bytes_eq_symmetric y.job.scope row.job.scope)

queue_clash : (key scope : List ℕ) (x y : JobRow) → (is_underway x && bytes_eq x.job.key key && bytes_eq x.job.scope scope) ≡ true → (is_underway y && bytes_eq y.job.key key && bytes_eq y.job.scope scope) ≡ true → is_early x y ≡ true
queue_clash key scope x y one other = grind (arith, one, other, same_text y.job.key x.job.key key, same_text y.job.scope x.job.scope scope)

pub or_true : (a b : Bool) → b ≡ true → (a || b) ≡ true
or_true a b is = grind (arith, is)

-- the registration of a job that is underway is no other such job's
registered_of : (rows : List Registration) (row : JobRow) (number : ℕ) (registration : Option ℕ) → registration ≡ Some number → option_map_or (λ n. list_any (λ found. found.number == n && bytes_eq found.key row.job.key && bytes_eq found.scope row.job.scope) rows) registration true ≡ true
    → list_any (λ r. r.number == number && (bytes_eq r.key row.job.key && bytes_eq r.scope row.job.scope)) rows ≡ true
registered_of rows row number None is has = absurd cc
registered_of rows row number (Some n) is has =
    let same : n ≡ number = cc in
    any_weaker (λ (r : Registration). r.number == n && bytes_eq r.key row.job.key && bytes_eq r.scope row.job.scope) _ (λ r here. grind (arith, nat_tests, here, same)) rows has

pub others_free : (state : State) (row : JobRow) (number : ℕ) → job_row state row.job.number ≡ Some row → is_underway row ≡ true → row.registration ≡ Some number → Coherent state → list_all (λ x. is_job row.job.number x || is_free number x) state.jobs ≡ true
others_free state row number found underway registered sound =
    let key = row.job.key in
    let scope = row.job.scope in
    let q = λ (x : JobRow). is_underway x && bytes_eq x.job.key key && bytes_eq x.job.scope scope in
    let there = registered_of state.registrations row number row.registration registered (all_at_found (is_job row.job.number) (has_own_registration state.registrations) state.jobs row found sound.work.keys) in
    let own : q row ≡ true = grind (arith, underway, bytes_eq_same key, bytes_eq_same scope) in
    let first = found_by is_early (is_job row.job.number) q state.jobs row sound.jobs.queues found own (λ y here. underway_clash y row here underway) in
    let alone = all_as_found is_early q (is_job row.job.number) (λ x y one other. queue_clash key scope x y one other) state.jobs row sound.jobs.queues first (grind (arith, nat_tests)) in
    all_weaker (λ x. keyed_job key scope number x && (not (q x) || is_job row.job.number x)) _ (λ x both. grind (arith, both)) state.jobs
    (all_both _ _ state.jobs (keyed_jobs state key scope number sound there) alone)

-- where such a job is over, its registration may have left the map
pub mapped_ended : (rows : List Registration) (number job : ℕ) (jobs : List JobRow) → list_all (λ x. is_job job x || is_free number x) jobs ≡ true → AllMapped rows jobs
    → list_all (λ x. is_job job x || has_mapped (changed (is_registration number) (λ row. record row { mapped = false }) rows) x) jobs ≡ true
mapped_ended rows number job jobs free is =
    all_weaker (λ x. (is_job job x || is_free number x) && has_mapped rows x) _
    (λ x both. let parts = and_parts (is_job job x || is_free number x) (has_mapped rows x) both in by_truth (is_job job x) (λ here. grind (arith, here)) (λ other. or_true (is_job job x) _ (unmapped_job rows number x (grind (arith, parts.0, other)) parts.1))) jobs (all_both _ _ jobs free is)

pub ended_settled : (rows : List Registration) (job : ℕ) (test : JobRow → Bool) (result : Settlement) (jobs : List JobRow) → list_all (λ x. is_job job x || has_mapped rows x) jobs ≡ true → list_all (λ x. is_job job x || has_mapped rows x) (changed test (λ row. record row { settled = Some result }) jobs) ≡ true
ended_settled rows job test result jobs is = all_changed (λ x. is_job job x || has_mapped rows x) _ _ (λ x here. by_test (λ (r : JobRow). (is_job job r || has_mapped rows r) ≡ true) (test x) _ x (λ a. here) (λ b. here)) jobs is

-- ---- a key is forgotten

none_of_jobs : (a b c d e : Bool) → (a || b || c || d || e) ≡ false → b ≡ false
none_of_jobs a b c d e is = grind (arith, is)

-- a registration of another key stays mapped
other_stays : (rows : List Registration) (key : List ℕ) (job : JobRow) (registration : Option ℕ) → apart (λ x y. x.number == y.number) rows ≡ true → bytes_eq job.job.key key ≡ false
    → option_map_or (λ n. list_any (λ found. found.number == n && bytes_eq found.key job.job.key && bytes_eq found.scope job.job.scope) rows) registration true ≡ true
    → option_map_or (λ n. list_any (λ found. found.number == n && found.mapped) rows) registration true ≡ true
    → option_map_or (λ n. list_any (λ found. found.number == n && found.mapped) (changed (is_mapped_of key) (λ row. record row { mapped = false }) rows)) registration true ≡ true
other_stays rows key job None fine other own is = refl
other_stays rows key job (Some n) fine other own is =
    any_changed (λ found. found.number == n && (bytes_eq found.key job.job.key && found.mapped)) _ _
    (λ x both. by_test (λ (r : Registration). (r.number == n && r.mapped) ≡ true) (is_mapped_of key x) _ x (λ here. absurd (true≢false (sym (bytes_joined x.key job.job.key key (grind (arith, both)) (grind (arith, here))) ∙ other))) (λ stays. grind (arith, both))) rows
    (both_numbered (λ (r : Registration). r.number) (λ r. bytes_eq r.key job.job.key) (λ r. r.mapped) rows n fine (any_weaker (λ (r : Registration). r.number == n && bytes_eq r.key job.job.key && bytes_eq r.scope job.job.scope) _ (λ r here. grind (arith, here)) rows own) is)

forgotten_job : (rows : List Registration) (key : List ℕ) (job : JobRow) → apart (λ x y. x.number == y.number) rows ≡ true → not (is_unfinished job && bytes_eq job.job.key key) ≡ true → has_own_registration rows job ≡ true → has_mapped rows job ≡ true
    → has_mapped (changed (is_mapped_of key) (λ row. record row { mapped = false }) rows) job ≡ true
forgotten_job rows key job fine idle own is =
    by_truth (is_underway job)
    (λ here. or_from (is_underway job) _ (λ too. other_stays rows key job job.registration fine (grind (arith, idle, here)) own (grind (arith, is, here))))
    (λ other. grind (arith, other))

pub mapped_forgotten : (state : State) (key : List ℕ) → is_busy state key ≡ false → Coherent state → AllMapped state.registrations state.jobs → AllMapped (changed (is_mapped_of key) (λ row. record row { mapped = false }) state.registrations) state.jobs
mapped_forgotten state key free sound is =
    let idle = all_not (λ (x : JobRow). is_unfinished x && bytes_eq x.job.key key) state.jobs
    (none_of_jobs (list_any (λ row. bytes_eq row.key key) state.clients) (list_any (λ row. is_unfinished row && bytes_eq row.job.key key) state.jobs)
    (list_any (λ row. is_some row.handler && is_worker_of_key state key row.number) state.workers) (list_any (λ row. is_worker_of_key state key row.worker) state.fetch_events) (list_any (λ row. is_none row.settled && bytes_eq row.key key) state.tasks) free) in
    let fine = places_apart (λ (r : Registration). r.number) state.registrations sound.registrations.numbers in
    all_weaker (λ x. not (is_unfinished x && bytes_eq x.job.key key) && (has_own_registration state.registrations x && has_mapped state.registrations x)) _
    (λ x all. let parts = and_parts _ _ all in let both = and_parts _ _ parts.1 in forgotten_job state.registrations key x fine parts.0 both.0 both.1) state.jobs
    (all_both _ _ state.jobs idle (all_both _ _ state.jobs sound.work.keys is))
