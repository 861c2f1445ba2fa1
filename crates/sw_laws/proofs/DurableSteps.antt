-- What is kept by the steps that make a worker, end a handler, or end a job.
use Rattle.std.proofs.Common.{◌≡◌, ◌∙◌, ℕ, Bool, true, false, not, ◌&&◌, ◌||◌, ◌==◌, List, [], map, Option, Some, None, option_map, refl, sym, ap, subst, arith, if◌then◌else◌}
use Rattle.std.specs.List.{list_all, list_any}
use Rattle.std.specs.Prelude.{find, is_none}
use Rattle.std.specs.Option.{option_map_or}
use Rattle.std.proofs.lemmas.Bool.Decides.{nat_tests}
use Rattle.sw_data.specs.declared.answers.Cause.TheVariants as cause
use Rattle.sw_data.specs.declared.answers.Fault.{Fault}
use Rattle.sw_data.specs.declared.answers.Settlement.{Settlement}
use Rattle.sw_data.specs.declared.answers.Settlement.TheVariants as settlement
use Rattle.sw_data.specs.declared.recordings.Fetched.{Fetched}
use Rattle.sw_data.specs.declared.rows.JobRow.{JobRow}
use Rattle.sw_data.specs.declared.storage.Kept.{Kept}
use Rattle.sw_data.specs.declared.workers.Slot.TheVariants as slot
use Rattle.sw_data.specs.declared.workers.WorkerState.TheVariants as worker_state
use Rattle.sw_rules.specs.Activating.{become_activated}
use Rattle.sw_rules.specs.Installing.{become_waiting, begin_install, end_handler, ended_handler, fail_install, finish_install, first_counter, job_worker, kept_worker, make_worker, placed, reject_and_drop, remember, tell_update, throw}
use Rattle.sw_rules.specs.Jobs.{finish, gets_value, settle}
use Rattle.sw_rules.specs.Registering.{fetch_script}
use Rattle.sw_rules.specs.Registrations.{become, drop_registration, start_handler, unmap}
use Rattle.sw_rules.specs.Rows.{changed, in_slot, is_activating, is_evaluating, is_fetching, is_install, is_job, is_mapped_to, is_registration, is_worker, mapped_registration, newest_worker, registration_row, worker_row}
use Rattle.sw_rules.specs.State.{State, Registration, Worker, Handler}
use Rattle.sw_rules.specs.Storage.{kept_after}
use Rattle.sw_rules.specs.Told.{Told, followed, keep, quiet, type_error}
use Rattle.sw_laws.specs.Coherent.{Coherent, SoundRegistrations, apart, is_being_installed, is_parsed, same_scope}
use Rattle.sw_laws.proofs.AtOnce.{begun_at_once, install_state, installing, shift, waiting_leaves}
use Rattle.sw_laws.proofs.Contents.{found_in, slots_in}
use Rattle.sw_laws.proofs.HandlerSteps.{activating_rows, ended_from}
use Rattle.sw_laws.proofs.InstallSteps.{in_slot_installing, installing_of, knows_parsed, made_of, waits}
use Rattle.sw_laws.proofs.JobMoves.{jobs_of_number}
use Rattle.sw_laws.proofs.KeptInstall.{waiting_keeps}
use Rattle.sw_laws.proofs.KeptRechecks.{KeepsOrder, KeepsRows, followed_orderly, has_mapped, is_underway, rows_further}
use Rattle.sw_laws.proofs.KeptRows.{unmap_ordered, unmap_rows}
use Rattle.sw_laws.proofs.KeptWorkers.{activated_keeps, ended_keeps, is_aside, rows_same, slots_aside}
use Rattle.sw_laws.proofs.Lists.{all_changed, all_true, all_weaker, any_weaker, apart_changed, by_test, find_any, find_passes}
use Rattle.sw_laws.proofs.Moves.{all_of_number}
use Rattle.sw_laws.proofs.Ordered.{Ordered}
use Rattle.sw_laws.proofs.Places.{all_at_found, found_any, found_numbered, places_apart, places_changed}
use Rattle.sw_laws.proofs.RegistrationSteps.{KeepsRegistration, plain_keeps}
use Rattle.sw_laws.proofs.SlotMoves.{look_moved, slots_pushed}
use Rattle.sw_laws.proofs.Split.{IsAt, IsInstalled}
use Rattle.sw_laws.proofs.Underway.{AllMapped, all_of_them, ended_settled, is_free, mapped_ended, mapped_finished, mapped_jobs, mapped_plain, mapped_settled, or_true, others_free}

-- ---- steps that leave registrations and what is kept of their workers

-- the same registrations, and workers of which the same is kept
pub still_keeps : (state : State) (told : Told) → told.state.registrations ≡ state.registrations → ((n : ℕ) → slots_in told.state.workers n ≡ slots_in state.workers n)
    → (AllMapped state.registrations state.jobs → AllMapped state.registrations told.state.jobs) → ((kept : Kept) → (kept_after kept told.changes).registrations ≡ kept.registrations) → KeepsOrder state told
still_keeps state told registrations slots jobs same orderly =
    let both = rows_same state told.state registrations slots orderly.order in
    (record { order = both.0; jobs = rw registrations (jobs orderly.jobs) }, λ kept is. same kept ∙ (is ∙ sym both.1))

-- ---- steps in a row, but for jobs

abbrev pub KeepsPlaced : State → Told → Type 0
KeepsPlaced state told = Ordered state.registrations state.workers → Ordered told.state.registrations told.state.workers × KeepsRows state told

placed_order : (state : State) (told : Told) (next : State → Told) → Ordered (next told.state).state.registrations (next told.state).state.workers → Ordered (followed told next).state.registrations (followed told next).state.workers
unfolding followed
placed_order state told next order = order

placed_further : (state : State) (told : Told) (next : State → Told) → KeepsPlaced state told → KeepsPlaced told.state (next told.state) → KeepsPlaced state (followed told next)
placed_further state told next one other order =
    let first = one order in
    let second = other first.0 in
    (placed_order state told next second.0, rows_further state told next first.1 second.1)

placed_still : (state : State) (told : Told) → told.state.registrations ≡ state.registrations → ((n : ℕ) → slots_in told.state.workers n ≡ slots_in state.workers n) → told.changes ≡ [] → KeepsPlaced state told
placed_still state told registrations slots none order =
    let both = rows_same state told.state registrations slots order in
    (both.0, λ kept is. ap (λ changes. (kept_after kept changes).registrations) none ∙ (is ∙ sym both.1))

settle_placed : (state : State) (job : ℕ) (result : Settlement) → KeepsPlaced state (settle state job result)
unfolding settle
settle_placed state job result = placed_still state (settle state job result) refl (λ n. refl) refl

finish_placed : (state : State) (job : ℕ) → KeepsPlaced state (finish state job)
unfolding finish
finish_placed state job = placed_still state (finish state job) refl (λ n. refl) refl

-- a change of registrations keeps them sound
sound_moved : (f : Registration → Registration) → KeepsRegistration f → (rows : List Registration) → SoundRegistrations rows → SoundRegistrations (map f rows)
sound_moved f keeps rows sound = record {
  numbers = places_changed (λ row. row.number) f keeps.number rows sound.numbers;
  scopes = apart_changed same_scope f keeps.mapped rows sound.scopes;
}

unmap_sound : (state : State) (registration : ℕ) → SoundRegistrations state.registrations → SoundRegistrations (unmap state registration).state.registrations
unfolding unmap
unmap_sound state registration sound = sound_moved _ (plain_keeps (is_registration registration) (λ row. record row { mapped = false }) (λ x. refl) (λ x. refl) (λ x. refl) (λ x is. absurd cc)) state.registrations sound

unmap_workers : (state : State) (registration : ℕ) → Ordered (unmap state registration).state.registrations state.workers → Ordered (unmap state registration).state.registrations (unmap state registration).state.workers
unfolding unmap
unmap_workers state registration order = order

pub unmap_placed : (state : State) (registration : ℕ) → KeepsPlaced state (unmap state registration)
unmap_placed state registration order = (unmap_workers state registration (unmap_ordered state registration (unmap_sound state registration order.sound) order), unmap_rows state registration order)

drop_placed : (state : State) (registration : ℕ) → KeepsPlaced state (drop_registration state registration)
unfolding drop_registration
drop_placed state registration = by_test (KeepsPlaced state) (is_none (newest_worker state registration)) _ _ (λ gone. unmap_placed state registration) (λ there order. (order, λ kept is. is))

reject_placed : (state : State) (job registration : ℕ) (why : Fault) → KeepsPlaced state (reject_and_drop state job registration why)
unfolding reject_and_drop
reject_placed state job registration why =
    let one = (settle state job (settlement.Fault why)).state in
    placed_further state _ _ (settle_placed state job (settlement.Fault why)) (placed_further one _ _ (drop_placed one registration) (finish_placed (drop_registration one registration).state job))

-- ---- a job is over, and its registration may have left the map

-- no other job that is underway has the registration
abbrev AloneAt : ℕ → ℕ → List JobRow → Type 0
AloneAt job registration jobs = list_all (λ x. is_job job x || is_free registration x) jobs ≡ true

reject_jobs : (state : State) (job registration : ℕ) (why : Fault) → AloneAt job registration state.jobs → AllMapped state.registrations state.jobs → let after = (reject_and_drop state job registration why).state in AllMapped after.registrations after.jobs
unfolding reject_and_drop drop_registration followed finish unmap settle
reject_jobs state job registration why free is =
    let result = settlement.Fault why in
    by_test (λ (told : Told). AllMapped (finish told.state job).state.registrations (finish told.state job).state.jobs) (is_none (newest_worker (settle state job result).state registration)) _ _
    (λ gone. mapped_finished _ job _ (ended_settled _ job (gets_value job) result state.jobs (mapped_ended state.registrations registration job state.jobs free is)))
    (λ stays. mapped_finished state.registrations job _ (ended_settled state.registrations job (gets_value job) result state.jobs (all_of_them state.registrations job state.jobs is)))

throw_jobs : (state : State) (job registration worker : ℕ) → AloneAt job registration state.jobs → AllMapped state.registrations state.jobs → let after = (throw state job registration worker).state in AllMapped after.registrations after.jobs
unfolding throw followed become
throw_jobs state job registration worker free is = reject_jobs (become state worker worker_state.Redundant).state job registration (type_error cause.Threw) free is

fail_jobs : (state : State) (row : JobRow) (registration worker : ℕ) → AloneAt row.job.number registration state.jobs → AllMapped state.registrations state.jobs → let after = (fail_install state row registration worker).state in AllMapped after.registrations after.jobs
unfolding fail_install followed finish unmap become end_handler
fail_jobs state row registration worker free is =
    let job = row.job.number in
    by_test (λ (told : Told). AllMapped (finish told.state job).state.registrations (finish told.state job).state.jobs) (is_none row.remembered) _ _
    (λ gone. mapped_finished _ job _ (mapped_ended state.registrations registration job state.jobs free is))
    (λ stays. mapped_finished state.registrations job _ (all_of_them state.registrations job state.jobs is))

install_jobs : (state : State) (job registration : ℕ) (worker : Worker) → AllMapped state.registrations state.jobs → let after = (finish_install state job registration worker).state in AllMapped after.registrations after.jobs
unfolding finish_install followed finish end_handler
install_jobs state job registration worker is =
    let rows = changed (is_registration registration) (placed (first_counter state.registrations)) state.registrations in
    subst (λ (s : State). AllMapped (finish s job).state.registrations (finish s job).state.jobs) (sym (waiting_leaves (end_handler state worker.number).state registration worker))
    (mapped_finished rows job state.jobs (all_of_them rows job state.jobs (mapped_plain (is_registration registration) (placed (first_counter state.registrations)) (λ x. refl) (λ x. refl) state.registrations state.jobs is)))

-- ---- jobs that end

pub reject_keeps : (state : State) (row : JobRow) (registration : ℕ) (why : Fault) → IsAt state is_fetching row registration → Coherent state → KeepsOrder state (reject_and_drop state row.job.number registration why)
reject_keeps state row registration why at sound orderly =
    let free = others_free state row registration at.found (grind (arith, at.phase)) at.registered sound in
    let both = reject_placed state row.job.number registration why orderly.order in
    (record { order = both.0; jobs = reject_jobs state row.job.number registration why free orderly.jobs }, both.1)

discard_placed : (state : State) (worker : ℕ) → list_all (λ x. not (x.number == worker) || is_aside x.state) state.workers ≡ true → KeepsPlaced state (become state worker worker_state.Redundant)
unfolding become
discard_placed state worker knows = placed_still state (become state worker worker_state.Redundant) refl (slots_aside worker (λ row. record row { state = worker_state.Redundant }) (λ x. refl) (λ x. refl) (λ x. refl) state.workers knows) refl

throw_placed : (state : State) (job registration worker : ℕ) → list_all (λ x. not (x.number == worker) || is_aside x.state) state.workers ≡ true → KeepsPlaced state (throw state job registration worker)
unfolding throw
throw_placed state job registration worker knows = placed_further state (become state worker worker_state.Redundant) _ (discard_placed state worker knows) (reject_placed (become state worker worker_state.Redundant).state job registration (type_error cause.Threw))

parsed_aside : (x : Worker) → is_parsed x ≡ true → is_aside x.state ≡ true
parsed_aside x is = grind (arith, is)

installing_aside : (x : Worker) → is_being_installed x ≡ true → is_aside x.state ≡ true
installing_aside x is = grind (arith, is)

pub throw_keeps : (state : State) (row : JobRow) (registration : ℕ) (worker : Worker) → IsAt state is_evaluating row registration → job_worker state row ≡ Some worker → Coherent state → KeepsOrder state (throw state row.job.number registration worker.number)
throw_keeps state row registration worker at made sound orderly =
    let free = others_free state row registration at.found (grind (arith, at.phase)) at.registered sound in
    let knows = all_weaker (λ x. not (x.number == worker.number) || is_parsed x) _ (λ x is. grind (arith, is, parsed_aside x)) state.workers (knows_parsed state row registration worker at made sound) in
    let both = throw_placed state row.job.number registration worker.number knows orderly.order in
    (record { order = both.0; jobs = throw_jobs state row.job.number registration worker.number free orderly.jobs }, both.1)

aside_ended : (worker : ℕ) (rows : List Worker) → list_all (λ x. not (x.number == worker) || is_aside x.state) rows ≡ true → list_all (λ x. not (x.number == worker) || is_aside x.state) (changed (is_worker worker) (λ row. record row { handler = None }) rows) ≡ true
aside_ended worker rows is = all_changed (λ x. not (x.number == worker) || is_aside x.state) _ _ (λ x here. by_test (λ (w : Worker). (not (w.number == worker) || is_aside w.state) ≡ true) (is_worker worker x) _ x (λ a. here) (λ b. here)) rows is

ended_aside : (state : State) (worker : ℕ) → list_all (λ x. not (x.number == worker) || is_aside x.state) state.workers ≡ true → list_all (λ x. not (x.number == worker) || is_aside x.state) (end_handler state worker).state.workers ≡ true
unfolding end_handler
ended_aside state worker is = aside_ended worker state.workers is

fail_placed : (state : State) (row : JobRow) (registration worker : ℕ) → list_all (λ x. not (x.number == worker) || is_aside x.state) state.workers ≡ true → KeepsPlaced state (fail_install state row registration worker)
unfolding fail_install
fail_placed state row registration worker knows =
    let one = (end_handler state worker).state in
    let two = (become one worker worker_state.Redundant).state in
    let three = if is_none row.remembered then unmap two registration else quiet two in
    placed_further state (end_handler state worker) _ (ended_keeps state worker)
    (placed_further one (become one worker worker_state.Redundant) _ (discard_placed one worker (ended_aside state worker knows))
    (placed_further two three _ (by_test (KeepsPlaced two) (is_none row.remembered) _ _ (λ gone. unmap_placed two registration) (λ there order. (order, λ kept is. is))) (finish_placed three.state row.job.number)))

pub fail_keeps : (state : State) (row : JobRow) (registration : ℕ) (worker : Worker) (handler : Handler) → IsInstalled state row registration worker handler → Coherent state → KeepsOrder state (fail_install state row registration worker.number)
fail_keeps state row registration worker handler is sound orderly =
    let free = others_free state row registration is.at.found (grind (arith, is.at.phase)) is.at.registered sound in
    let own = (made_of state row.worker worker is.made).1 in
    let knows = all_weaker (λ x. not (x.number == worker.number) || is_being_installed x) _ (λ x here. grind (arith, here, installing_aside x)) state.workers
    (all_of_number is_being_installed state.workers worker.number worker sound.workers.numbers own (grind (arith, installing_of state row registration worker handler is sound))) in
    let both = fail_placed state row registration worker.number knows orderly.order in
    (record { order = both.0; jobs = fail_jobs state row registration worker.number free orderly.jobs }, both.1)

-- ---- an install that succeeds

-- the registration of a job that is underway, mapped
found_mapped : (rows : List Registration) (number : ℕ) → apart (λ x y. x.number == y.number) rows ≡ true → list_any (λ found. found.number == number && found.mapped) rows ≡ true → (row : Registration) × (find (is_registration number) rows ≡ Some row) × (row.mapped ≡ true)
found_mapped rows number fine is =
    let found = found_any (is_registration number) rows (any_weaker (λ (r : Registration). r.number == number && r.mapped) _ (λ r here. grind (arith, here)) rows is) in
    (found.0, found.1, found_numbered (λ (r : Registration). r.number) (λ r. r.mapped) rows number found.0 fine found.1 is)

maps_its : (rows : List Registration) (row : JobRow) (registration : Option ℕ) (number : ℕ) → registration ≡ Some number → is_underway row ≡ true → (not (is_underway row) || option_map_or (λ n. list_any (λ found. found.number == n && found.mapped) rows) registration true) ≡ true → list_any (λ found. found.number == number && found.mapped) rows ≡ true
maps_its rows row None number is underway has = absurd cc
maps_its rows row (Some n) number is underway has = let same : n ≡ number = cc in subst (λ m. list_any (λ found. found.number == m && found.mapped) rows ≡ true) same (grind (arith, underway, has))

ended_installing : (state : State) (worker registration : ℕ) → option_map kept_worker (found_in (end_handler state worker).state.workers slot.Installing registration) ≡ option_map kept_worker (found_in state.workers slot.Installing registration)
unfolding end_handler
ended_installing state worker registration =
    look_moved kept_worker kept_worker (λ x. x.registration == registration && in_slot slot.Installing x.state) (λ x. x.registration == registration && in_slot slot.Installing x.state) (λ x. true) (λ x. if is_worker worker x then record x { handler = None } else x)
    (λ x know. by_test (λ (w : Worker). (w.registration == registration && in_slot slot.Installing w.state) ≡ (x.registration == registration && in_slot slot.Installing x.state)) (is_worker worker x) _ x (λ a. refl) (λ b. refl))
    (λ x know passes. by_test (λ (w : Worker). kept_worker w ≡ kept_worker x) (is_worker worker x) _ x (λ a. refl) (λ b. refl)) state.workers (all_true state.workers)

placed_sound : (registration count : ℕ) (rows : List Registration) → SoundRegistrations rows → SoundRegistrations (changed (is_registration registration) (placed count) rows)
placed_sound registration count rows sound = sound_moved _ (plain_keeps (is_registration registration) (placed count) (λ x. refl) (λ x. refl) (λ x. refl) (λ x is. is)) rows sound

install_placed : (state : State) (job registration : ℕ) (worker : Worker) (row : Registration) → registration_row (end_handler state worker.number).state registration ≡ Some row → row.mapped ≡ true
    → option_map kept_worker (found_in (end_handler state worker.number).state.workers slot.Installing registration) ≡ Some (kept_worker worker)
    → let one = (end_handler state worker.number).state in (become_waiting one registration worker).state ≡ record one { registrations = changed (is_registration registration) (placed (first_counter one.registrations)) one.registrations; workers = shift registration install_state one.workers }
    → KeepsPlaced state (finish_install state job registration worker)
unfolding finish_install
install_placed state job registration worker row found mapped installs at_once =
    let one = (end_handler state worker.number).state in
    placed_further state (end_handler state worker.number) _ (ended_keeps state worker.number)
    (placed_further one (become_waiting one registration worker) _ (λ order. waiting_keeps one registration worker row found mapped installs order at_once (placed_sound registration (first_counter one.registrations) one.registrations order.sound)) (finish_placed (become_waiting one registration worker).state job))

ended_row : (state : State) (worker registration : ℕ) (row : Registration) → registration_row state registration ≡ Some row → registration_row (end_handler state worker).state registration ≡ Some row
unfolding end_handler
ended_row state worker registration row is = is

pub install_keeps : (state : State) (row : JobRow) (registration : ℕ) (worker : Worker) (handler : Handler) → IsInstalled state row registration worker handler → Coherent state → KeepsOrder state (finish_install state row.job.number registration worker)
install_keeps state row registration worker handler is sound orderly =
    let underway : is_underway row ≡ true = grind (arith, is.at.phase) in
    let maps = maps_its state.registrations row row.registration registration is.at.registered underway (all_at_found (is_job row.job.number) (has_mapped state.registrations) state.jobs row is.at.found orderly.jobs) in
    let found = found_mapped state.registrations registration (places_apart (λ (r : Registration). r.number) state.registrations orderly.order.sound.numbers) maps in
    let installs = ended_installing state worker.number registration ∙ ap (option_map kept_worker) (in_slot_installing state row registration worker handler is sound) in
    let both = install_placed state row.job.number registration worker found.0 (ended_row state worker.number registration found.0 found.1) found.2 installs (waits state row registration worker handler is sound) orderly.order in
    (record { order = both.0; jobs = install_jobs state row.job.number registration worker orderly.jobs }, both.1)

-- ---- jobs that go on

still_mapped : (now was other : Bool) → was ≡ true → (not was || other) ≡ true → (not now || other) ≡ true
still_mapped now was other is here = grind (arith, is, here)

-- a job that is underway goes on with its registration
goes_on : (rows : List Registration) (jobs : List JobRow) (job : ℕ) (g : JobRow → JobRow) → ((x : JobRow) → (g x).registration ≡ x.registration) → list_all (λ x. not (is_job job x) || is_underway x) jobs ≡ true → AllMapped rows jobs → AllMapped rows (changed (is_job job) g jobs)
goes_on rows jobs job g same knows is =
    mapped_jobs (λ x. if is_job job x then g x else x) (λ x. not (is_job job x) || is_underway x) rows
    (λ x know here. by_test (λ (r : JobRow). has_mapped rows r ≡ true) (is_job job x) _ x (λ own. rw (same x) (still_mapped (is_underway (g x)) (is_underway x) _ (grind (arith, know, own)) here)) (λ other. here)) jobs knows is

make_placed : (state : State) (row : JobRow) (registration : ℕ) (fetched : Fetched) (n : ℕ) → slots_in (make_worker state row registration fetched).state.workers n ≡ slots_in state.workers n
unfolding make_worker
make_placed state row registration fetched n = slots_pushed state.workers _ n refl refl

pub make_keeps : (state : State) (row : JobRow) (registration : ℕ) (fetched : Fetched) → IsAt state is_fetching row registration → Coherent state → KeepsOrder state (make_worker state row registration fetched)
unfolding make_worker
make_keeps state row registration fetched at sound =
    still_keeps state (make_worker state row registration fetched) refl (make_placed state row registration fetched)
    (λ is. goes_on state.registrations state.jobs row.job.number _ (λ x. refl) (jobs_of_number is_underway state.jobs row.job.number row sound.jobs.numbers at.found (grind (arith, at.phase))) is) (λ kept. refl)

begun_slots : (state : State) (job registration worker n : ℕ) → list_all (λ x. not (x.number == worker) || is_aside x.state) state.workers ≡ true → slots_in (begin_install state job registration worker).state.workers n ≡ slots_in state.workers n
begun_slots state job registration worker n knows = ap (λ (s : State). slots_in s.workers n) (begun_at_once state job registration worker) ∙ slots_aside worker installing (λ x. refl) (λ x. refl) (λ x. refl) state.workers knows n

pub begin_keeps : (state : State) (row : JobRow) (registration : ℕ) (worker : Worker) → IsAt state is_evaluating row registration → job_worker state row ≡ Some worker → Coherent state
    → KeepsOrder state (followed (begin_install state row.job.number registration worker.number) (λ begun. followed (settle begun row.job.number (settlement.Registration registration)) (λ settled. tell_update settled registration)))
unfolding followed begin_install remember become start_handler settle tell_update
begin_keeps state row registration worker at made sound =
    let job = row.job.number in
    let knows : list_all (λ x. not (x.number == worker.number) || is_aside x.state) state.workers ≡ true =
    all_weaker (λ x. not (x.number == worker.number) || is_parsed x) _ (λ x is. grind (arith, is, parsed_aside x)) state.workers (knows_parsed state row registration worker at made sound) in
    still_keeps state (followed (begin_install state job registration worker.number) (λ begun. followed (settle begun job (settlement.Registration registration)) (λ settled. tell_update settled registration))) refl
    (λ n. begun_slots state job registration worker.number n knows)
    (λ is. mapped_settled state.registrations (gets_value job) (settlement.Registration registration) _ (goes_on state.registrations state.jobs job _ (λ x. refl) (jobs_of_number is_underway state.jobs job row sound.jobs.numbers at.found (grind (arith, at.phase))) is)) (λ kept. refl)

fetching_mapped : (rows : List Registration) (row : JobRow) (registration : Registration) → find (is_mapped_to row.job.key row.job.scope) rows ≡ Some registration → list_any (λ found. found.number == registration.number && found.mapped) rows ≡ true
fetching_mapped rows row registration is = find_any (is_mapped_to row.job.key row.job.scope) _ rows registration is (grind (arith, nat_tests, find_passes (is_mapped_to row.job.key row.job.scope) rows registration is))

pub fetch_keeps : (state : State) (row : JobRow) (registration : Registration) → mapped_registration state row.job.key row.job.scope ≡ Some registration → KeepsOrder state (fetch_script state row.job registration.number)
unfolding fetch_script
fetch_keeps state row registration mapped =
    let there = fetching_mapped state.registrations row registration mapped in
    still_keeps state (fetch_script state row.job registration.number) refl (λ n. refl)
    (λ is. all_changed (has_mapped state.registrations) (has_mapped state.registrations) _ (λ x here. by_test (λ (r : JobRow). has_mapped state.registrations r ≡ true) (is_job row.job.number x) _ x (λ own. or_true _ _ there) (λ other. here)) state.jobs is) (λ kept. refl)

-- ---- an activate handler ends

activated_jobs : (state : State) (worker : Worker) → AllMapped state.registrations state.jobs → let told = become_activated (end_handler state worker.number).state worker.registration worker.number in AllMapped told.state.registrations told.state.jobs
unfolding become_activated followed keep become end_handler
activated_jobs state worker is = is

pub activated_then : (state : State) (worker : Worker) (handler : Handler) (next : State → Told) → worker_row state worker.number ≡ Some worker → ended_handler state (λ phase. not (is_install phase)) worker ≡ Some handler → Coherent state
    → KeepsOrder (become_activated (end_handler state worker.number).state worker.registration worker.number).state (next (become_activated (end_handler state worker.number).state worker.registration worker.number).state)
    → KeepsOrder state (followed (end_handler state worker.number) (λ ended. followed (become_activated ended worker.registration worker.number) next))
activated_then state worker handler next found ended sound rest orderly =
    let is = ended_from state (λ phase. not (is_install phase)) worker handler found ended in
    let activating : is_activating worker ≡ true = grind (arith, nat_tests, all_at_found (is_worker worker.number) _ state.workers worker found (activating_rows state worker handler is.1 (grind (arith, is.0)) sound), find_passes (is_worker worker.number) state.workers worker found) in
    let one = (end_handler state worker.number).state in
    let told = become_activated one worker.registration worker.number in
    let middle = activated_keeps state worker sound found activating orderly.order in
    let last = rest (record { order = middle.0; jobs = activated_jobs state worker orderly.jobs }) in (
      followed_orderly state (end_handler state worker.number) _ (followed_orderly one told next last.0),
      rows_further state (end_handler state worker.number) _ (ended_keeps state worker.number orderly.order).1 (rows_further one told next middle.1 last.1),
    )
