-- Clear, Activate and the step to the waiting worker: what they leave, and that where each slot of a registration holds
-- one worker they are each one change of the workers of that registration.
use Rattle.std.proofs.Common.{◌≡◌, ◌∙◌, ℕ, Bool, true, false, not, ◌&&◌, ◌||◌, ◌==◌, List, [], ◌∷◌, ◌++◌, map, Option, Some, None, option_map, refl, sym, ap, subst, arith, if◌then◌else◌}
use Rattle.std.specs.List.{list_all}
use Rattle.std.specs.Prelude.{find}
use Rattle.std.proofs.lemmas.Bool.{and_from, and_parts}
use Rattle.std.proofs.lemmas.Bool.Decides.{nat_tests}
use Rattle.std.proofs.lemmas.List.{append-nil}
use Rattle.sw_data.specs.declared.rows.ClientRow.{ClientRow}
use Rattle.sw_data.specs.declared.storage.Change.TheVariants as change
use Rattle.sw_data.specs.declared.workers.Phase.TheVariants as phase
use Rattle.sw_data.specs.declared.workers.Slot.{Slot}
use Rattle.sw_data.specs.declared.workers.Slot.TheVariants as slot
use Rattle.sw_data.specs.declared.workers.WorkerState.{WorkerState}
use Rattle.sw_data.specs.declared.workers.WorkerState.TheVariants as worker_state
use Rattle.sw_rules.specs.Installing.{become_waiting, begin_install, end_handler, first_counter, owe_try_activate, placed, remember}
use Rattle.sw_rules.specs.Registrations.{activate, become, clear, controlled_by, new_handler, retire, start_handler, take_over}
use Rattle.sw_rules.specs.Rows.{changed, has_worker, in_slot, is_registration, is_worker, slot_worker, uses}
use Rattle.sw_rules.specs.State.{State, Registration, Worker}
use Rattle.sw_rules.specs.Told.{Told, followed, keep, kept_change}
use Rattle.sw_laws.specs.Coherent.{SoundWorkers, apart, same_slot, share_slot}
use Rattle.sw_laws.proofs.Lists.{all_both, all_true, all_weaker, apart_changed, by_option, by_truth, changed_as, find_changed, found_clear, none_changed, then_changed}
use Rattle.sw_laws.proofs.Places.{places_apart}

-- ---- what they leave

-- only workers move, and nothing is to be kept
pub record OnlyWorkers (state : State) (told : Told) : Type 0 where
  pub rest : told.state ≡ record state { workers = told.state.workers }
  pub changes : told.changes ≡ []

only_then : (state : State) (told : Told) (next : State → Told) → OnlyWorkers state told → OnlyWorkers told.state (next told.state) → OnlyWorkers state (followed told next)
unfolding followed
only_then state told next one other = record {
  rest = other.rest ∙ ap (λ (s : State). record s { workers = (next told.state).state.workers }) one.rest;
  changes = cc (one.changes, other.changes);
}

pub retire_only : (state : State) (place : Slot) (registration : ℕ) → OnlyWorkers state (retire state place registration)
unfolding retire become
retire_only state place registration =
    by_option (OnlyWorkers state) (slot_worker state place registration) _ _ (λ none. record { rest = refl; changes = refl }) (λ old is. record { rest = refl; changes = refl })

pub clear_only : (state : State) (registration : ℕ) → OnlyWorkers state (clear state registration)
unfolding clear
clear_only state registration =
    let one = retire state slot.Installing registration in
    let two = retire one.state slot.Waiting registration in
    only_then state one _ (retire_only state slot.Installing registration)
    (only_then one.state two _ (retire_only one.state slot.Waiting registration) (retire_only two.state slot.Active registration))

pub activate_leaves : (state : State) (registration worker : ℕ) → let told = activate state registration worker in told.state ≡ record state { workers = told.state.workers; clients = told.state.clients }
unfolding activate followed keep become take_over start_handler
activate_leaves state registration worker =
    let told = activate state registration worker in
    ap (λ (s : State). record s { workers = told.state.workers; clients = told.state.clients }) (retire_only state slot.Active registration).rest

pub activate_changes : (state : State) (registration worker : ℕ) → (activate state registration worker).changes ≡ kept_change state registration (λ row. change.Active row.key row.scope)
unfolding activate followed keep become take_over start_handler
activate_changes state registration worker =
    ap (λ xs. kept_change state registration (λ row. change.Active row.key row.scope) ++ (xs ++ [])) (retire_only state slot.Active registration).changes ∙ append-nil _

pub waiting_leaves : (state : State) (registration : ℕ) (worker : Worker) → let told = become_waiting state registration worker in
    told.state ≡ record state { registrations = changed (is_registration registration) (placed (first_counter state.registrations)) state.registrations; workers = told.state.workers }
unfolding become_waiting followed owe_try_activate become
waiting_leaves state registration worker =
    let told = become_waiting state registration worker in
    ap (λ (s : State). record s { workers = told.state.workers }) (retire_only (owe_try_activate state registration worker).state slot.Waiting registration).rest

pub waiting_changes : (state : State) (registration : ℕ) (worker : Worker) → (become_waiting state registration worker).changes ≡ (owe_try_activate state registration worker).changes
unfolding become_waiting followed become
waiting_changes state registration worker =
    ap (λ xs. (owe_try_activate state registration worker).changes ++ (xs ++ [])) (retire_only (owe_try_activate state registration worker).state slot.Waiting registration).changes ∙ append-nil _

-- ---- the worker in a slot

-- no two workers have one number, or stand in one slot of one registration
pub record AreApart (rows : List Worker) : Type 0 where
  pub numbers : apart (λ x y. x.number == y.number) rows ≡ true
  pub slots : apart share_slot rows ≡ true

pub are_apart : (registrations : List Registration) (rows : List Worker) → SoundWorkers registrations rows → AreApart rows
are_apart registrations rows sound = record { numbers = places_apart (λ row. row.number) rows sound.numbers; slots = sound.slots }

abbrev in_place : Slot → ℕ → Worker → Bool
in_place place registration row = row.registration == registration && in_slot place row.state

abbrev redundant : Worker → Worker
redundant row = record row { state = worker_state.Redundant }

places_share : (place : Slot) (registration : ℕ) (x y : Worker) → in_place place registration x ≡ true → in_place place registration y ≡ true → share_slot x y ≡ true
places_share place registration x y one other = grind (arith, nat_tests, one, other)

-- a worker has this number exactly where it passes
abbrev is_that : ℕ → (Worker → Bool) → Worker → Bool
is_that number p row = (not (p row) || row.number == number) && (not (row.number == number) || p row)

that : (number : ℕ) (p : Worker → Bool) (row : Worker) → is_that number p row ≡ true → (row.number == number) ≡ p row
that number p row is = grind (arith, is)

-- the worker that is found in a slot is the only one there
those_found : (place : Slot) (registration : ℕ) (rows : List Worker) (old : Worker) → apart (λ x y. x.number == y.number) rows ≡ true → apart share_slot rows ≡ true → find (in_place place registration) rows ≡ Some old → list_all (is_that old.number (in_place place registration)) rows ≡ true
those_found place registration [] old numbers slots is = absurd cc
those_found place registration (x ∷ xs) old numbers slots is =
    let p = in_place place registration in
    let by_number = and_parts (list_all (λ y. not (x.number == y.number)) xs) (apart (λ x y. x.number == y.number) xs) numbers in
    let by_slot = and_parts (list_all (λ y. not (share_slot x y)) xs) (apart share_slot xs) slots in
    by_truth (p x)
    (λ here.
    let same : x ≡ old = grind (arith, is, here) in
    let number : x.number ≡ old.number = ap (λ (row : Worker). row.number) same in
    and_from _ _ (grind (arith, nat_tests, number, here))
    (all_weaker (λ y. not (x.number == y.number) && not (share_slot x y)) _ (λ y clear. grind (arith, nat_tests, number, clear, places_share place registration x y here)) xs (all_both _ _ xs by_number.0 by_slot.0)))
    (λ other.
    let later : find p xs ≡ Some old = grind (arith, is, other) in
    let differ : (x.number == old.number) ≡ false = found_clear (λ x y. x.number == y.number) p x xs old by_number.0 later in
    and_from _ _ (grind (arith, other, differ)) (those_found place registration xs old by_number.1 by_slot.1 later))

pub retired : (state : State) (place : Slot) (registration : ℕ) → AreApart state.workers → (retire state place registration).state ≡ record state { workers = changed (in_place place registration) redundant state.workers }
unfolding retire become
retired state place registration fine =
    let rows = state.workers in
    by_option (λ (told : Told). told.state ≡ record state { workers = changed (in_place place registration) redundant rows }) (slot_worker state place registration) _ _
    (λ none. sym (ap (λ xs. record state { workers = xs }) (none_changed (in_place place registration) redundant rows none)))
    (λ old is. ap (λ xs. record state { workers = xs }) (changed_as (is_that old.number (in_place place registration)) (is_worker old.number) (in_place place registration) redundant (λ x know. that old.number (in_place place registration) x know) rows (those_found place registration rows old fine.numbers fine.slots is)))

redundant_apart : (place : Slot) (registration : ℕ) (x y : Worker) → share_slot x y ≡ false → share_slot (if in_place place registration x then redundant x else x) (if in_place place registration y then redundant y else y) ≡ false
redundant_apart place registration x y fine = grind (arith, fine)

still_apart : (place : Slot) (registration : ℕ) (rows : List Worker) → AreApart rows → AreApart (changed (in_place place registration) redundant rows)
still_apart place registration rows fine = record {
  numbers = apart_changed (λ x y. x.number == y.number) _ (λ x y is. grind (arith, is)) rows fine.numbers;
  slots = apart_changed share_slot _ (redundant_apart place registration) rows fine.slots;
}

-- ---- Clear

-- each worker of a registration goes on in this way
abbrev pub shift : ℕ → (WorkerState → WorkerState) → List Worker → List Worker
shift registration on rows = changed (λ row. row.registration == registration) (λ row. record row { state = on row.state }) rows

-- the state of a worker when its registration is cleared
abbrev pub clear_state : WorkerState → WorkerState
clear_state worker_state.Parsed = worker_state.Parsed
clear_state state = worker_state.Redundant

abbrev retire_row : Slot → ℕ → Worker → Worker
retire_row place registration row = if in_place place registration row then redundant row else row

clear_row : (registration : ℕ) (state : WorkerState) (x : Worker) → let row = record x { state = state } in
    retire_row slot.Active registration (retire_row slot.Waiting registration (retire_row slot.Installing registration row)) ≡ (if row.registration == registration then record row { state = clear_state row.state } else row)
clear_row registration state x = grind arith

clear_rows : (registration : ℕ) (rows : List Worker)
    → changed (in_place slot.Active registration) redundant (changed (in_place slot.Waiting registration) redundant (changed (in_place slot.Installing registration) redundant rows)) ≡ shift registration clear_state rows
clear_rows registration [] = refl
clear_rows registration (x ∷ xs) = cc (clear_row registration x.state x, clear_rows registration xs)

pub cleared_at_once : (state : State) (registration : ℕ) → AreApart state.workers → (clear state registration).state ≡ record state { workers = shift registration clear_state state.workers }
unfolding clear followed
cleared_at_once state registration fine =
    let rows = state.workers in
    let one = changed (in_place slot.Installing registration) redundant rows in
    let two = changed (in_place slot.Waiting registration) redundant one in
    let fine_one = still_apart slot.Installing registration rows fine in
    ap (λ s. (retire (retire s slot.Waiting registration).state slot.Active registration).state) (retired state slot.Installing registration fine)
    ∙ (ap (λ s. (retire s slot.Active registration).state) (retired (record state { workers = one }) slot.Waiting registration fine_one)
    ∙ (retired (record state { workers = two }) slot.Active registration (still_apart slot.Waiting registration one fine_one)
    ∙ ap (λ xs. record state { workers = xs }) (clear_rows registration rows)))

clear_apart : (one other : WorkerState) → same_slot one other ≡ false → same_slot (clear_state one) (clear_state other) ≡ false
clear_apart one other is = grind arith

pub cleared_slots : (registration : ℕ) (x y : Worker) → share_slot x y ≡ false → share_slot (if x.registration == registration then record x { state = clear_state x.state } else x) (if y.registration == registration then record y { state = clear_state y.state } else y) ≡ false
cleared_slots registration x y fine = grind (arith, nat_tests, fine, clear_apart x.state y.state)

pub cleared_apart : (registration : ℕ) (rows : List Worker) → AreApart rows → AreApart (shift registration clear_state rows)
cleared_apart registration rows fine = record {
  numbers = apart_changed (λ x y. x.number == y.number) _ (λ x y is. grind (arith, is)) rows fine.numbers;
  slots = apart_changed share_slot _ (cleared_slots registration) rows fine.slots;
}

-- ---- Activate

-- a worker of a registration when the waiting one becomes active: that one is activating, and its activate handler starts
abbrev pub promote : Worker → Worker
promote row =
    elim row.state [
      | worker_state.Installed ↦
          record row { state = worker_state.Activating; handler = Some (new_handler phase.Activate) }
      | worker_state.Activating ↦ record row { state = worker_state.Redundant }
      | worker_state.Activated ↦ record row { state = worker_state.Redundant }
      | _ ↦ row
    ]

abbrev in_state : ℕ → WorkerState → Worker → Worker
in_state worker to row = if is_worker worker row then record row { state = to } else row

abbrev with_handler : ℕ → Worker → Worker
with_handler worker row = if is_worker worker row then record row { handler = Some (new_handler phase.Activate) } else row

promote_row : (registration worker : ℕ) (state : WorkerState) (x : Worker) → let row = record x { state = state } in
    is_that worker (in_place slot.Waiting registration) row ≡ true → with_handler worker (in_state worker worker_state.Activating (retire_row slot.Active registration row)) ≡ (if row.registration == registration then promote row else row)
promote_row registration worker state x know = grind (arith, know)

promote_rows : (registration worker : ℕ) (rows : List Worker) → list_all (is_that worker (in_place slot.Waiting registration)) rows ≡ true
    → changed (is_worker worker) (λ row. record row { handler = Some (new_handler phase.Activate) }) (changed (is_worker worker) (λ row. record row { state = worker_state.Activating }) (changed (in_place slot.Active registration) redundant rows)) ≡ changed (λ row. row.registration == registration) promote rows
promote_rows registration worker [] all = refl
promote_rows registration worker (x ∷ xs) all =
    let parts = and_parts (is_that worker (in_place slot.Waiting registration) x) (list_all (is_that worker (in_place slot.Waiting registration)) xs) all in
    cc (promote_row registration worker x.state x parts.0, promote_rows registration worker xs parts.1)

owned_same : (registration : ℕ) (f : Worker → Worker) → ((x : Worker) → (f x).number ≡ x.number) → ((x : Worker) → (f x).registration ≡ x.registration) → (workers : List Worker) (number : ℕ) → has_worker (λ row. row.registration == registration) (map f workers) number ≡ has_worker (λ row. row.registration == registration) workers number
owned_same registration f number owner [] n = refl
owned_same registration f number owner (x ∷ xs) n = grind (arith, number x, owner x, owned_same registration f number owner xs n)

used_by : (registration : ℕ) (f : Worker → Worker) → ((x : Worker) → (f x).number ≡ x.number) → ((x : Worker) → (f x).registration ≡ x.registration) → (workers : List Worker) (client : ClientRow) (controller : Option ℕ)
    → uses (map f workers) registration (record client { controller = controller }) ≡ uses workers registration (record client { controller = controller })
used_by registration f number owner workers client None = refl
used_by registration f number owner workers client (Some n) = owned_same registration f number owner workers n

-- a client uses a registration as before where workers keep their numbers and registrations
pub used_same : (registration : ℕ) (f : Worker → Worker) → ((x : Worker) → (f x).number ≡ x.number) → ((x : Worker) → (f x).registration ≡ x.registration) → (workers : List Worker) (client : ClientRow) → uses (map f workers) registration client ≡ uses workers registration client
used_same registration f number owner workers client = used_by registration f number owner workers client client.controller

taken_over : (state : State) (registration worker : ℕ) → changed (uses (changed (is_worker worker) (λ row. record row { state = worker_state.Activating }) (changed (in_place slot.Active registration) redundant state.workers)) registration) (controlled_by worker) state.clients ≡ changed (uses state.workers registration) (controlled_by worker) state.clients
taken_over state registration worker =
    let one = changed (in_place slot.Active registration) redundant state.workers in
    changed_as (λ c. true) _ _ (controlled_by worker)
    (λ c know. used_same registration (in_state worker worker_state.Activating) (λ x. grind arith) (λ x. grind arith) one c ∙ used_same registration (retire_row slot.Active registration) (λ x. grind arith) (λ x. grind arith) state.workers c)
    state.clients (all_true state.clients)

pub activated_at_once : (state : State) (registration worker : ℕ) (waiting : Worker) → AreApart state.workers → slot_worker state slot.Waiting registration ≡ Some waiting → waiting.number ≡ worker
    → (activate state registration worker).state ≡ record state {
      workers = changed (λ row. row.registration == registration) promote state.workers;
      clients = changed (uses state.workers registration) (controlled_by worker) state.clients;
    }
unfolding activate followed keep become take_over start_handler
activated_at_once state registration worker waiting fine found number =
    let rows = state.workers in
    let all : list_all (is_that worker (in_place slot.Waiting registration)) rows ≡ true =
    subst (λ n. list_all (is_that n (in_place slot.Waiting registration)) rows ≡ true) number (those_found slot.Waiting registration rows waiting fine.numbers fine.slots found) in
    ap (λ s. (start_handler (take_over (become s worker worker_state.Activating).state registration worker).state worker phase.Activate).state) (retired state slot.Active registration fine)
    ∙ (λ i. record state { workers = promote_rows registration worker rows all i; clients = taken_over state registration worker i })

-- ---- an installing worker becomes the waiting one

-- the state of a worker when its registration's installing one becomes waiting
abbrev pub install_state : WorkerState → WorkerState
install_state worker_state.Installing = worker_state.Installed
install_state worker_state.Installed = worker_state.Redundant
install_state state = state

install_row : (registration worker : ℕ) (state : WorkerState) (x : Worker) → let row = record x { state = state } in
    is_that worker (in_place slot.Installing registration) row ≡ true → in_state worker worker_state.Installed (retire_row slot.Waiting registration row) ≡ (if row.registration == registration then record row { state = install_state row.state } else row)
install_row registration worker state x know = grind (arith, know)

install_rows : (registration worker : ℕ) (rows : List Worker) → list_all (is_that worker (in_place slot.Installing registration)) rows ≡ true
    → changed (is_worker worker) (λ row. record row { state = worker_state.Installed }) (changed (in_place slot.Waiting registration) redundant rows) ≡ shift registration install_state rows
install_rows registration worker [] all = refl
install_rows registration worker (x ∷ xs) all =
    let parts = and_parts (is_that worker (in_place slot.Installing registration) x) (list_all (is_that worker (in_place slot.Installing registration)) xs) all in
    cc (install_row registration worker x.state x parts.0, install_rows registration worker xs parts.1)

waits_at_once : (state : State) (registration : ℕ) (worker installing : Worker) → AreApart state.workers → slot_worker state slot.Installing registration ≡ Some installing → installing.number ≡ worker.number
    → (become_waiting state registration worker).state ≡ record state {
      registrations = changed (is_registration registration) (placed (first_counter state.registrations)) state.registrations;
      workers = shift registration install_state state.workers;
    }
unfolding become_waiting followed owe_try_activate become
waits_at_once state registration worker installing fine found number =
    let rows = state.workers in
    let owed = record state { registrations = changed (is_registration registration) (placed (first_counter state.registrations)) state.registrations } in
    let all : list_all (is_that worker.number (in_place slot.Installing registration)) rows ≡ true =
    subst (λ n. list_all (is_that n (in_place slot.Installing registration)) rows ≡ true) number (those_found slot.Installing registration rows installing fine.numbers fine.slots found) in
    ap (λ s. (become s worker.number worker_state.Installed).state) (retired owed slot.Waiting registration fine)
    ∙ ap (λ xs. record owed { workers = xs }) (install_rows registration worker.number rows all)

-- where the handler of the installing worker has ended
pub installed_at_once : (state : State) (registration : ℕ) (worker : Worker) → AreApart state.workers → slot_worker state slot.Installing registration ≡ Some worker
    → let ended = (end_handler state worker.number).state in (become_waiting ended registration worker).state ≡ record ended {
      registrations = changed (is_registration registration) (placed (first_counter ended.registrations)) ended.registrations;
      workers = shift registration install_state ended.workers;
    }
unfolding end_handler
installed_at_once state registration worker fine found =
    let rows = state.workers in
    let f = λ (row : Worker). if is_worker worker.number row then record row { handler = None } else row in
    waits_at_once (record state { workers = map f rows }) registration worker (f worker)
    (record {
      numbers = apart_changed (λ x y. x.number == y.number) f (λ x y is. grind (arith, is)) rows fine.numbers;
      slots = apart_changed share_slot f (λ x y is. grind (arith, is)) rows fine.slots;
    })
    (find_changed (in_place slot.Installing registration) (in_place slot.Installing registration) f (λ x. grind arith) rows ∙ ap (option_map f) found) (grind arith)

-- ---- a job's worker begins to install

-- a worker becomes installing, and its install handler starts
abbrev pub installing : Worker → Worker
installing row = record row { state = worker_state.Installing; handler = Some (new_handler phase.Install) }

pub begun_at_once : (state : State) (job registration worker : ℕ) → (begin_install state job registration worker).state ≡ record state {
  workers = changed (is_worker worker) installing state.workers;
  jobs = (remember state job registration).state.jobs;
}
unfolding begin_install followed become start_handler remember
begun_at_once state job registration worker =
    ap (λ xs. record state { workers = xs; jobs = (remember state job registration).state.jobs }) (then_changed (is_worker worker) (λ row. record row { state = worker_state.Installing }) (λ row. record row { handler = Some (new_handler phase.Install) }) (λ x. refl) state.workers)
