-- Which registration's worker each client holds: only opening and claiming change it.
use Rattle.std.proofs.Common.{◌≡◌, ◌∙◌, ◌⊎◌, inl, inr, ℕ, Bool, true, false, not, ◌&&◌, ◌||◌, ◌==◌, List, [], ◌∷◌, ◌++◌, map, Option, Some, None, option_map, refl, sym, ap, subst, arith, if◌then◌else◌}
use Rattle.std.specs.List.{list_all}
use Rattle.std.specs.Prelude.{find, option_and_then}
use Rattle.std.specs.Option.{option_map_or, option_or}
use Rattle.std.proofs.lemmas.Bool.{and_parts}
use Rattle.std.proofs.lemmas.Bool.Decides.{nat_tests}
use Rattle.std.proofs.lemmas.List.Folds.{find-append}
use Rattle.sw_data.specs.declared.rows.ClientRow.{ClientRow}
use Rattle.sw_rules.specs.Clients.{leave, remove_client}
use Rattle.sw_rules.specs.Registrations.{activate, controlled_by, left_by, unload, used_registration}
use Rattle.sw_rules.specs.Rows.{changed, has_worker, is_active, is_client, is_worker, uses, without}
use Rattle.sw_rules.specs.State.{State, Worker}
use Rattle.sw_rules.specs.Told.{Told, followed}
use Rattle.sw_laws.specs.Coherent.{Coherent, apart, is_controlled}
use Rattle.sw_laws.proofs.ActivateSteps.{IsChosen, is_chosen, promoted_keeps, promoted_of, waits}
use Rattle.sw_laws.proofs.AtOnce.{activated_at_once, are_apart, cleared_at_once}
use Rattle.sw_laws.proofs.ClaimSteps.{leave-coherent, rechecks_coherently}
use Rattle.sw_laws.proofs.Lists.{all_true, by_option, by_test, false_of, find_any, find_changed, map_same}
use Rattle.sw_laws.proofs.Moves.{Keeps}
use Rattle.sw_laws.proofs.Places.{found_numbered, not_there, places_apart}
use Rattle.sw_laws.proofs.RowSteps.{left_by-coherent}
use Rattle.sw_laws.proofs.Split.{IsRecheckLaw, law_of, release-law}
use Rattle.sw_laws.proofs.WorkerSteps.{cleared, cleared_keeps}

-- ---- what a client holds

-- the registration of the worker of a number
abbrev pub owner_of : List Worker → ℕ → Option ℕ
owner_of workers number = option_map (λ row. row.registration) (find (is_worker number) workers)

-- the registration whose worker a client holds
abbrev pub held : List Worker → ClientRow → Option ℕ
held workers client = option_and_then (owner_of workers) client.controller

-- each client, but those of some numbers, holds a worker of what it was given
abbrev pub HoldsBut : (ℕ → Bool) → (ℕ → Option ℕ) → List Worker → List ClientRow → Type 0
HoldsBut but given workers [] = Unit {0}
HoldsBut but given workers (client ∷ clients) =
    ((but client.number ≡ true) ⊎ (held workers client ≡ given client.number)) × HoldsBut but given workers clients

one_changed : (but : ℕ → Bool) (given : ℕ → Option ℕ) (new : List Worker) {old : Option ℕ} (after before : ClientRow) → after.number ≡ before.number → (but before.number ≡ true) ⊎ (held new after ≡ old) → (but before.number ≡ true) ⊎ (old ≡ given before.number)
    → (but after.number ≡ true) ⊎ (held new after ≡ given after.number)
one_changed but given new after before number (inl free) was = inl (rw number free)
one_changed but given new after before number (inr same) (inl free) = inl (rw number free)
one_changed but given new after before number (inr same) (inr was) = inr (same ∙ (was ∙ ap given (sym number)))

-- clients that hold the same, one by one
holds_changed : (but : ℕ → Bool) (given : ℕ → Option ℕ) (old new : List Worker) (g : ClientRow → ClientRow) (clients : List ClientRow) → ((c : ClientRow) → (g c).number ≡ c.number) → (known : ClientRow → Bool) → list_all known clients ≡ true
    → ((c : ClientRow) → known c ≡ true → (but c.number ≡ true) ⊎ (held new (g c) ≡ held old c)) → HoldsBut but given old clients → HoldsBut but given new (map g clients)
holds_changed but given old new g [] numbers known knows same holds = tt
holds_changed but given old new g (c ∷ cs) numbers known knows same holds =
    let parts = and_parts (known c) (list_all known cs) knows in
    (one_changed but given new (g c) c (numbers c) (same c parts.0) holds.0, holds_changed but given old new g cs numbers known parts.1 same holds.1)

owner_plain : (f : Worker → Worker) → Keeps f → (old new : Option Worker) → new ≡ option_map f old → option_map (λ (row : Worker). row.registration) new ≡ option_map (λ (row : Worker). row.registration) old
owner_plain f keeps None new is = ap (option_map (λ (row : Worker). row.registration)) is
owner_plain f keeps (Some row) new is = ap (option_map (λ (row : Worker). row.registration)) is ∙ ap (λ (n : ℕ). Some n) (keeps.registration row)

owner_moved : (f : Worker → Worker) → Keeps f → (workers : List Worker) (number : ℕ) → owner_of (map f workers) number ≡ owner_of workers number
owner_moved f keeps workers number =
    owner_plain f keeps (find (is_worker number) workers) (find (is_worker number) (map f workers)) (find_changed (is_worker number) (is_worker number) f (λ x. ap (λ n. n == number) (keeps.number x)) workers)

held_moved : (f : Worker → Worker) → Keeps f → (workers : List Worker) (controller : Option ℕ) → option_and_then (owner_of (map f workers)) controller ≡ option_and_then (owner_of workers) controller
held_moved f keeps workers None = refl
held_moved f keeps workers (Some number) = owner_moved f keeps workers number

-- a change of workers leaves what clients hold
pub holds-moved : (but : ℕ → Bool) (given : ℕ → Option ℕ) (f : Worker → Worker) → Keeps f → (workers : List Worker) (clients : List ClientRow) → HoldsBut but given workers clients → HoldsBut but given (map f workers) clients
holds-moved but given f keeps workers clients holds =
    subst (λ (rows : List ClientRow). HoldsBut but given (map f workers) rows) (map_same clients)
    (holds_changed but given workers (map f workers) (λ c. c) clients (λ c. refl) (λ c. true) (all_true clients) (λ c know. inr (held_moved f keeps workers c.controller)) holds)

-- ---- Activate

-- the worker of a number that passes is of this registration
pub owner_found : (workers : List Worker) (registration number : ℕ) (found : Option Worker) → apart (λ x y. x.number == y.number) workers ≡ true → find (is_worker number) workers ≡ found → has_worker (λ row. row.registration == registration) workers number ≡ true → option_map (λ (row : Worker). row.registration) found ≡ Some registration
owner_found workers registration number None fine is has = absurd (not_there (λ (w : Worker). w.number) (λ w. w.registration == registration) workers number is has)
owner_found workers registration number (Some row) fine is has =
    ap (λ (n : ℕ). Some n) (grind (arith, nat_tests, found_numbered (λ (w : Worker). w.number) (λ w. w.registration == registration) workers number row fine is has))

used_owner : (state : State) (registration : ℕ) (client : ClientRow) (controller : Option ℕ) → Coherent state → client.controller ≡ controller → uses state.workers registration client ≡ true → option_and_then (owner_of state.workers) client.controller ≡ Some registration
used_owner state registration client None sound is used = absurd cc
used_owner state registration client (Some number) sound is used =
    rw is (owner_found state.workers registration number (find (is_worker number) state.workers) (places_apart (λ w. w.number) state.workers sound.workers.numbers) refl (rw is at used))

new_owner : (state : State) (registration worker : ℕ) → IsChosen state registration worker → Coherent state → owner_of state.workers worker ≡ Some registration
new_owner state registration worker picked sound =
    owner_found state.workers registration worker (find (is_worker worker) state.workers) (places_apart (λ w. w.number) state.workers sound.workers.numbers) refl
    (find_any _ (λ row. row.number == worker && row.registration == registration) state.workers picked.waiting picked.found (grind (arith, nat_tests, waits state registration worker picked sound, picked.number)))

activated_holds : (but : ℕ → Bool) (given : ℕ → Option ℕ) (state : State) (registration worker : ℕ) → IsChosen state registration worker → Coherent state
    → HoldsBut but given state.workers state.clients → HoldsBut but given (activate state registration worker).state.workers (activate state registration worker).state.clients
activated_holds but given state registration worker picked sound holds =
    let f = promoted_of registration in
    subst (λ (s : State). HoldsBut but given s.workers s.clients) (sym (activated_at_once state registration worker picked.waiting (are_apart state.registrations state.workers sound.workers) picked.found picked.number))
    (holds_changed but given state.workers (map f state.workers) (λ c. if uses state.workers registration c then controlled_by worker c else c) state.clients (λ c. grind arith) (λ c. true) (all_true state.clients)
    (λ c know. inr (by_test (λ row. held (map f state.workers) row ≡ held state.workers c) (uses state.workers registration c) _ c
    (λ used. owner_moved f (promoted_keeps registration) state.workers worker ∙ (new_owner state registration worker picked sound ∙ sym (used_owner state registration c c.controller sound refl used)))
    (λ unused. held_moved f (promoted_keeps registration) state.workers c.controller))) holds)

-- ---- what happens where a registration is rechecked

-- a state stays coherent, and clients hold what they were given
abbrev pub Holds : (ℕ → Bool) → State → Told → Type 0
Holds but state told =
    Coherent state → (Coherent told.state) × ((given : ℕ → Option ℕ) → HoldsBut but given state.workers state.clients → HoldsBut but given told.state.workers told.state.clients)

pub rechecks_hold : (but : ℕ → Bool) → IsRecheckLaw (Holds but)
unfolding followed
rechecks_hold but = record {
  nothing = λ state sound. (sound, λ given holds. holds);
  further = λ state told next one other sound. let first = one sound in let second = other first.0 in (second.0, λ given holds. second.1 given (first.1 given holds));
  activating = λ state registration worker is sound. (rechecks_coherently.activating state registration worker is sound, λ given holds. activated_holds but given state registration worker (is_chosen state registration worker is sound) sound holds);
  clearing = λ state registration gone unused calm sound. (
    rechecks_coherently.clearing state registration gone unused calm sound,
    λ given holds. subst (λ (s : State). HoldsBut but given s.workers s.clients) (sym (cleared_at_once state registration (are_apart state.registrations state.workers sound.workers)))
        (holds-moved but given (cleared registration) (cleared_keeps registration) state.workers state.clients holds),
  );
}

-- ---- leaving, and the client that is removed

-- the clients of a number aren't looked at
abbrev pub or_is : (ℕ → Bool) → ℕ → ℕ → Bool
or_is but number other = but other || other == number

looser : (but : ℕ → Bool) (number : ℕ) (given : ℕ → Option ℕ) (workers : List Worker) (c : ClientRow) → (but c.number ≡ true) ⊎ (held workers c ≡ given c.number) → (or_is but number c.number ≡ true) ⊎ (held workers c ≡ given c.number)
looser but number given workers c (inl free) = inl (grind (arith, free))
looser but number given workers c (inr same) = inr same

looser_all : (but : ℕ → Bool) (number : ℕ) (given : ℕ → Option ℕ) (workers : List Worker) (clients : List ClientRow) → HoldsBut but given workers clients → HoldsBut (or_is but number) given workers clients
looser_all but number given workers [] holds = tt
looser_all but number given workers (c ∷ cs) holds = (looser but number given workers c holds.0, looser_all but number given workers cs holds.1)

tighter : (but : ℕ → Bool) (number : ℕ) (given : ℕ → Option ℕ) (workers : List Worker) (c : ClientRow) → is_client number c ≡ false → (or_is but number c.number ≡ true) ⊎ (held workers c ≡ given c.number) → (but c.number ≡ true) ⊎ (held workers c ≡ given c.number)
tighter but number given workers c other (inl free) = inl (grind (arith, free, other))
tighter but number given workers c other (inr same) = inr same

pub loosened : (but : ℕ → Bool) (number : ℕ) (given : ℕ → Option ℕ) (workers : List Worker) (clients : List ClientRow) → HoldsBut but given workers clients → HoldsBut (or_is but number) given workers (changed (is_client number) (λ row. record row { controller = None }) clients)
loosened but number given workers [] holds = tt
loosened but number given workers (c ∷ cs) holds = (
  by_test (λ (row : ClientRow). (or_is but number row.number ≡ true) ⊎ (held workers row ≡ given row.number)) (is_client number c) _ c
      (λ is. inl (grind (arith, is)))
      (λ other. looser but number given workers c holds.0),
  loosened but number given workers cs holds.1,
)

removed : (but : ℕ → Bool) (number : ℕ) (given : ℕ → Option ℕ) (workers : List Worker) (clients : List ClientRow) → HoldsBut (or_is but number) given workers clients → HoldsBut but given workers (without (is_client number) clients)
removed but number given workers [] holds = tt
removed but number given workers (c ∷ cs) holds =
    by_test (HoldsBut but given workers) (not (is_client number c)) _ _
    (λ other. (tighter but number given workers c (false_of other) holds.0, removed but number given workers cs holds.1))
    (λ is. removed but number given workers cs holds.1)

pub unload_holds : (but : ℕ → Bool) (number : ℕ) (given : ℕ → Option ℕ) (state : State) → Coherent state → HoldsBut but given state.workers state.clients
    → HoldsBut (or_is but number) given (unload state number).state.workers (unload state number).state.clients
unfolding unload followed
unload_holds but number given state sound holds =
    by_option (λ (told : Told). HoldsBut (or_is but number) given told.state.workers told.state.clients) (used_registration state number) _ _
    (λ none. looser_all but number given state.workers state.clients holds)
    (λ registration is. (release-law (Holds (or_is but number)) registration (law_of registration (rechecks_hold (or_is but number))) (left_by number state) (left_by-coherent state number sound)).1 given (loosened but number given state.workers state.clients holds))

pub leave_holds : (but : ℕ → Bool) (number : ℕ) (state : State) → Holds but state (leave state number)
unfolding leave remove_client followed
leave_holds but number state sound =
    (leave-coherent state number sound, λ given holds. removed but number given (unload state number).state.workers (unload state number).state.clients (unload_holds but number given state sound holds))

-- ---- one more worker

found_stays : (found other : Option Worker) → (found ≡ None → ⊥) → option_or found other ≡ found
found_stays None other never = absurd (never refl)
found_stays (Some row) other never = refl

held_pushed : (workers : List Worker) (new : Worker) (controller : Option ℕ) → option_map_or (has_worker (λ row. is_active row.state) workers) controller true ≡ true → option_and_then (owner_of (workers ++ new ∷ [])) controller ≡ option_and_then (owner_of workers) controller
held_pushed workers new None is = refl
held_pushed workers new (Some number) is =
    ap (option_map (λ (row : Worker). row.registration)) (find-append (is_worker number) workers (new ∷ []) ∙ found_stays (find (is_worker number) workers) (find (is_worker number) (new ∷ [])) (λ none. not_there (λ (w : Worker). w.number) (λ w. is_active w.state) workers number none is))

pub pushed_holds : (but : ℕ → Bool) (given : ℕ → Option ℕ) (workers : List Worker) (new : Worker) (clients : List ClientRow) → list_all (is_controlled workers) clients ≡ true → HoldsBut but given workers clients → HoldsBut but given (workers ++ new ∷ []) clients
pushed_holds but given workers new clients controlled holds =
    subst (λ (rows : List ClientRow). HoldsBut but given (workers ++ new ∷ []) rows) (map_same clients)
    (holds_changed but given workers (workers ++ new ∷ []) (λ c. c) clients (λ c. refl) (is_controlled workers) controlled (λ c is. inr (held_pushed workers new c.controller is)) holds)
