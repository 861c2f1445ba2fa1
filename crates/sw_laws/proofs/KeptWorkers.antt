-- What is kept where workers are made, discarded, begin to install and become activated.
use Rattle.std.proofs.Common.{◌≡◌, ◌∙◌, ℕ, Bool, true, false, not, ◌&&◌, ◌||◌, ◌==◌, List, [], ◌∷◌, map, Option, Some, None, option_map, refl, sym, ap, subst, true≢false, arith, if◌then◌else◌, append-nil}
use Rattle.std.specs.List.{list_all}
use Rattle.std.specs.Prelude.{is_some, option_and_then}
use Rattle.std.specs.Option.{option_map_or}
use Rattle.std.proofs.lemmas.Bool.Decides.{nat_tests}
use Rattle.sw_data.specs.declared.storage.Change.{Change}
use Rattle.sw_data.specs.declared.storage.Change.TheVariants as change
use Rattle.sw_data.specs.declared.storage.Kept.{Kept}
use Rattle.sw_data.specs.declared.storage.KeptRegistration.{KeptRegistration}
use Rattle.sw_data.specs.declared.storage.KeptWorker.{KeptWorker}
use Rattle.sw_data.specs.declared.workers.Slot.{Slot}
use Rattle.sw_data.specs.declared.workers.Slot.TheVariants as slot
use Rattle.sw_data.specs.declared.workers.WorkerState.{WorkerState}
use Rattle.sw_data.specs.declared.workers.WorkerState.TheVariants as worker_state
use Rattle.sw_rules.specs.Activating.{become_activated}
use Rattle.sw_rules.specs.Installing.{end_handler, kept_worker}
use Rattle.sw_rules.specs.Registrations.{become}
use Rattle.sw_rules.specs.Rows.{changed, in_slot, is_activated, is_activating, is_registration, is_worker, registration_row, worker_row}
use Rattle.sw_rules.specs.State.{State, Registration, Worker}
use Rattle.sw_rules.specs.Storage.{kept_after, marked_activated}
use Rattle.sw_rules.specs.Told.{followed, is_kept, keep, kept_change}
use Rattle.sw_laws.specs.Coherent.{Coherent, share_slot}
use Rattle.sw_laws.proofs.Contents.{contents, found_in, is_worked, kept_with, slots_in}
use Rattle.sw_laws.proofs.HandlerSteps.{ended_in, ended_in_keeps, ends_in}
use Rattle.sw_laws.proofs.KeptRechecks.{KeepsRows, mapped_some, number_is, unchanged}
use Rattle.sw_laws.proofs.Lists.{all_both, all_true, by_test, found_by}
use Rattle.sw_laws.proofs.Moves.{all_of_number}
use Rattle.sw_laws.proofs.Ordered.{ChangesOne, Ordered, contents_same, is_kept_in, ordered_same, ordered_still, recorded, with_only}
use Rattle.sw_laws.proofs.Places.{all_as_found}
use Rattle.sw_laws.proofs.SlotMoves.{LooksSame, look_moved, looks_same, slots_equal, slots_plain, slots_same, slots_with, seen_or}

-- ---- a worker that is in neither slot, before and after

abbrev pub is_aside : WorkerState → Bool
is_aside state = not (in_slot slot.Waiting state) && not (in_slot slot.Active state)

aside_activated : (state : WorkerState) (x : Worker) → is_aside state ≡ true → is_activated (record x { state = state }) ≡ false
aside_activated state x is = grind (arith, is)

aside_same : (old new : Worker) → new.registration ≡ old.registration → kept_worker new ≡ kept_worker old → is_aside old.state ≡ true → is_aside new.state ≡ true → LooksSame old new
aside_same old new registration kept one other = record {
  registration = registration;
  waiting = grind (arith, one, other);
  active = grind (arith, one, other);
  activated = aside_activated new.state new other ∙ sym (aside_activated old.state old one);
  kept = kept;
}

pub slots_aside : (number : ℕ) (g : Worker → Worker) → ((x : Worker) → (g x).registration ≡ x.registration) → ((x : Worker) → kept_worker (g x) ≡ kept_worker x) → ((x : Worker) → is_aside (g x).state ≡ true) → (workers : List Worker) → list_all (λ x. not (x.number == number) || is_aside x.state) workers ≡ true
    → (registration : ℕ) → slots_in (changed (is_worker number) g workers) registration ≡ slots_in workers registration
slots_aside number g keeps kept aside workers knows registration =
    slots_same (λ x. if is_worker number x then g x else x) registration (λ x. not (x.number == number) || is_aside x.state)
    (λ x. by_test (λ (w : Worker). w.registration ≡ x.registration) (is_worker number x) _ x (λ here. keeps x) (λ other. refl))
    (λ x know of. by_test (LooksSame x) (is_worker number x) _ x (λ here. aside_same x (g x) (keeps x) (kept x) (grind (arith, know, here)) (aside x)) (λ other. looks_same x)) workers knows

-- ---- an activating worker becomes activated

activated_place : (place : Slot) (state : WorkerState) (x : Worker) → is_activating (record x { state = state }) ≡ true → in_slot place worker_state.Activated ≡ in_slot place state
activated_place place state x is = grind (arith, is)

marked_plain : (x : Registration) (waiting active : Option KeptWorker) (activated : Bool) → is_some active ≡ true → kept_with x (slots_with waiting active true) ≡ option_and_then (λ (k : KeptRegistration). Some (marked_activated k)) (kept_with x (slots_with waiting active activated))
marked_plain x waiting None activated is = absurd cc
marked_plain x None (Some a) activated is = grind arith
marked_plain x (Some w) (Some a) activated is = grind arith

found_true : (o : Option Worker) → is_some o ≡ true → option_map_or (λ b. b) (option_map (λ (w : Worker). true) o) false ≡ true
found_true None is = absurd cc
found_true (Some w) is = refl

same_number : (a b n : ℕ) → (a == b) ≡ true → (a == n) ≡ true → (n == b) ≡ true
same_number a b n one other = grind (arith, nat_tests, one, other)

module _ (workers : List Worker) (number registration : ℕ)
    (knows : list_all (λ x. not (x.number == number) || (is_activating x && x.registration == registration)) workers ≡ true) (alone : list_all (λ x. not (x.registration == registration && in_slot slot.Active x.state) || x.number == number) workers ≡ true) where
  abbrev f : Worker → Worker
  f = ended_in worker_state.Activated number

  abbrev known : Worker → Bool
  known x = (not (x.number == number) || (is_activating x && x.registration == registration)) && (not (x.registration == registration && in_slot slot.Active x.state) || x.number == number)

  all_known : list_all known workers ≡ true
  all_known = all_both _ _ workers knows alone

  stays_in : (place : Slot) (x : Worker) → known x ≡ true → in_slot place (f x).state ≡ in_slot place x.state
  stays_in place x know = by_test (λ (w : Worker). in_slot place w.state ≡ in_slot place x.state) (x.number == number) _ x (λ here. activated_place place x.state x (grind (arith, know, here))) (λ other. refl)

  pub activated_apart : (n : ℕ) → (n == registration) ≡ false → slots_in (map f workers) n ≡ slots_in workers n
  activated_apart n other =
      slots_same f n known (ended_in_keeps worker_state.Activated number).registration
      (λ x know of. by_test (LooksSame x) (x.number == number) _ x (λ here. absurd (true≢false (sym (same_number x.registration registration n (grind (arith, know, here)) of) ∙ other))) (λ not_this. looks_same x)) workers all_known

  in_place : (place : Slot) (x : Worker) → known x ≡ true → ((f x).registration == registration && in_slot place (f x).state) ≡ (x.registration == registration && in_slot place x.state)
  in_place place x know = rw ((ended_in_keeps worker_state.Activated number).registration x, stays_in place x know) refl

  kept_same : (x : Worker) → kept_worker (f x) ≡ kept_worker x
  kept_same x = by_test (λ (w : Worker). kept_worker w ≡ kept_worker x) (x.number == number) _ x (λ here. refl) (λ other. refl)

  pub activated_here : is_some (found_in workers slot.Active registration) ≡ true → slots_in (map f workers) registration ≡ slots_with (slots_in workers registration).waiting (slots_in workers registration).active true
  unfolding slots_in
  activated_here found =
      slots_equal _ _ _ _ _ _
      (look_moved kept_worker kept_worker _ _ known f (in_place slot.Waiting) (λ x know passes. kept_same x) workers all_known)
      (look_moved kept_worker kept_worker _ _ known f (in_place slot.Active) (λ x know passes. kept_same x) workers all_known)
      (seen_or is_activated (found_in (map f workers) slot.Active registration)
      ∙ (ap (λ (o : Option Bool). option_map_or (λ b. b) o false) (look_moved is_activated (λ x. true) _ _ known f (in_place slot.Active) (λ x know passes. grind (arith, know, passes)) workers all_known)
      ∙ found_true (found_in workers slot.Active registration) found))

active_some : (workers : List Worker) (registration : ℕ) → is_some (found_in workers slot.Active registration) ≡ true → is_some (slots_in workers registration).active ≡ true
unfolding slots_in
active_some workers registration is = mapped_some kept_worker (found_in workers slot.Active registration) ∙ is

actives_clash : (x y : Worker) (n : ℕ) → (x.registration == n && in_slot slot.Active x.state) ≡ true → (y.registration == n && in_slot slot.Active y.state) ≡ true → share_slot x y ≡ true
actives_clash x y n one other = grind (arith, nat_tests, one, other)

active_clash : (y worker : Worker) → (y.registration == worker.registration && in_slot slot.Active y.state) ≡ true → is_activating worker ≡ true → share_slot y worker ≡ true
active_clash y worker here is = grind (arith, nat_tests, here, is)

-- the activating worker is the active one of its registration
active_found : (state : State) (worker : Worker) → Coherent state → worker_row state worker.number ≡ Some worker → is_activating worker ≡ true → found_in state.workers slot.Active worker.registration ≡ Some worker
active_found state worker sound found is =
    found_by share_slot (is_worker worker.number) (λ x. x.registration == worker.registration && in_slot slot.Active x.state) state.workers worker sound.workers.slots found (grind (arith, nat_tests, is)) (λ y here. active_clash y worker here is)

-- the handler of an activating worker ends, and it becomes activated
module _ (state : State) (worker : Worker) (sound : Coherent state) (found : worker_row state worker.number ≡ Some worker) (is : is_activating worker ≡ true) (order : Ordered state.registrations state.workers) where
  abbrev of : ℕ
  of = worker.registration

  there : found_in state.workers slot.Active of ≡ Some worker
  there = active_found state worker sound found is

  is_there : is_some (found_in state.workers slot.Active of) ≡ true
  is_there = rw there refl

  rows_known : list_all (λ x. not (x.number == worker.number) || (is_activating x && x.registration == of)) state.workers ≡ true
  rows_known = all_of_number (λ x. is_activating x && x.registration == of) state.workers worker.number worker sound.workers.numbers found (grind (arith, nat_tests, is))

  rows_alone : list_all (λ x. not (x.registration == of && in_slot slot.Active x.state) || x.number == worker.number) state.workers ≡ true
  rows_alone = all_as_found share_slot (λ x. x.registration == of && in_slot slot.Active x.state) (λ x. x.number == worker.number) (λ x y one other. actives_clash x y of one other) state.workers worker sound.workers.slots there (grind (arith, nat_tests))

  abbrev after : List Worker
  after = map (ended_in worker_state.Activated worker.number) state.workers

  now_here : (n : ℕ) → (n == of) ≡ true → slots_in after n ≡ slots_with (slots_in state.workers n).waiting (slots_in state.workers n).active true
  now_here n same = subst (λ m. slots_in after m ≡ slots_with (slots_in state.workers m).waiting (slots_in state.workers m).active true) (sym (number_is n of same)) (activated_here state.workers worker.number of rows_known rows_alone is_there)

  active_here : (n : ℕ) → (n == of) ≡ true → is_some (slots_in state.workers n).active ≡ true
  active_here n same = subst (λ m. is_some (slots_in state.workers m).active ≡ true) (sym (number_is n of same)) (active_some state.workers of is_there)

  now_apart : (n : ℕ) → (n == of) ≡ false → slots_in after n ≡ slots_in state.workers n
  now_apart n other = activated_apart state.workers worker.number of rows_known rows_alone n other

  activates : ChangesOne state.workers after of (λ x. x) (λ k. Some (marked_activated k)) (λ x. true)
  activates = record {
    here = λ x same know. ap (kept_with x) (now_here x.number same) ∙ marked_plain x (slots_in state.workers x.number).waiting (slots_in state.workers x.number).active (slots_in state.workers x.number).activated (active_here x.number same);
    others = now_apart;
  }

  still_worked : (n : ℕ) → is_worked (slots_in after n) ≡ is_worked (slots_in state.workers n)
  still_worked n =
      elim (n == of) as (λ b. (n == of) ≡ b → is_worked (slots_in after n) ≡ is_worked (slots_in state.workers n)) [
        | true ↦ λ same. ap is_worked (now_here n same)
        | false ↦ λ other. ap is_worked (now_apart n other)
      ] refl

  activated_order : Ordered state.registrations after
  activated_order = ordered_still state.workers after (λ x. true) (λ x know mapped. still_worked x.number) state.registrations (all_true state.registrations) order

  activated_change : (kept : Kept) → kept.registrations ≡ contents state.workers state.registrations → (kept_after kept (kept_change state of (λ row. change.Activated row.key row.scope))).registrations ≡ contents after state.registrations
  activated_change kept same =
      recorded state after of (λ x. x) (λ k. Some (marked_activated k)) (λ x. true) activates (λ x. refl) (all_true state.registrations) order (λ row. change.Activated row.key row.scope) (λ row k. with_only row.key row.scope marked_activated k.registrations) kept same
      ∙ ap (contents after) (unchanged (is_registration of) state.registrations)

-- ---- the end of a handler

pub ended_slots : (state : State) (worker n : ℕ) → slots_in (end_handler state worker).state.workers n ≡ slots_in state.workers n
unfolding end_handler
ended_slots state worker n = slots_plain (is_worker worker) (λ row. record row { handler = None }) (λ x. record { registration = refl; waiting = refl; active = refl; activated = refl; kept = refl }) state.workers n

-- other workers, of which the same is kept
pub rows_same : (state after : State) → after.registrations ≡ state.registrations → ((n : ℕ) → slots_in after.workers n ≡ slots_in state.workers n) → Ordered state.registrations state.workers
    → Ordered after.registrations after.workers × (contents after.workers after.registrations ≡ contents state.workers state.registrations)
rows_same state after registrations slots order = rw registrations (ordered_same state.workers after.workers slots state.registrations order, contents_same state.workers after.workers slots state.registrations order.firsts)

ended_registrations : (state : State) (worker : ℕ) → (end_handler state worker).state.registrations ≡ state.registrations
unfolding end_handler
ended_registrations state worker = refl

end_rows : (state : State) (worker : ℕ) → contents (end_handler state worker).state.workers (end_handler state worker).state.registrations ≡ contents state.workers state.registrations → KeepsRows state (end_handler state worker)
unfolding end_handler
end_rows state worker is kept same = same ∙ sym is

pub ended_keeps : (state : State) (worker : ℕ) → Ordered state.registrations state.workers → Ordered (end_handler state worker).state.registrations (end_handler state worker).state.workers × KeepsRows state (end_handler state worker)
ended_keeps state worker order =
    let both = rows_same state (end_handler state worker).state (ended_registrations state worker) (ended_slots state worker) order in
    (both.0, end_rows state worker both.1)

changes_by : (one other : State) (number : ℕ) (change_of : Registration → Change) (found : Option Registration) → ((row : Registration) → is_kept one row ≡ is_kept other row)
    → option_map_or (λ (row : Registration). if is_kept one row then change_of row ∷ [] else []) found [] ≡ option_map_or (λ (row : Registration). if is_kept other row then change_of row ∷ [] else []) found []
changes_by one other number change_of None same = refl
changes_by one other number change_of (Some row) same = ap (λ b. if b then change_of row ∷ [] else []) (same row)

same_change : (state : State) (worker number : ℕ) (change_of : Registration → Change) → kept_change (end_handler state worker).state number change_of ≡ kept_change state number change_of
same_change state worker number change_of =
    rw (ended_registrations state worker)
    (changes_by (end_handler state worker).state state number change_of (registration_row state number)
    (λ row. is_kept_in (end_handler state worker).state row ∙ (ap (λ slots. is_some (kept_with row slots)) (ended_slots state worker row.number) ∙ sym (is_kept_in state row))))

activated_last : (state : State) (worker : Worker) → Coherent state → worker_row state worker.number ≡ Some worker → is_activating worker ≡ true → Ordered state.registrations state.workers
    → Ordered (end_handler state worker.number).state.registrations (changed (is_worker worker.number) (λ row. record row { state = worker_state.Activated }) (end_handler state worker.number).state.workers)
unfolding end_handler
activated_last state worker sound found is order = rw (ends_in worker_state.Activated worker.number state.workers) (activated_order state worker sound found is order)

activated_by : (state : State) (worker : Worker) → Coherent state → worker_row state worker.number ≡ Some worker → is_activating worker ≡ true → Ordered state.registrations state.workers
    → (kept : Kept) → kept.registrations ≡ contents state.workers state.registrations
    → (kept_after kept (kept_change (end_handler state worker.number).state worker.registration (λ row. change.Activated row.key row.scope))).registrations ≡ contents (changed (is_worker worker.number) (λ row. record row { state = worker_state.Activated }) (end_handler state worker.number).state.workers) (end_handler state worker.number).state.registrations
unfolding end_handler
activated_by state worker sound found is order kept same =
    rw (ends_in worker_state.Activated worker.number state.workers)
    (ap (λ changes. (kept_after kept changes).registrations) (same_change state worker.number worker.registration (λ row. change.Activated row.key row.scope)) ∙ activated_change state worker sound found is order kept same)

pub activated_keeps : (state : State) (worker : Worker) → Coherent state → worker_row state worker.number ≡ Some worker → is_activating worker ≡ true → Ordered state.registrations state.workers
    → let ended = (end_handler state worker.number).state in let told = become_activated ended worker.registration worker.number in Ordered told.state.registrations told.state.workers × KeepsRows ended told
unfolding become_activated followed keep become
activated_keeps state worker sound found is order = (activated_last state worker sound found is order, λ kept same. ap (λ changes. (kept_after kept changes).registrations) (append-nil (kept_change (end_handler state worker.number).state worker.registration (λ row. change.Activated row.key row.scope))) ∙ activated_by state worker sound found is order kept (same ∙ (rows_same state (end_handler state worker.number).state (ended_registrations state worker.number) (ended_slots state worker.number) order).1))
