-- What a change of workers makes of what is kept of the workers of a registration.
use Rattle.std.proofs.Common.{◌≡◌, ◌∙◌, ℕ, Bool, true, false, ◌&&◌, ◌==◌, List, [], ◌∷◌, ◌++◌, map, Option, Some, None, option_map, refl, sym, ap, true≢false, arith, if◌then◌else◌}
use Rattle.std.specs.List.{list_all}
use Rattle.std.specs.Prelude.{find}
use Rattle.std.specs.Option.{option_map_or, option_or}
use Rattle.std.proofs.lemmas.Bool.{and_parts}
use Rattle.std.proofs.lemmas.Bool.Decides.{nat_tests}
use Rattle.std.proofs.lemmas.List.Folds.{find-append}
use Rattle.sw_data.specs.declared.storage.KeptWorker.{KeptWorker}
use Rattle.sw_data.specs.declared.workers.Slot.{Slot}
use Rattle.sw_data.specs.declared.workers.Slot.TheVariants as slot
use Rattle.sw_data.specs.declared.workers.WorkerState.{WorkerState}
use Rattle.sw_rules.specs.Installing.{kept_worker}
use Rattle.sw_rules.specs.Rows.{changed, in_slot, is_activated}
use Rattle.sw_rules.specs.State.{Worker}
use Rattle.sw_laws.proofs.AtOnce.{install_state, promote, shift}
use Rattle.sw_laws.proofs.Contents.{Slots, found_in, slots_in}
use Rattle.sw_laws.proofs.Lists.{all_true, by_test}

-- ---- what is found

-- what is seen of the first row that passes, after a change
pub look_moved : {X A : Type 0} (g h : X → A) (p q known : X → Bool) (f : X → X) → ((x : X) → known x ≡ true → p (f x) ≡ q x) → ((x : X) → known x ≡ true → q x ≡ true → g (f x) ≡ h x)
    → (xs : List X) → list_all known xs ≡ true → option_map g (find p (map f xs)) ≡ option_map h (find q xs)
look_moved g h p q known f passes same [] knows = refl
look_moved g h p q known f passes same (x ∷ xs) knows =
    let know = and_parts (known x) (list_all known xs) knows in
    elim (q x) as (λ b. q x ≡ b → option_map g (find p (map f (x ∷ xs))) ≡ option_map h (find q (x ∷ xs))) [
      | true ↦ λ here. grind (arith, here, passes x know.0, same x know.0 here)
      | false ↦ λ other. grind (arith, other, passes x know.0, look_moved g h p q known f passes same xs know.1)
    ] refl

found_never : {X : Type 0} (xs : List X) → find (λ x. false) xs ≡ None
found_never [] = refl
found_never (x ∷ xs) = found_never xs

pub seen_or : {X : Type 0} (test : X → Bool) (o : Option X) → option_map_or test o false ≡ option_map_or (λ b. b) (option_map test o) false
seen_or test None = refl
seen_or test (Some x) = refl

abbrev pub slots_with : Option KeptWorker → Option KeptWorker → Bool → Slots
slots_with waiting active activated = record { waiting = waiting; active = active; activated = activated }

pub slots_equal : (w x a b : Option KeptWorker) (c d : Bool) → w ≡ x → a ≡ b → c ≡ d → slots_with w a c ≡ slots_with x b d
slots_equal w x a b c d waiting active activated = cc (waiting, active, activated)

-- ---- workers that look the same

-- a worker stands in the same slots, and the same is kept of it
pub record LooksSame (old new : Worker) : Type 0 where
  pub registration : new.registration ≡ old.registration
  pub waiting : in_slot slot.Waiting new.state ≡ in_slot slot.Waiting old.state
  pub active : in_slot slot.Active new.state ≡ in_slot slot.Active old.state
  pub activated : is_activated new ≡ is_activated old
  pub kept : kept_worker new ≡ kept_worker old

pub looks_same : (x : Worker) → LooksSame x x
looks_same x = record { registration = refl; waiting = refl; active = refl; activated = refl; kept = refl }

module _ (f : Worker → Worker) (registration : ℕ) (known : Worker → Bool) (keeps : (x : Worker) → (f x).registration ≡ x.registration) (same : (x : Worker) → known x ≡ true → (x.registration == registration) ≡ true → LooksSame x (f x)) where
  in_place : (place : Slot) → ((x : Worker) → known x ≡ true → (x.registration == registration) ≡ true → in_slot place (f x).state ≡ in_slot place x.state) → (x : Worker) → known x ≡ true
      → ((f x).registration == registration && in_slot place (f x).state) ≡ (x.registration == registration && in_slot place x.state)
  in_place place stays x know =
      elim (x.registration == registration) as (λ b. (x.registration == registration) ≡ b → ((f x).registration == registration && in_slot place (f x).state) ≡ (x.registration == registration && in_slot place x.state)) [
        | true ↦ λ here. grind (arith, here, keeps x, stays x know here)
        | false ↦ λ other. grind (arith, other, keeps x)
      ] refl

  pub slots_same : (workers : List Worker) → list_all known workers ≡ true → slots_in (map f workers) registration ≡ slots_in workers registration
  unfolding slots_in
  slots_same workers knows =
      let waits = in_place slot.Waiting (λ x know here. (same x know here).waiting) in
      let acts = in_place slot.Active (λ x know here. (same x know here).active) in
      slots_equal _ _ _ _ _ _
      (look_moved kept_worker kept_worker _ _ known f waits (λ x know passes. (same x know (grind (arith, passes))).kept) workers knows)
      (look_moved kept_worker kept_worker _ _ known f acts (λ x know passes. (same x know (grind (arith, passes))).kept) workers knows)
      (seen_or is_activated (found_in (map f workers) slot.Active registration)
      ∙ (ap (λ (o : Option Bool). option_map_or (λ b. b) o false) (look_moved is_activated is_activated _ _ known f acts (λ x know passes. (same x know (grind (arith, passes))).activated) workers knows)
      ∙ sym (seen_or is_activated (found_in workers slot.Active registration))))

-- a change of some workers that look the same
pub slots_plain : (test : Worker → Bool) (g : Worker → Worker) → ((x : Worker) → LooksSame x (g x)) → (workers : List Worker) (registration : ℕ) → slots_in (changed test g workers) registration ≡ slots_in workers registration
slots_plain test g same workers registration =
    slots_same (λ x. if test x then g x else x) registration (λ x. true)
    (λ x. by_test (λ (w : Worker). w.registration ≡ x.registration) (test x) _ x (λ here. (same x).registration) (λ other. refl))
    (λ x know here. by_test (LooksSame x) (test x) _ x (λ is. same x) (λ other. looks_same x)) workers (all_true workers)

numbers_clash : (a b n : ℕ) → (a == b) ≡ true → (a == n) ≡ true → (b == n) ≡ false → ⊥
numbers_clash a b n same here differ = grind (arith, nat_tests, same, here, differ)

-- a change of the workers of another registration
pub slots_apart : (number : ℕ) (g : Worker → Worker) → ((x : Worker) → (g x).registration ≡ x.registration) → (workers : List Worker) (registration : ℕ) → (registration == number) ≡ false → slots_in (changed (λ x. x.registration == number) g workers) registration ≡ slots_in workers registration
slots_apart number g keeps workers registration differ =
    slots_same (λ x. if x.registration == number then g x else x) registration (λ x. true)
    (λ x. by_test (λ (w : Worker). w.registration ≡ x.registration) (x.registration == number) _ x (λ here. keeps x) (λ other. refl))
    (λ x know here. by_test (LooksSame x) (x.registration == number) _ x (λ is. absurd (numbers_clash x.registration registration number here is differ)) (λ other. looks_same x)) workers (all_true workers)

-- ---- a worker more

or_none : {X : Type 0} (o : Option X) → option_or o None ≡ o
or_none None = refl
or_none (Some x) = refl

found_pushed : (place : Slot) (workers : List Worker) (new : Worker) (registration : ℕ) → in_slot place new.state ≡ false → found_in (workers ++ new ∷ []) place registration ≡ found_in workers place registration
found_pushed place workers new registration is =
    let p = λ (row : Worker). row.registration == registration && in_slot place row.state in
    let none : find p (new ∷ []) ≡ None = grind (arith, is) in
    find-append p workers (new ∷ []) ∙ (ap (option_or (find p workers)) none ∙ or_none (find p workers))

pub slots_pushed : (workers : List Worker) (new : Worker) (registration : ℕ) → in_slot slot.Waiting new.state ≡ false → in_slot slot.Active new.state ≡ false → slots_in (workers ++ new ∷ []) registration ≡ slots_in workers registration
unfolding slots_in
slots_pushed workers new registration waiting active =
    cc (found_pushed slot.Waiting workers new registration waiting, found_pushed slot.Active workers new registration active)

-- ---- the waiting worker becomes the active one

promote_waiting : (state : WorkerState) (x : Worker) → in_slot slot.Waiting (promote (record x { state = state })).state ≡ false
promote_waiting state x = grind arith

promote_active : (state : WorkerState) (x : Worker) → in_slot slot.Active (promote (record x { state = state })).state ≡ in_slot slot.Waiting state
promote_active state x = grind arith

pub promote_registration : (state : WorkerState) (x : Worker) → (promote (record x { state = state })).registration ≡ x.registration
promote_registration state x = grind arith

promote_kept : (state : WorkerState) (x : Worker) → kept_worker (promote (record x { state = state })) ≡ kept_worker x
promote_kept state x = grind arith

promote_activated : (state : WorkerState) (x : Worker) → is_activated (promote (record x { state = state })) ≡ false
promote_activated state x = grind arith

false_seen : {X : Type 0} (o : Option X) → option_map_or (λ b. b) (option_map (λ x. false) o) false ≡ false
false_seen None = refl
false_seen (Some x) = refl

never_found : (workers : List Worker) (number : ℕ) → option_map kept_worker (find (λ x. x.registration == number && false) workers) ≡ None
never_found [] number = refl
never_found (x ∷ xs) number = grind (arith, never_found xs number)

-- a worker of a registration is found after a change of its workers as it was by another test
found_moved : {A : Type 0} (g h : Worker → A) (place : Slot) (test : Worker → Bool) (known : Worker → Bool) (number : ℕ) (f : Worker → Worker) → ((x : Worker) → (f x).registration ≡ x.registration)
    → ((x : Worker) → known x ≡ true → in_slot place (f x).state ≡ test x) → ((x : Worker) → known x ≡ true → test x ≡ true → (x.registration == number) ≡ true → g (f x) ≡ h x) → (workers : List Worker) → list_all known workers ≡ true
    → option_map g (found_in (changed (λ x. x.registration == number) f workers) place number) ≡ option_map h (find (λ x. x.registration == number && test x) workers)
found_moved g h place test known number f keeps passes same workers knows =
    look_moved g h _ (λ x. x.registration == number && test x) known (λ x. if x.registration == number then f x else x)
    (λ x know. by_test (λ (w : Worker). (w.registration == number && in_slot place w.state) ≡ (x.registration == number && test x)) (x.registration == number) _ x (λ here. grind (arith, here, keeps x, passes x know)) (λ other. grind (arith, other)))
    (λ x know here. by_test (λ (w : Worker). g w ≡ h x) (x.registration == number) _ x (λ is. same x know (grind (arith, here)) is) (λ other. absurd (true≢false (sym (and_parts (x.registration == number) (test x) here).0 ∙ other))))
    workers knows

pub slots_promoted : (workers : List Worker) (number : ℕ) → slots_in (changed (λ x. x.registration == number) promote workers) number ≡ slots_with None (slots_in workers number).waiting false
unfolding slots_in
slots_promoted workers number =
    let keeps = λ (x : Worker). promote_registration x.state x in
    let known = λ (x : Worker). true in
    let knows = all_true workers in
    slots_equal _ _ _ _ _ _
    (found_moved kept_worker kept_worker slot.Waiting (λ x. false) known number promote keeps (λ x know. promote_waiting x.state x) (λ x know never here. absurd (true≢false (sym never))) workers knows ∙ never_found workers number)
    (found_moved kept_worker kept_worker slot.Active (λ x. in_slot slot.Waiting x.state) known number promote keeps (λ x know. promote_active x.state x) (λ x know waits here. promote_kept x.state x) workers knows)
    (seen_or is_activated (found_in (changed (λ x. x.registration == number) promote workers) slot.Active number)
    ∙ (ap (λ (o : Option Bool). option_map_or (λ b. b) o false) (found_moved is_activated (λ x. false) slot.Active (λ x. in_slot slot.Waiting x.state) known number promote keeps (λ x know. promote_active x.state x) (λ x know waits here. promote_activated x.state x) workers knows)
    ∙ false_seen (find (λ x. x.registration == number && in_slot slot.Waiting x.state) workers)))

-- ---- the installing worker becomes the waiting one

install_waiting : (state : WorkerState) → in_slot slot.Waiting (install_state state) ≡ in_slot slot.Installing state
install_waiting state = grind arith

install_active : (state : WorkerState) → in_slot slot.Active (install_state state) ≡ in_slot slot.Active state
install_active state = grind arith

install_activated : (state : WorkerState) (x : Worker) → is_activated (record x { state = install_state state }) ≡ is_activated (record x { state = state })
install_activated state x = grind arith

pub slots_installed : (workers : List Worker) (number : ℕ) → slots_in (shift number install_state workers) number ≡ slots_with (option_map kept_worker (found_in workers slot.Installing number)) (slots_in workers number).active (slots_in workers number).activated
unfolding slots_in
slots_installed workers number =
    let f = λ (x : Worker). record x { state = install_state x.state } in
    let known = λ (x : Worker). true in
    let knows = all_true workers in
    slots_equal _ _ _ _ _ _
    (found_moved kept_worker kept_worker slot.Waiting (λ x. in_slot slot.Installing x.state) known number f (λ x. refl) (λ x know. install_waiting x.state) (λ x know waits here. refl) workers knows)
    (found_moved kept_worker kept_worker slot.Active (λ x. in_slot slot.Active x.state) known number f (λ x. refl) (λ x know. install_active x.state) (λ x know acts here. refl) workers knows)
    (seen_or is_activated (found_in (shift number install_state workers) slot.Active number)
    ∙ (ap (λ (o : Option Bool). option_map_or (λ b. b) o false) (found_moved is_activated is_activated slot.Active (λ x. in_slot slot.Active x.state) known number f (λ x. refl) (λ x know. install_active x.state) (λ x know acts here. install_activated x.state x) workers knows)
    ∙ sym (seen_or is_activated (found_in workers slot.Active number))))
