-- What is kept of the state that a restart leaves is the content of the restart.
use Rattle.std.proofs.Common.{◌≡◌, ◌∙◌, ℕ, suc, ◌+◌, Bool, true, false, not, ◌&&◌, ◌||◌, ◌==◌, List, [], ◌∷◌, ◌++◌, map, Option, Some, None, option_map, length, append_assoc, refl, sym, ap, arith}
use Rattle.std.specs.List.{list_all, list_any, enumerate_from, filter_map, range_with_len}
use Rattle.std.specs.Prelude.{find, is_some, nat_lt}
use Rattle.std.specs.Option.{option_map_or, option_or}
use Rattle.std.proofs.lemmas.Bool.{and_parts}
use Rattle.std.proofs.lemmas.Bool.Decides.{nat_tests}
use Rattle.std.proofs.lemmas.List.{length-map}
use Rattle.std.proofs.lemmas.List.Folds.{find-append}
use Rattle.sw_data.specs.declared.storage.Change.{Change}
use Rattle.sw_data.specs.declared.storage.Change.TheVariants as change
use Rattle.sw_data.specs.declared.storage.Kept.{Kept}
use Rattle.sw_data.specs.declared.storage.KeptRegistration.{KeptRegistration}
use Rattle.sw_data.specs.declared.storage.KeptWorker.{KeptWorker}
use Rattle.sw_data.specs.declared.workers.Slot.TheVariants as slot
use Rattle.sw_rules.specs.Durable.{durable, durable_registration, kept_at}
use Rattle.sw_rules.specs.Installing.{kept_worker}
use Rattle.sw_rules.specs.Restart.{restart, restored_registration, restored_workers, worker_after_restart}
use Rattle.sw_rules.specs.Rows.{in_slot, is_activated, is_number, slot_worker}
use Rattle.sw_rules.specs.State.{State, Registration, Worker}
use Rattle.sw_rules.specs.Storage.{IsMade, applied, is_cache, is_registration, kept_after, marked_activated, nothing, promoted, with_registration}
use Rattle.sw_rules.specs.Told.{is_kept}
use Rattle.sw_laws.proofs.Lists.{all_changed, all_of_filter, all_weaker, by_test}
use Rattle.sw_laws.proofs.Places.{all_pushed}
use Rattle.sw_laws.proofs.Restarts.{length-enumerate}

-- ---- a kept registration has a worker

abbrev is_worked : KeptRegistration → Bool
is_worked row = is_some row.waiting || is_some row.active

with_worked : (key scope : List ℕ) (f : KeptRegistration → KeptRegistration) → ((x : KeptRegistration) → is_worked x ≡ true → is_worked (f x) ≡ true) → (rows : List KeptRegistration) → list_all is_worked rows ≡ true → list_all is_worked (with_registration key scope f rows) ≡ true
with_worked key scope f goes rows is = all_changed is_worked is_worked _ (λ x here. by_test (λ row. is_worked row ≡ true) (is_registration key scope x) _ x (λ this. goes x here) (λ other. here)) rows is

promoted_worked : (x : KeptRegistration) → is_worked x ≡ true → is_worked (promoted x) ≡ true
promoted_worked x is = grind (arith, is)

marked_worked : (x : KeptRegistration) → is_worked x ≡ true → is_worked (marked_activated x) ≡ true
marked_worked x is = grind (arith, is)

applied_worked : (kept : Kept) (c : Change) → list_all is_worked kept.registrations ≡ true → list_all is_worked (applied kept c).registrations ≡ true
applied_worked kept (change.Waiting key scope mode worker) is =
    by_test (λ rows. list_all is_worked rows ≡ true) (list_any (is_registration key scope) kept.registrations) _ _ (λ there. with_worked key scope _ (λ x here. refl) kept.registrations is) (λ none. all_pushed is_worked kept.registrations _ is refl)
applied_worked kept (change.Active key scope) is = with_worked key scope promoted promoted_worked kept.registrations is
applied_worked kept (change.Activated key scope) is = with_worked key scope marked_activated marked_worked kept.registrations is
applied_worked kept (change.Mode key scope mode) is = with_worked key scope _ (λ x here. here) kept.registrations is
applied_worked kept (change.Gone key scope) is = all_of_filter is_worked _ kept.registrations is
applied_worked kept (change.CacheNew key name) is = by_test (λ (k : Kept). list_all is_worked k.registrations ≡ true) (list_any (is_cache key name) kept.caches) _ _ (λ there. is) (λ none. is)
applied_worked kept (change.CacheDrop key name) is = is
applied_worked kept (change.CacheOps key name ops) is = is
applied_worked kept (change.Forgot key) is = all_of_filter is_worked _ kept.registrations is
applied_worked kept change.Restarted is = all_changed is_worked is_worked promoted promoted_worked kept.registrations is
applied_worked kept (change.Preload key scope on text) is = with_worked key scope _ (λ x here. here) kept.registrations is

folded_worked : (changes : List Change) (kept : Kept) → list_all is_worked kept.registrations ≡ true → list_all is_worked (kept_after kept changes).registrations ≡ true
folded_worked [] kept is = is
folded_worked (c ∷ changes) kept is = folded_worked changes (applied kept c) (applied_worked kept c is)

pub made_worked : (kept : Kept) → IsMade kept → list_all is_worked kept.registrations ≡ true
made_worked kept made = rw made.1 (folded_worked made.0 nothing refl)

-- ---- one registration after another

restored_by : (o : Option Worker) → is_some o ≡ true → (w : Worker) × (o ≡ Some w)
restored_by None is = absurd cc
restored_by (Some w) is = (w, refl)

-- a worker there is, that of a kept registration
pub restored_there : (number from : ℕ) (row : KeptRegistration) → is_worked row ≡ true → (w : Worker) × (worker_after_restart number from row ≡ Some w)
restored_there number from row is = restored_by (worker_after_restart number from row) (grind (arith, is))

none_passes : {X : Type 0} (p : X → Bool) (xs : List X) → list_all (λ x. not (p x)) xs ≡ true → find p xs ≡ None
none_passes p [] is = refl
none_passes p (x ∷ xs) is = grind (arith, is, none_passes p xs)

found_next : {X : Type 0} (p : X → Bool) (x : X) (rest : List X) (o : Option X) → o ≡ None → p x ≡ true → option_or o (find p (x ∷ rest)) ≡ Some x
found_next p x rest o none here = grind (arith, none, here)

-- the first that passes stands behind those that don't
found_behind : {X : Type 0} (p : X → Bool) (before : List X) (x : X) (rest rows : List X) → rows ≡ before ++ x ∷ rest → list_all (λ y. not (p y)) before ≡ true → p x ≡ true → find p rows ≡ Some x
found_behind p before x rest rows is none here =
    ap (find p) is ∙ (find-append p before (x ∷ rest) ∙ found_next p x rest (find p before) (none_passes p before none) here)

abbrev is_before : ℕ → Registration → Bool
is_before from row = option_map_or (λ first. nat_lt first from) row.first false

pub restored_of : (number from : ℕ) (row : KeptRegistration) (w : Worker) → worker_after_restart number from row ≡ Some w → w.registration ≡ from
restored_of number from row w got = grind (arith, got)

pub restored_active : (number from : ℕ) (row : KeptRegistration) (w : Worker) → worker_after_restart number from row ≡ Some w → in_slot slot.Active w.state ≡ true
restored_active number from row w got = grind (arith, got)

not_this : (kept : Bool) (from : ℕ) (first : Option ℕ) → option_map_or (λ n. nat_lt n from) first false ≡ true → not (kept && is_number first from) ≡ true
not_this kept from None is = absurd cc
not_this kept from (Some n) is = grind (arith, nat_tests, is)

before_next : (from : ℕ) (first : Option ℕ) → option_map_or (λ n. nat_lt n from) first false ≡ true → option_map_or (λ n. nat_lt n (from + 1)) first false ≡ true
before_next from None is = absurd cc
before_next from (Some n) is = grind (arith, nat_tests, is)

filtered_next : {X : Type 0} (h : ℕ → Option X) (from n : ℕ) (x : X) (xs : List X) → h from ≡ Some x → filter_map h (range_with_len (from + 1) n) ≡ xs → filter_map h (range_with_len from (suc n)) ≡ x ∷ xs
filtered_next h from n x xs one others = grind (arith, one, others)

-- what is kept of a restored registration
kept_of_worker : (row : KeptRegistration) (number from : ℕ) (waiting active : Option KeptWorker) (activated : Bool) (w : Worker) → worker_after_restart number from (record row { waiting = waiting; active = active; activated = activated }) ≡ Some w
    → promoted (record row { waiting = waiting; active = active; activated = activated }) ≡ record row { waiting = None; active = Some (kept_worker w); activated = is_activated w }
kept_of_worker row number from (Some k) active activated w got = grind (arith, got)
kept_of_worker row number from None (Some k) true w got = grind (arith, got)
kept_of_worker row number from None (Some k) false w got = grind (arith, got)
kept_of_worker row number from None None activated w got = absurd cc

module _ (state : State) (never : list_all (λ w. not (in_slot slot.Waiting w.state)) state.workers ≡ true) where
  abbrev h : ℕ → Option KeptRegistration
  h place = option_map (durable_registration state) (kept_at state place)

  none_waits : (registration : ℕ) → slot_worker state slot.Waiting registration ≡ None
  none_waits registration =
      none_passes (λ w. w.registration == registration && in_slot slot.Waiting w.state) state.workers (all_weaker (λ w. not (in_slot slot.Waiting w.state)) _ (λ w is. grind (arith, is)) state.workers never)

  durable_is : (number from : ℕ) (row : KeptRegistration) (w : Worker) → worker_after_restart number from row ≡ Some w → slot_worker state slot.Waiting from ≡ None → slot_worker state slot.Active from ≡ Some w
      → durable_registration state (restored_registration (from, row)) ≡ promoted row
  durable_is number from row w got waiting active = cc (waiting, active, kept_of_worker row number from row.waiting row.active row.activated w got)

  -- the registration of this place, with its worker
  this_kept : (number from : ℕ) (row : KeptRegistration) (w : Worker) (regs_before regs_after : List Registration) (workers_before workers_after : List Worker)
      → worker_after_restart number from row ≡ Some w
      → state.registrations ≡ regs_before ++ restored_registration (from, row) ∷ regs_after → state.workers ≡ workers_before ++ w ∷ workers_after
      → list_all (is_before from) regs_before ≡ true → list_all (λ x. nat_lt x.registration from) workers_before ≡ true
      → h from ≡ Some (promoted row)
  this_kept number from row w regs_before regs_after workers_before workers_after got regs workers below lower =
      let of : w.registration ≡ from = restored_of number from row w got in
      let active : slot_worker state slot.Active from ≡ Some w =
      found_behind (λ x. x.registration == from && in_slot slot.Active x.state) workers_before w workers_after state.workers workers (all_weaker _ _ (λ x is. grind (arith, nat_tests, is)) workers_before lower) (grind (arith, nat_tests, of, restored_active number from row w got)) in
      let here : kept_at state from ≡ Some (restored_registration (from, row)) =
      found_behind (λ x. is_kept state x && is_number x.first from) regs_before (restored_registration (from, row)) regs_after state.registrations regs (all_weaker _ _ (λ x is. not_this (is_kept state x) from x.first is) regs_before below) (grind (arith, nat_tests, active)) in
      ap (option_map (durable_registration state)) here ∙ ap Some (durable_is number from row w got (none_waits from) active)

  all_kept : (rows : List KeptRegistration) (number from : ℕ) (regs : List Registration) (workers : List Worker) → list_all is_worked rows ≡ true
      → state.registrations ≡ regs ++ map restored_registration (enumerate_from from rows) → state.workers ≡ workers ++ restored_workers number (enumerate_from from rows)
      → list_all (is_before from) regs ≡ true → list_all (λ x. nat_lt x.registration from) workers ≡ true
      → filter_map h (range_with_len from (length rows)) ≡ map promoted rows
  all_kept [] number from regs workers worked at_regs at_workers below lower = refl
  all_kept (row ∷ rows) number from regs workers worked at_regs at_workers below lower =
      let parts = and_parts (is_worked row) (list_all is_worked rows) worked in
      let there = restored_there number from row parts.0 in
      let w = there.0 in
      let rest : restored_workers number (enumerate_from from (row ∷ rows)) ≡ w ∷ restored_workers (number + 1) (enumerate_from (from + 1) rows) = grind (arith, there.1) in
      let now_workers : state.workers ≡ workers ++ w ∷ restored_workers (number + 1) (enumerate_from (from + 1) rows) = at_workers ∙ ap (λ (ws : List Worker). workers ++ ws) rest in
      let one = this_kept number from row w regs (map restored_registration (enumerate_from (from + 1) rows)) workers (restored_workers (number + 1) (enumerate_from (from + 1) rows)) there.1 at_regs now_workers below lower in
      let others = all_kept rows (number + 1) (from + 1) (regs ++ restored_registration (from, row) ∷ []) (workers ++ w ∷ []) parts.1
      (at_regs ∙ sym (append_assoc regs (restored_registration (from, row) ∷ []) (map restored_registration (enumerate_from (from + 1) rows))))
      (now_workers ∙ sym (append_assoc workers (w ∷ []) (restored_workers (number + 1) (enumerate_from (from + 1) rows))))
      (all_pushed (is_before (from + 1)) regs (restored_registration (from, row)) (all_weaker _ _ (λ x is. before_next from x.first is) regs below) (grind (arith, nat_tests)))
      (all_pushed (λ x. nat_lt x.registration (from + 1)) workers w (all_weaker _ _ (λ x is. grind (arith, nat_tests, is)) workers lower) (grind (arith, nat_tests, restored_of number from row w there.1))) in
      filtered_next h from (length rows) (promoted row) (map promoted rows) one others

-- ---- the restart

never_waiting : (rows : List KeptRegistration) (number from : ℕ) → list_all (λ w. not (in_slot slot.Waiting w.state)) (restored_workers number (enumerate_from from rows)) ≡ true
never_waiting [] number from = refl
never_waiting (row ∷ rows) number from = grind (arith, never_waiting rows number (from + 1), never_waiting rows (number + 1) (from + 1))

pub restart_keeps : (base : Kept) → IsMade base → durable (restart base) ≡ applied base change.Restarted
unfolding durable
restart_keeps base made =
    let rows = base.registrations in
    let regs = map restored_registration (enumerate_from 0 rows) in
    let same : length regs ≡ length rows = length-map (enumerate_from 0 rows) restored_registration ∙ length-enumerate rows 0 in
    let kept = all_kept (restart base) (never_waiting rows 0 0) rows 0 0 [] [] (made_worked base made) refl refl refl refl in
    ap (λ (list : List KeptRegistration). record base { registrations = list }) (ap (λ n. filter_map (λ place. option_map (durable_registration (restart base)) (kept_at (restart base) place)) (range_with_len 0 n)) same ∙ kept)
