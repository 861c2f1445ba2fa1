-- In which order registrations got a waiting worker, and what a change of one registration makes of what is kept.
use Rattle.std.proofs.Common.{◌≡◌, ◌∙◌, ℕ, Bool, true, false, not, ◌&&◌, ◌||◌, ◌==◌, List, [], ◌∷◌, map, filter, Option, Some, None, refl, sym, ap, subst, true≢false, arith, if◌then◌else◌}
use Rattle.std.specs.List.{list_all, filter_map}
use Rattle.std.specs.Prelude.{bytes_eq, codes, find, is_some, nat_lt, option_and_then}
use Rattle.std.specs.Option.{option_map_or}
use Rattle.std.proofs.lemmas.Bool.Decides.{nat_tests}
use Rattle.sw_data.specs.Sameness.{same_truth}
use Rattle.sw_data.specs.declared.storage.Change.{Change}
use Rattle.sw_data.specs.declared.storage.Kept.{Kept}
use Rattle.sw_data.specs.declared.storage.KeptRegistration.{KeptRegistration}
use Rattle.sw_data.specs.declared.workers.Slot.TheVariants as slot
use Rattle.sw_rules.specs.Installing.{first_counter}
use Rattle.sw_rules.specs.Rows.{changed, is_mapped_to, is_registration, registration_row, slot_worker}
use Rattle.sw_rules.specs.State.{State, Registration, Worker}
use Rattle.sw_rules.specs.Storage.{applied, kept_after, with_registration}
use Rattle.sw_rules.specs.Storage as storage
use Rattle.sw_rules.specs.Told.{is_kept, kept_change}
use Rattle.sw_laws.specs.Coherent.{SoundRegistrations, apart, same_scope}
use Rattle.sw_laws.proofs.Contents.{contents, contents_moved, is_worked, kept_in, kept_with, same_first, slots_in, slots_of, Slots}
use Rattle.sw_laws.proofs.Lists.{all_both, all_changed, all_true, apart_changed, by_test, bytes_eq_equal, bytes_eq_same, false_of, find_passes, found_by, map_same, none_found}
use Rattle.sw_laws.proofs.Places.{all_as_found, all_known, places_apart}

-- ---- the order

abbrev pub is_below : ℕ → Option ℕ → Bool
is_below count first = option_map_or (λ place. nat_lt place count) first true

-- a mapped registration has its place exactly where it is kept
abbrev pub has_place : List Worker → Registration → Bool
has_place workers row = not row.mapped || same_truth (is_some row.first) (is_worked (slots_in workers row.number))

-- a mapped registration without a place has the preload of a new one
abbrev pub is_fresh : Registration → Bool
is_fresh row = not row.mapped || is_some row.first || (not row.preload && bytes_eq row.preload_value (codes "true"))

-- own: registrations have places of their own, counted from zero, and those that are kept have one
pub record Ordered (rows : List Registration) (workers : List Worker) : Type 0 where
  pub sound : SoundRegistrations rows
  pub firsts : apart same_first rows ≡ true
  pub below : list_all (λ row. is_below (first_counter rows) row.first) rows ≡ true
  pub placed : list_all (has_place workers) rows ≡ true
  pub fresh : list_all is_fresh rows ≡ true

counted_same : (g : Registration → Registration) → ((x : Registration) → (g x).first ≡ x.first) → (rows : List Registration) → first_counter (map g rows) ≡ first_counter rows
counted_same g first [] = refl
counted_same g first (row ∷ rows) = grind (arith, first row, counted_same g first rows)

-- a change of rows that keeps their places, maps none, and leaves the mapped ones as many workers
pub record KeepsPlaces (g : Registration → Registration) (old new : List Worker) (known : Registration → Bool) : Type 0 where
  pub first : (x : Registration) → (g x).first ≡ x.first
  pub worked : (x : Registration) → known x ≡ true → (g x).mapped ≡ true → (x.mapped ≡ true) × (is_worked (slots_in new (g x).number) ≡ is_worked (slots_in old x.number))
  pub fresh : (x : Registration) → known x ≡ true → is_fresh x ≡ true → is_fresh (g x) ≡ true

place_kept : (was mapped : Bool) (first now_first : Option ℕ) (worked now_worked : Bool) → now_first ≡ first → (mapped ≡ true → (was ≡ true) × (now_worked ≡ worked)) → (not was || same_truth (is_some first) worked) ≡ true → (not mapped || same_truth (is_some now_first) now_worked) ≡ true
place_kept was false first now_first worked now_worked same goes is = refl
place_kept was true first now_first worked now_worked same goes is = let both = goes refl in grind (arith, same, both.0, both.1, is)

pub ordered_moved : (g : Registration → Registration) (old new : List Worker) (known : Registration → Bool) → KeepsPlaces g old new known → (rows : List Registration) → list_all known rows ≡ true → SoundRegistrations (map g rows) → Ordered rows old → Ordered (map g rows) new
ordered_moved g old new known keeps rows knows sound order = record {
  sound = sound;
  firsts = apart_changed same_first g (λ x y fine. rw (keeps.first x, keeps.first y) fine) rows order.firsts;
  below = rw (counted_same g keeps.first rows) (all_changed _ _ g (λ x is. rw (keeps.first x) is) rows order.below);
  placed = all_known known (has_place old) (has_place new) g (λ x know is. place_kept x.mapped (g x).mapped x.first (g x).first _ _ (keeps.first x) (keeps.worked x know) is) rows knows order.placed;
  fresh = all_known known is_fresh is_fresh g keeps.fresh rows knows order.fresh;
}

-- ---- changes of what is kept

-- f at the registration of a key and a scope
abbrev pub only : List ℕ → List ℕ → (KeptRegistration → Option KeptRegistration) → KeptRegistration → Option KeptRegistration
only key scope f row = if storage.is_registration key scope row then f row else Some row

pub with_only : (key scope : List ℕ) (f : KeptRegistration → KeptRegistration) (rows : List KeptRegistration) → with_registration key scope f rows ≡ filter_map (only key scope (λ row. Some (f row))) rows
with_only key scope f [] = refl
with_only key scope f (row ∷ rows) = grind (arith, with_only key scope f rows)

pub without_only : (key scope : List ℕ) (rows : List KeptRegistration) → filter (λ row. not (storage.is_registration key scope row)) rows ≡ filter_map (only key scope (λ row. None)) rows
without_only key scope [] = refl
without_only key scope (row ∷ rows) = grind (arith, without_only key scope rows)

pub all_stay : {X : Type 0} (xs : List X) → filter_map (λ x. Some x) xs ≡ xs
all_stay [] = refl
all_stay (x ∷ xs) = ap (λ rest. x ∷ rest) (all_stay xs)

only_here : (key scope : List ℕ) (f : KeptRegistration → Option KeptRegistration) (x : Registration) (slots : Slots) → (bytes_eq x.key key && bytes_eq x.scope scope) ≡ true → option_and_then (only key scope f) (kept_with x slots) ≡ option_and_then f (kept_with x slots)
only_here key scope f x slots is = grind (arith, is)

only_other : (key scope : List ℕ) (f : KeptRegistration → Option KeptRegistration) (x : Registration) (slots : Slots) → is_mapped_to key scope x ≡ false → option_and_then (only key scope f) (kept_with x slots) ≡ kept_with x slots
only_other key scope f x slots is = grind (arith, is)

pub then_some : {X : Type 0} (o : Option X) → option_and_then (λ x. Some x) o ≡ o
then_some None = refl
then_some (Some x) = refl

-- ---- the change of one registration

-- a change of the registration of a number, where what is kept of it is f of what was kept
pub record ChangesOne (old new : List Worker) (number : ℕ) (g : Registration → Registration) (f : KeptRegistration → Option KeptRegistration) (known : Registration → Bool) : Type 0 where
  pub here : (x : Registration) → (x.number == number) ≡ true → known x ≡ true → kept_in new (g x) ≡ option_and_then f (kept_in old x)
  pub others : (n : ℕ) → (n == number) ≡ false → slots_in new n ≡ slots_in old n

meets : (x y row : Registration) → is_mapped_to row.key row.scope x ≡ true → is_mapped_to row.key row.scope y ≡ true → same_scope x y ≡ true
meets x y row one other =
    let key : x.key ≡ y.key = bytes_eq_equal x.key row.key (grind (arith, one)) ∙ sym (bytes_eq_equal y.key row.key (grind (arith, other))) in
    let scope : x.scope ≡ y.scope = bytes_eq_equal x.scope row.scope (grind (arith, one)) ∙ sym (bytes_eq_equal y.scope row.scope (grind (arith, other))) in
    grind (arith, one, other, key, scope, bytes_eq_same x.key, bytes_eq_same x.scope)

-- the mapped registration of a key and a scope has this number
pub mapped_alone : (number : ℕ) (rows : List Registration) (row : Registration) → apart same_scope rows ≡ true → find (is_registration number) rows ≡ Some row → row.mapped ≡ true → list_all (λ y. not (is_mapped_to row.key row.scope y) || y.number == number) rows ≡ true
mapped_alone number rows row fine found mapped =
    let p = is_mapped_to row.key row.scope in
    let meet = λ (x y : Registration) (one : p x ≡ true) (other : p y ≡ true). meets x y row one other in
    let passes : p row ≡ true = grind (arith, mapped, bytes_eq_same row.key, bytes_eq_same row.scope) in
    all_as_found same_scope p (λ y. y.number == number) meet rows row fine
    (found_by same_scope (is_registration number) p rows row fine found passes (λ y here. meet y row here passes)) (find_passes (is_registration number) rows row found)

kept_test : (row : Registration) (waiting active : Option Worker) → (row.mapped && (is_some waiting || is_some active)) ≡ is_some (kept_with row (slots_of waiting active))
kept_test row None None = grind arith
kept_test row None (Some a) = grind arith
kept_test row (Some w) None = grind arith
kept_test row (Some w) (Some a) = grind arith

pub is_kept_in : (state : State) (row : Registration) → is_kept state row ≡ is_some (kept_in state.workers row)
unfolding slots_in
is_kept_in state row = kept_test row (slot_worker state slot.Waiting row.number) (slot_worker state slot.Active row.number)

none_of : {X : Type 0} (o : Option X) → is_some o ≡ false → o ≡ None
none_of None is = refl
none_of (Some x) is = absurd cc

mapped_of : (row : Registration) (slots : Slots) → is_some (kept_with row slots) ≡ true → row.mapped ≡ true
mapped_of row slots is = grind (arith, is)

module _ (state : State) (new : List Worker) (number : ℕ) (g : Registration → Registration) (f : KeptRegistration → Option KeptRegistration) (known : Registration → Bool)
    (change : ChangesOne state.workers new number g f known) (first : (x : Registration) → (g x).first ≡ x.first) (knows : list_all known state.registrations ≡ true) (order : Ordered state.registrations state.workers) where
  abbrev rows : List Registration
  rows = state.registrations

  abbrev moved_row : Registration → Registration
  moved_row row = if is_registration number row then g row else row

  abbrev now_kept : List KeptRegistration
  now_kept = contents new (changed (is_registration number) g rows)

  places : (x : Registration) → (moved_row x).first ≡ x.first
  places x = by_test (λ (row : Registration). row.first ≡ x.first) (is_registration number x) _ x (λ here. first x) (λ other. refl)

  numbered : apart (λ x y. x.number == y.number) rows ≡ true
  numbered = places_apart (λ (x : Registration). x.number) rows order.sound.numbers

  other_stays : (x : Registration) → (x.number == number) ≡ false → kept_in new x ≡ kept_in state.workers x
  other_stays x other = ap (kept_with x) (change.others x.number other)

  -- where no registration is of this number, or it isn't kept, nothing changes
  stays_by : (test : Registration → Bool) → ((x : Registration) → test x ≡ true → known x ≡ true → (x.number == number) ≡ true → kept_in state.workers x ≡ None) → list_all test rows ≡ true → now_kept ≡ contents state.workers rows
  stays_by test never tests =
      contents_moved state.workers new moved_row (λ row. Some row) (λ x. known x && test x) places
      (λ x know. by_test (λ row. kept_in new row ≡ option_and_then (λ (k : KeptRegistration). Some k) (kept_in state.workers x)) (is_registration number x) _ x
      (λ here. let none = never x (grind (arith, know)) (grind (arith, know)) here in change.here x here (grind (arith, know)) ∙ (ap (option_and_then f) none ∙ sym (ap (option_and_then (λ (k : KeptRegistration). Some k)) none)))
      (λ other. other_stays x other ∙ sym (then_some (kept_in state.workers x))))
      rows (all_both known test rows knows tests) order.firsts
      ∙ all_stay (contents state.workers rows)

  stays_absent : find (is_registration number) rows ≡ None → now_kept ≡ contents state.workers rows
  stays_absent none = stays_by (λ x. not (x.number == number)) (λ x other know here. absurd (true≢false (sym here ∙ false_of other))) (none_found (is_registration number) rows none)

  stays_unkept : (row : Registration) → find (is_registration number) rows ≡ Some row → is_some (kept_in state.workers row) ≡ false → now_kept ≡ contents state.workers rows
  stays_unkept row found not_kept =
      stays_by (λ x. not (x.number == number) || not (is_some (kept_in state.workers x))) (λ x is know here. none_of (kept_in state.workers x) (grind (arith, is, here)))
      (all_as_found (λ x y. x.number == y.number) (is_registration number) (λ x. not (is_some (kept_in state.workers x))) (λ x y one other. grind (arith, nat_tests, one, other)) rows row numbered found (grind (arith, not_kept)))

  pub moves_kept : (row : Registration) → find (is_registration number) rows ≡ Some row → is_some (kept_in state.workers row) ≡ true → now_kept ≡ filter_map (only row.key row.scope f) (contents state.workers rows)
  moves_kept row found is_kept_now =
      let keyed = λ (x : Registration). bytes_eq x.key row.key && bytes_eq x.scope row.scope in
      let own = all_as_found (λ x y. x.number == y.number) (is_registration number) keyed (λ x y one other. grind (arith, nat_tests, one, other)) rows row numbered found (grind (arith, bytes_eq_same row.key, bytes_eq_same row.scope)) in
      let alone = mapped_alone number rows row order.sound.scopes found (mapped_of row (slots_in state.workers row.number) is_kept_now) in
      contents_moved state.workers new moved_row (only row.key row.scope f) (λ x. known x && ((not (x.number == number) || keyed x) && (not (is_mapped_to row.key row.scope x) || x.number == number))) places
      (λ x know. by_test (λ now. kept_in new now ≡ option_and_then (only row.key row.scope f) (kept_in state.workers x)) (is_registration number x) _ x
      (λ here. change.here x here (grind (arith, know)) ∙ sym (only_here row.key row.scope f x (slots_in state.workers x.number) (grind (arith, know, here))))
      (λ other. other_stays x other ∙ sym (only_other row.key row.scope f x (slots_in state.workers x.number) (grind (arith, know, other)))))
      rows (all_both known _ rows knows (all_both _ _ rows own alone)) order.firsts

  found_change : (change_of : Registration → Change) → ((row : Registration) (kept : Kept) → (applied kept (change_of row)).registrations ≡ filter_map (only row.key row.scope f) kept.registrations) → (found : Option Registration) → find (is_registration number) rows ≡ found
      → (kept : Kept) → kept.registrations ≡ contents state.workers rows → (kept_after kept (option_map_or (λ row. if is_kept state row then change_of row ∷ [] else []) found [])).registrations ≡ now_kept
  found_change change_of does None is kept same = same ∙ sym (stays_absent is)
  found_change change_of does (Some row) is kept same =
      by_test (λ (changes : List Change). (kept_after kept changes).registrations ≡ now_kept) (is_kept state row) _ _
      (λ here. does row kept ∙ (ap (filter_map (only row.key row.scope f)) same ∙ sym (moves_kept row is (sym (is_kept_in state row) ∙ here))))
      (λ other. same ∙ sym (stays_unkept row is (sym (is_kept_in state row) ∙ other)))

  -- the change that is recorded of the registration, where it is kept, makes what is kept afterwards
  pub recorded : (change_of : Registration → Change) → ((row : Registration) (kept : Kept) → (applied kept (change_of row)).registrations ≡ filter_map (only row.key row.scope f) kept.registrations)
      → (kept : Kept) → kept.registrations ≡ contents state.workers rows → (kept_after kept (kept_change state number change_of)).registrations ≡ now_kept
  recorded change_of does kept same = found_change change_of does (registration_row state number) refl kept same

-- ---- no registration changes

-- other workers, of which the same is kept
pub contents_still : (old new : List Worker) (known : Registration → Bool) → ((x : Registration) → known x ≡ true → kept_in new x ≡ kept_in old x) → (rows : List Registration) → list_all known rows ≡ true → apart same_first rows ≡ true → contents new rows ≡ contents old rows
contents_still old new known same rows knows fine =
    ap (contents new) (sym (map_same rows))
    ∙ (contents_moved old new (λ x. x) (λ row. Some row) known (λ x. refl) (λ x know. same x know ∙ sym (then_some (kept_in old x))) rows knows fine ∙ all_stay (contents old rows))

pub ordered_still : (old new : List Worker) (known : Registration → Bool) → ((x : Registration) → known x ≡ true → x.mapped ≡ true → is_worked (slots_in new x.number) ≡ is_worked (slots_in old x.number)) → (rows : List Registration) → list_all known rows ≡ true → Ordered rows old → Ordered rows new
ordered_still old new known same rows knows order = record {
  sound = order.sound;
  firsts = order.firsts;
  below = order.below;
  placed = subst (λ xs. list_all (has_place new) xs ≡ true) (map_same rows) (all_known known (has_place old) (has_place new) (λ x. x) (λ x know is. place_kept x.mapped x.mapped x.first x.first _ _ refl (λ mapped. (mapped, same x know mapped)) is) rows knows order.placed);
  fresh = order.fresh;
}

pub contents_same : (old new : List Worker) → ((n : ℕ) → slots_in new n ≡ slots_in old n) → (rows : List Registration) → apart same_first rows ≡ true → contents new rows ≡ contents old rows
contents_same old new same rows fine = contents_still old new (λ x. true) (λ x know. ap (kept_with x) (same x.number)) rows (all_true rows) fine

pub ordered_same : (old new : List Worker) → ((n : ℕ) → slots_in new n ≡ slots_in old n) → (rows : List Registration) → Ordered rows old → Ordered rows new
ordered_same old new same rows order = ordered_still old new (λ x. true) (λ x know mapped. ap is_worked (same x.number)) rows (all_true rows) order
