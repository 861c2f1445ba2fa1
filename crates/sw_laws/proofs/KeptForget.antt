-- What is kept where a key is forgotten.
use Rattle.std.proofs.Common.{◌≡◌, ◌∙◌, ℕ, Bool, true, false, not, ◌&&◌, ◌||◌, ◌==◌, List, [], ◌∷◌, map, filter, Option, Some, None, refl, sym, ap, true≢false, arith, if◌then◌else◌}
use Rattle.std.specs.List.{list_all, list_any, filter_map}
use Rattle.std.specs.Prelude.{bytes_eq, option_and_then}
use Rattle.std.proofs.lemmas.Bool.Decides.{nat_tests}
use Rattle.sw_data.specs.Sameness.{same_truth}
use Rattle.sw_data.specs.declared.storage.KeptRegistration.{KeptRegistration}
use Rattle.sw_rules.specs.Forgetting.{forget_key, is_mapped_of}
use Rattle.sw_rules.specs.State.{State, Registration, Worker}
use Rattle.sw_laws.specs.Coherent.{SoundRegistrations, apart}
use Rattle.sw_laws.proofs.AtOnce.{AreApart}
use Rattle.sw_laws.proofs.Contents.{Slots, contents, contents_moved, is_worked, kept_in, kept_with, slots_in}
use Rattle.sw_laws.proofs.ForgetSteps.{any_of_filter}
use Rattle.sw_laws.proofs.Forgotten.{cleared, forgotten_together, is_numbered, left}
use Rattle.sw_laws.proofs.KeptRechecks.{KeepsRows, unkept}
use Rattle.sw_laws.proofs.Lists.{all_members, all_true, all_weaker, any_weaker, by_test, by_truth, not_true}
use Rattle.sw_laws.proofs.Moves.{from_any}
use Rattle.sw_laws.proofs.Ordered.{Ordered, is_fresh, ordered_moved}
use Rattle.sw_laws.proofs.Places.{both_numbered, places_apart}
use Rattle.sw_laws.proofs.SlotMoves.{LooksSame, looks_same, slots_same}

filter_as : {X : Type 0} (p : X → Bool) (xs : List X) → filter p xs ≡ filter_map (λ x. if p x then Some x else None) xs
filter_as p [] = refl
filter_as p (x ∷ xs) = grind (arith, filter_as p xs)

abbrev other_key : List ℕ → KeptRegistration → Option KeptRegistration
other_key key row = if not (bytes_eq row.key key) then Some row else None

gone_of : (key : List ℕ) (x : Registration) (slots : Slots) → is_mapped_of key x ≡ true → kept_with (record x { mapped = false }) slots ≡ option_and_then (other_key key) (kept_with x slots)
gone_of key x slots is = grind (arith, is)

stays_of : (key : List ℕ) (x : Registration) (slots : Slots) → bytes_eq x.key key ≡ false → kept_with x slots ≡ option_and_then (other_key key) (kept_with x slots)
stays_of key x slots is = grind (arith, is)

gone_both : (key : List ℕ) (x : Registration) (now was : Slots) → is_mapped_of key x ≡ true → kept_with (record x { mapped = false }) now ≡ option_and_then (other_key key) (kept_with x was)
gone_both key x now was is = unkept (record x { mapped = false }) now refl ∙ (sym (unkept (record x { mapped = false }) was refl) ∙ gone_of key x was is)

unmapped_stays : (key : List ℕ) (x : Registration) (now was : Slots) → x.mapped ≡ false → kept_with x now ≡ option_and_then (other_key key) (kept_with x was)
unmapped_stays key x now was is = unkept x now is ∙ sym (ap (option_and_then (other_key key)) (unkept x was is))

stays_both : (key : List ℕ) (x : Registration) (now was : Slots) → is_mapped_of key x ≡ false → (bytes_eq x.key key ≡ false → now ≡ was) → kept_with x now ≡ option_and_then (other_key key) (kept_with x was)
stays_both key x now was is same =
    by_truth (bytes_eq x.key key) (λ here. unmapped_stays key x now was (grind (arith, is, here))) (λ other. ap (kept_with x) (same other) ∙ stays_of key x was other)

own_row : (n : ℕ) (b : Bool) → (n == n && same_truth b b) ≡ true
own_row n b = grind (arith, nat_tests)

-- a mapped registration of another key has no number of a registration of the key
clear_of : (key : List ℕ) (rows : List Registration) (number : ℕ) → apart (λ x y. x.number == y.number) rows ≡ true → list_any (λ y. y.number == number && not (bytes_eq y.key key)) rows ≡ true → is_numbered (filter (is_mapped_of key) rows) number ≡ false
clear_of key rows number fine other =
    not_true (λ any.
    true≢false (sym (from_any (λ (y : Registration). y.number == number && (not (bytes_eq y.key key) && bytes_eq y.key key)) false (λ y both. grind (arith, both)) rows
    (both_numbered (λ (y : Registration). y.number) (λ y. not (bytes_eq y.key key)) (λ y. bytes_eq y.key key) rows number fine other (any_of_filter key number rows any)))))

module _ (state : State) (key : List ℕ) (order : Ordered state.registrations state.workers) where
  abbrev rows : List Registration
  rows = state.registrations

  abbrev gone : List Registration
  gone = filter (is_mapped_of key) rows

  abbrev f : Worker → Worker
  f worker = if is_numbered gone worker.registration then cleared worker else worker

  abbrev now : List Worker
  now = map f state.workers

  abbrev g : Registration → Registration
  g row = if is_mapped_of key row then left row else row

  abbrev known : Registration → Bool
  known x = bytes_eq x.key key || not (is_numbered gone x.number)

  knows : list_all known rows ≡ true
  knows =
      all_weaker (λ x. list_any (λ y. y.number == x.number && same_truth (bytes_eq y.key key) (bytes_eq x.key key)) rows) known
      (λ x here. by_truth (bytes_eq x.key key) (λ is. grind (arith, is))
      (λ other. grind (arith, other, clear_of key rows x.number (places_apart (λ (r : Registration). r.number) rows order.sound.numbers) (any_weaker (λ y. y.number == x.number && same_truth (bytes_eq y.key key) (bytes_eq x.key key)) _ (λ y both. grind (arith, both, other)) rows here))))
      rows (all_members (λ y x. y.number == x.number && same_truth (bytes_eq y.key key) (bytes_eq x.key key)) (λ x. own_row x.number (bytes_eq x.key key)) rows rows (λ x is. is))

  slots_stay : (x : Registration) → is_numbered gone x.number ≡ false → slots_in now x.number ≡ slots_in state.workers x.number
  slots_stay x free =
      slots_same f x.number (λ w. true) (λ w. by_test (λ (v : Worker). v.registration ≡ w.registration) (is_numbered gone w.registration) _ w (λ here. refl) (λ other. refl))
      (λ w know of. by_test (LooksSame w) (is_numbered gone w.registration) _ w (λ here. absurd (true≢false (sym (any_weaker (λ (row : Registration). row.number == w.registration) _ (λ row is. grind (arith, nat_tests, is, of)) gone here) ∙ free))) (λ other. looks_same w))
      state.workers (all_true state.workers)

  moved_kept : (x : Registration) → known x ≡ true → kept_in now (g x) ≡ option_and_then (other_key key) (kept_in state.workers x)
  moved_kept x know =
      by_test (λ row. kept_in now row ≡ option_and_then (other_key key) (kept_in state.workers x)) (is_mapped_of key x) _ x
      (λ here. gone_both key x (slots_in now x.number) (slots_in state.workers x.number) here)
      (λ other. stays_both key x (slots_in now x.number) (slots_in state.workers x.number) other (λ keyed. slots_stay x (grind (arith, know, keyed))))

  pub forget_ordered : SoundRegistrations (map g rows) → Ordered (map g rows) now
  forget_ordered sound =
      ordered_moved g state.workers now known (record {
        first = λ x. by_test (λ (row : Registration). row.first ≡ x.first) (is_mapped_of key x) _ x (λ here. refl) (λ other. refl);
        worked = λ x know. by_test (λ (row : Registration). row.mapped ≡ true → (x.mapped ≡ true) × (is_worked (slots_in now row.number) ≡ is_worked (slots_in state.workers x.number))) (is_mapped_of key x) _ x
            (λ here is. absurd (true≢false (sym is))) (λ other is. (is, ap is_worked (slots_stay x (grind (arith, know, other, is)))));
        fresh = λ x know was. by_test (λ (row : Registration). is_fresh row ≡ true) (is_mapped_of key x) _ x (λ here. refl) (λ other. was);
      }) rows knows sound order

  pub forget_rows : AreApart state.workers → KeepsRows state (forget_key state key)
  unfolding forget_key
  forget_rows fine kept same =
      filter_as (λ row. not (bytes_eq row.key key)) kept.registrations
      ∙ (ap (filter_map (other_key key)) same
      ∙ sym (contents_moved state.workers now g (other_key key) known (λ x. by_test (λ (row : Registration). row.first ≡ x.first) (is_mapped_of key x) _ x (λ here. refl) (λ other. refl)) moved_kept rows knows order.firsts)
      ∙ ap (λ (s : State). contents s.workers s.registrations) (sym (forgotten_together state key fine (places_apart (λ (r : Registration). r.number) rows order.sound.numbers))))
