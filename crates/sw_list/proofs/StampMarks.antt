-- Stamps behind their numbers: where a number stands, and what an addition and a removal leave.
use Rattle.std.proofs.Common.{◌≡◌, ◌∙◌, ◌<◌, ◌+◌, ℕ, zero, suc, false, cond, nat_eq, List, [], ◌∷◌, ◌++◌, length, map, slice_get, position, remove, is_some, Option, Some, None, All, refl, sym, ap, subst, inl, inr, arith}
use Rattle.std.specs.Cmp.{nat_eq_equiv}
use Rattle.std.specs.List.{IsDistinct}
use Rattle.std.specs.Map.{keys_of, lookup, remove_entry}
use Rattle.std.proofs.lemmas.Bool.{cases_lt}
use Rattle.std.proofs.lemmas.List.{length-map, map-append}
use Rattle.std.proofs.lemmas.List.Edits.{get_or-remove_above, get_or-remove_below, insert_end, length-remove}
use Rattle.std.proofs.lemmas.List.Elements.{All-push}
use Rattle.std.proofs.lemmas.List.Quantifiers.{all_pairs_push, all_pairs_remove}
use Rattle.std.proofs.lemmas.Map.{lookup-insert, lookup-remove_entry, none_passes_from_lookup}
use Rattle.std.proofs.lemmas.Map.Keys.{IsDistinct-from_apart, IsDistinct-push, apart_from_distinct}
use Rattle.std.proofs.lemmas.Map.Made.{is_some-lookup}
use Rattle.indexmap.proofs.MapLemmas.{Found-position, index-first, remove_entry-first}
use Rattle.indexmap.proofs.RemoveLemmas.{own_first}
use Rattle.sw_list.specs.Stamped.{IsStamped}

abbrev Marks : Type 0
Marks = List (ℕ × ℕ)

-- the place of an entry is that of its number
pub place_here : {X : Type 0} (entries : List (ℕ × X)) (i n : ℕ) (x : X) → IsDistinct nat_eq (keys_of entries) → slice_get entries i ≡ Some (n, x) → position (nat_eq n) (keys_of entries) ≡ Some i
place_here entries i n x apart at = index-first (nat_eq n) entries i (own_first nat_eq nat_eq_equiv entries i n x apart at)

-- ---- one more

pub kept_more : (marks old new : Marks) (n next : ℕ) → IsStamped marks old next → lookup (nat_eq n) marks ≡ None
    → ((q : ℕ) → lookup (nat_eq q) new ≡ cond (nat_eq n q) (Some next) (lookup (nat_eq q) old)) → IsStamped (marks ++ (n, next) ∷ []) new (next + 1)
kept_more marks old new n next kept fresh says = record {
  rising = all_pairs_push (λ left right. left.1 < right.1) marks (n, next) kept.rising kept.below;
  below = All-push (λ mark. mark.1 < next + 1) marks (n, next) (λ k d l. (let was = kept.below k d l in omega arith)) (omega arith);
  apart = subst (IsDistinct nat_eq) (sym (map-append (λ (mark : ℕ × ℕ). mark.0) marks ((n, next) ∷ [])))
      (IsDistinct-push nat_eq_equiv (keys_of marks) n kept.apart (sym (is_some-lookup (nat_eq n) marks) ∙ ap is_some fresh));
  found = λ q. says q ∙ (ap (λ (rest : Option ℕ). cond (nat_eq n q) (Some next) rest) (kept.found q)
      ∙ (sym (lookup-insert nat_eq_equiv n next q marks (length marks) (none_passes_from_lookup (nat_eq n) marks fresh))
      ∙ ap (lookup (nat_eq q)) (insert_end marks (n, next))));
}

-- ---- one less

pub map_remove : {X Y : Type 0} (f : X → Y) (xs : List X) (i : ℕ) → map f (remove xs i) ≡ remove (map f xs) i
map_remove f [] zero = refl
map_remove f [] (suc i) = refl
map_remove f (x ∷ xs) zero = refl
map_remove f (x ∷ xs) (suc i) = ap (λ rest. f x ∷ rest) (map_remove f xs i)

-- what holds of each holds of each that is left
All_left : {X : Type 0} (P : X → Type 0) (xs : List X) (i : ℕ) → i < length xs → All P xs → All P (remove xs i)
All_left P xs i within all k d l =
    let less = length-remove xs i within in
    elim (cases_lt k i) [
      | inl low ↦ subst P (sym (get_or-remove_below xs i d k low within)) (all k d (omega arith))
      | inr high ↦ subst P (sym (get_or-remove_above xs i d k high within)) (all (k + 1) d (omega arith))
    ]

-- the entry at the place of a number is the one that goes
pub removed : {X : Type 0} (entries : List (ℕ × X)) (n i : ℕ) → position (nat_eq n) (keys_of entries) ≡ Some i → remove entries i ≡ remove_entry (nat_eq n) entries
removed entries n i at = sym (remove_entry-first (nat_eq n) entries i (Found-position (nat_eq n) entries i at).first)

pub kept_less : (marks old new : Marks) (n i next : ℕ) → IsStamped marks old next → position (nat_eq n) (keys_of marks) ≡ Some i
    → ((q : ℕ) → lookup (nat_eq q) new ≡ cond (nat_eq n q) None (lookup (nat_eq q) old)) → IsStamped (remove marks i) new next
kept_less marks old new n i next kept at says =
    let within = (Found-position (nat_eq n) marks i at).within in
    record {
      rising = all_pairs_remove (λ left right. left.1 < right.1) marks i within kept.rising;
      below = All_left (λ mark. mark.1 < next) marks i within kept.below;
      apart = subst (IsDistinct nat_eq) (sym (map_remove (λ (mark : ℕ × ℕ). mark.0) marks i))
          (IsDistinct-from_apart nat_eq (remove (keys_of marks) i)
          (all_pairs_remove (λ left right. nat_eq left right ≡ false) (keys_of marks) i (omega (arith, length-map marks (λ (mark : ℕ × ℕ). mark.0)))
          (λ j k d before l. apart_from_distinct nat_eq (keys_of marks) j k d kept.apart before l)));
      found = λ q. says q ∙ (ap (λ (rest : Option ℕ). cond (nat_eq n q) None rest) (kept.found q)
          ∙ (sym (lookup-remove_entry nat_eq_equiv (nat_eq n) (nat_eq_equiv.congr n) q marks kept.apart)
          ∙ ap (lookup (nat_eq q)) (sym (removed marks n i at))));
    }

-- where a number isn't there, nothing goes
pub none_removed : {X : Type 0} (entries : List (ℕ × X)) (n : ℕ) → lookup (nat_eq n) entries ≡ None → remove_entry (nat_eq n) entries ≡ entries
none_removed [] n none = refl
none_removed (e ∷ es) n none = grind (arith, none_removed es n)
