-- Names and keys that are there only with a number.
use Rattle.std.proofs.Common.{◌≡◌, ℕ, Bool, true, false, cond, List, [], ◌∷◌, Option, Some, None, length, get_or, refl, sym, subst, ap, ◌∙◌, arith, true≢false, inl, inr}
use Rattle.std.specs.Prelude.{bytes_eq}
use Rattle.std.specs.Option.{IfSome}
use Rattle.std.specs.List.{list_any}
use Rattle.std.specs.BTreeSet.{BTreeSet, btree_set_len}
use Rattle.std.specs.Map.{lookup}
use Rattle.std.specs.Cmp.Lexicographic.{bytes_decides}
use Rattle.std.proofs.lemmas.Bool.{cases_Bool, cases_lt}
use Rattle.std.proofs.lemmas.Cmp.{nat_cmp_total}
use Rattle.std.proofs.lemmas.Map.Views.{All-set_contains}
use Rattle.sw_list.specs.declared.names.Names.{Names}
use Rattle.sw_list.specs.Names.{HasNoBareKey, HasNoBareName, Keyed, Numbers, found_has, names_have, set_has}

-- where one name changes, it isn't left there without a number
pub bare_name : (name : List ℕ) (old new : Numbers) (after : Option (BTreeSet ℕ)) → ((asked : List ℕ) → lookup (bytes_eq asked) new ≡ cond (bytes_eq name asked) after (lookup (bytes_eq asked) old))
    → (((n : ℕ) → found_has (λ numbers. set_has numbers n) after ≡ false) → after ≡ None) → HasNoBareName old → HasNoBareName new
bare_name name old new after is changed was asked out = elim (cases_Bool (bytes_eq name asked)) [
  | inl e ↦
      let here = is asked ∙ ap (λ b. cond b after (lookup (bytes_eq asked) old)) e in
      here ∙ changed (λ n. ap (found_has (λ numbers. set_has numbers n)) (sym here) ∙ out n)
  | inr e ↦
      let there = is asked ∙ ap (λ b. cond b after (lookup (bytes_eq asked) old)) e in
      there ∙ was asked (λ n. ap (found_has (λ numbers. set_has numbers n)) (sym there) ∙ out n)
]

-- where one key changes, it isn't left there without a number, nor one of its names
pub bare_key : (key : List ℕ) (old new : Keyed) (after : Option Names) → ((asked : List ℕ) → lookup (bytes_eq asked) new ≡ cond (bytes_eq key asked) after (lookup (bytes_eq asked) old))
    → (((name : Option (List ℕ)) (n : ℕ) → found_has (λ names. names_have names name n) after ≡ false) → after ≡ None)
    → IfSome after (λ names. HasNoBareName names.by_name.entries) → HasNoBareKey old → HasNoBareKey new
bare_key key old new after is changed named was = record {
  keyed = λ asked out. elim (cases_Bool (bytes_eq key asked)) [
    | inl e ↦ let here = at asked e in here ∙ changed (λ name n. ap (found_has (λ names. names_have names name n)) (sym here) ∙ out name n)
    | inr e ↦ let there = at asked e in there ∙ was.keyed asked (λ name n. ap (found_has (λ names. names_have names name n)) (sym there) ∙ out name n)
  ];
  named = λ asked names found. elim (cases_Bool (bytes_eq key asked)) [
    | inl e ↦ subst (λ found. IfSome found (λ names. HasNoBareName names.by_name.entries)) (sym (at asked e) ∙ found) named
    | inr e ↦ was.named asked names (sym (at asked e) ∙ found)
  ];
}
  where
    at : (asked : List ℕ) {b : Bool} → bytes_eq key asked ≡ b → lookup (bytes_eq asked) new ≡ cond b after (lookup (bytes_eq asked) old)
    at asked e = is asked ∙ ap (λ b. cond b after (lookup (bytes_eq asked) old)) e

pub some_none : {X : Type 0} (x : X) → Some x ≡ None → ⊥
some_none x e = cc

-- where nothing is found, nothing is there
pub none_there : {X : Type 0} (entries : List (List ℕ × X)) → ((asked : List ℕ) → lookup (bytes_eq asked) entries ≡ None) → length entries ≡ 0
none_there [] out = refl
none_there (entry ∷ entries) out =
    let same : bytes_eq entry.0 entry.0 ≡ true = (bytes_decides entry.0 entry.0).1 refl in
    let here = out entry.0 in
    absurd (some_none entry.1 (sym (ap (λ b. cond b (Some entry.1) (lookup (bytes_eq entry.0) entries)) same) ∙ here))

-- a set that has no number is empty
pub none_left : (numbers : BTreeSet ℕ) → ((n : ℕ) → set_has numbers n ≡ false) → btree_set_len numbers ≡ 0
none_left numbers out = elim (cases_lt 0 (length numbers.keys)) [
  | inl low ↦ absurd (true≢false (sym (All-set_contains nat_cmp_total numbers 0 0 low) ∙ out (get_or numbers.keys 0 0)))
  | inr high ↦ omega (arith, high)
]

-- what is put and taken out again
pub put_taken : {X : Type 0} (b : Bool) (after found : Option X) → cond b None (cond b after found) ≡ cond b None found
put_taken true after found = refl
put_taken false after found = refl

-- what was there is there with one more
pub one_more : (b was : Bool) → was ≡ true → cond b true was ≡ true
one_more true was there = refl
one_more false was there = there

pub none_in : (test : ℕ → Bool) (keys : List ℕ) → length keys ≡ 0 → list_any test keys ≡ false
none_in test [] empty = refl
none_in test (key ∷ keys) empty = absurd (omega (arith, empty))
