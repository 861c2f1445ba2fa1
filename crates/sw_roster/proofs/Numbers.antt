-- Numbers that stand under themselves, by rising focus, and the same, last focused first.
use Rattle.std.proofs.Common.{◌≡◌, ◌∙◌, ◌<◌, ◌+◌, ℕ, Bool, true, false, not, ◌||◌, ◌==◌, nat_eq, List, [], ◌∷◌, ◌++◌, length, reverse, slice_get, take, Some, None, refl, sym, ap, subst, arith}
use Rattle.std.specs.List.{IsDistinct, filter, find, list_any}
use Rattle.std.specs.Map.{keys_of, lookup, remove_entry, values_of}
use Rattle.std.specs.Option.{is_some}
use Rattle.std.proofs.lemmas.Bool.Decides.{nat_tests}
use Rattle.std.proofs.lemmas.List.{append-nil, map-append, reverse-append, take_more}
use Rattle.std.proofs.lemmas.List.Elements.{filter-append}
use Rattle.std.proofs.lemmas.List.Folds.{list_any-append}
use Rattle.std.proofs.lemmas.Option.{get_or_from_slice_get, slice_get-get_or, slice_get_within}
use Rattle.sw_client.specs.Keyed.{IsKeyed, keyed}
use Rattle.sw_client.proofs.KeyedRows.{lookup_keyed, remove_keyed, some_keyed, values_keyed}
use Rattle.sw_roster.specs.Members.{is_same}
use Rattle.sw_rules.specs.Rows.{without}

-- ---- the other way round

or_turned : (a b : Bool) → (a || b) ≡ (b || a)
or_turned true true = refl
or_turned true false = refl
or_turned false true = refl
or_turned false false = refl

any_reversed : (test : ℕ → Bool) (xs : List ℕ) → list_any test (reverse xs) ≡ list_any test xs
any_reversed test [] = refl
any_reversed test (x ∷ xs) =
    ap (list_any test) (reverse-append (x ∷ []) xs)
    ∙ list_any-append test (reverse xs) (x ∷ [])
    ∙ ap (λ (b : Bool). b || list_any test (x ∷ [])) (any_reversed test xs)
    ∙ or_turned (list_any test xs) (list_any test (x ∷ []))
    ∙ sym (list_any-append test (x ∷ []) xs)

kept_reversed : (test : ℕ → Bool) (xs : List ℕ) → filter test (reverse xs) ≡ reverse (filter test xs)
kept_reversed test [] = refl
kept_reversed test (x ∷ xs) =
    ap (filter test) (reverse-append (x ∷ []) xs)
    ∙ filter-append test (reverse xs) (x ∷ [])
    ∙ ap (λ (ys : List ℕ). ys ++ filter test (x ∷ [])) (kept_reversed test xs)
    ∙ by (test x) refl
  where
    by : (b : Bool) → test x ≡ b → reverse (filter test xs) ++ filter test (x ∷ []) ≡ reverse (filter test (x ∷ xs))
    by true passes = rw passes (sym (reverse-append (x ∷ []) (filter test xs)))
    by false fails = rw fails (append-nil (reverse (filter test xs)))

-- ---- entries

abbrev Entries : Type 0
Entries = List (ℕ × ℕ)

module _ (es : Entries) (sound : IsKeyed (λ (k : ℕ). k) es) where
  -- a number is there
  pub there : (n : ℕ) → is_some (lookup (nat_eq n) es) ≡ list_any (is_same n) (reverse (values_of es))
  there n =
      ap (λ (rows : Entries). is_some (lookup (nat_eq n) rows)) sound.rows
      ∙ some_keyed (λ k. k) n (values_of es)
      ∙ sym (any_reversed (is_same n) (values_of es))

  apart_now : IsDistinct nat_eq (keys_of (keyed (λ (k : ℕ). k) (values_of es)))
  apart_now = subst (λ (rows : Entries). IsDistinct nat_eq (keys_of rows)) sound.rows sound.apart

  removed : (n : ℕ) → remove_entry (nat_eq n) es ≡ keyed (λ k. k) (without (is_same n) (values_of es))
  removed n = ap (remove_entry (nat_eq n)) sound.rows ∙ remove_keyed (λ k. k) n (values_of es) apart_now

  -- a number is taken out
  module _ (n : ℕ) (after : Entries) (gone : after ≡ remove_entry (nat_eq n) es) (apart : IsDistinct nat_eq (keys_of after)) where
    values_left : values_of after ≡ without (is_same n) (values_of es)
    values_left = ap values_of (gone ∙ removed n) ∙ values_keyed (λ k. k) (without (is_same n) (values_of es))

    pub keyed_left : IsKeyed (λ (k : ℕ). k) after
    keyed_left = record { rows = gone ∙ removed n ∙ ap (keyed (λ k. k)) (sym values_left); apart = apart }

    pub reversed_left : reverse (values_of after) ≡ without (is_same n) (reverse (values_of es))
    reversed_left = ap reverse values_left ∙ sym (kept_reversed (λ k. not (is_same n k)) (values_of es))

    none_left : (xs : List ℕ) → find (λ k. k == n) (without (is_same n) xs) ≡ None
    none_left [] = refl
    none_left (x ∷ xs) = grind (arith, nat_tests, none_left xs)

    pub fresh : lookup (nat_eq n) after ≡ None
    fresh = ap (lookup (nat_eq n)) (gone ∙ removed n) ∙ lookup_keyed (λ k. k) n (without (is_same n) (values_of es)) ∙ none_left (values_of es)

  -- a number is added
  module _ (n : ℕ) (after : Entries) (more : after ≡ es ++ (n, n) ∷ []) (apart : IsDistinct nat_eq (keys_of after)) where
    values_more : values_of after ≡ values_of es ++ n ∷ []
    values_more = ap values_of more ∙ map-append (λ (entry : ℕ × ℕ). entry.1) es ((n, n) ∷ [])

    pub keyed_more : IsKeyed (λ (k : ℕ). k) after
    keyed_more = record {
      rows =
          more
          ∙ ap (λ (rows : Entries). rows ++ (n, n) ∷ []) sound.rows
          ∙ sym (map-append (λ (k : ℕ). (k, k)) (values_of es) (n ∷ []))
          ∙ ap (keyed (λ k. k)) (sym values_more);
      apart = apart;
    }

    pub reversed_more : reverse (values_of after) ≡ n ∷ reverse (values_of es)
    reversed_more = ap reverse values_more ∙ reverse-append (values_of es) (n ∷ [])

-- ---- one place after another

-- what stands at the next place is taken too
pub took : {X : Type 0} (xs : List X) (i : ℕ) (x : X) → slice_get xs i ≡ Some x → take (i + 1) xs ≡ take i xs ++ x ∷ []
took {X = X} xs i x is = take_more xs i x (slice_get_within xs i x is) ∙ ap (λ (y : X). take i xs ++ y ∷ []) (get_or_from_slice_get xs i x x is)

-- at no place below the length is nothing
pub past_none : (xs : List ℕ) (i : ℕ) → i < length xs → slice_get xs i ≡ None → ⊥
past_none xs i low none = let there = slice_get-get_or xs i 0 low in absurd cc
