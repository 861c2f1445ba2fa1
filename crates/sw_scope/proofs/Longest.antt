-- The longest front by the counted lengths, longest first.
use Rattle.std.proofs.Common.{◌≡◌, ◌∙◌, ◌<◌, ◌≤◌, ℕ, zero, suc, Bool, true, false, List, [], ◌∷◌, length, take, drop, get_or, is_some, nat_lt, bytes_eq, Option, None, refl, sym, ap, subst, arith, length-take, if◌then◌else◌}
use Rattle.std.proofs.lemmas.Bool.Decides.{nat_tests}
use Rattle.std.proofs.lemmas.List.{drop_all}
use Rattle.std.specs.Cmp.Lexicographic.{bytes_decides}
use Rattle.std.specs.Map.{lookup}
use Rattle.std.specs.Option.{option_or}
use Rattle.sw_scope.specs.declared.lengths.Counted.{Counted}
use Rattle.sw_scope.specs.Counted.{CountsLengths, IsFalling, entries_of, first_found, scopes_of, within}
use Rattle.sw_scope.specs.Scopes.{has_length, longest_at, longest_front, passing_to}
use Rattle.sw_scope.proofs.Counting.{none_above}

-- some scope has a length
abbrev pub is_counted : List Counted → ℕ → Bool
is_counted counted n = nat_lt 0 (scopes_of counted n)

-- ---- the counted lengths are those that entries have

within_zero : (bound : ℕ) (counted : List Counted) → IsFalling bound counted → within 0 counted ≡ (if is_counted counted 0 then 0 ∷ [] else [])
within_zero bound [] falls = refl
within_zero bound (one ∷ []) falls = let some = falls.1 in grind (arith, nat_tests, some)
within_zero bound (one ∷ next ∷ rest) falls =
    let some = falls.1 in let below = falls.2.0 in
    let later = within_zero one.length (next ∷ rest) falls.2 in grind (arith, nat_tests, some, below, later)

within_more : (bound m : ℕ) (counted : List Counted) → IsFalling bound counted
    → within (suc m) counted ≡ (if is_counted counted (suc m) then suc m ∷ within m counted else within m counted)
within_more bound m [] falls = refl
within_more bound m (one ∷ rest) falls =
    let some = falls.1 in
    let later = within_more one.length m rest falls.2 in
    let none = λ (l : one.length ≤ suc m). none_above one.length (suc m) rest l falls.2 in
    grind (arith, nat_tests, some, later, none)

within_passing : (bound m : ℕ) (counted : List Counted) → IsFalling bound counted → within m counted ≡ passing_to (is_counted counted) m
within_passing bound zero counted falls = within_zero bound counted falls
within_passing bound (suc m) counted falls =
    within_more bound m counted falls
    ∙ ap (λ (ns : List ℕ). if is_counted counted (suc m) then suc m ∷ ns else ns) (within_passing bound m counted falls)

passing_same : (test other : ℕ → Bool) → ((n : ℕ) → test n ≡ other n) → (m : ℕ) → passing_to test m ≡ passing_to other m
passing_same test other same zero = ap (λ (b : Bool). if b then zero ∷ [] else []) (same zero)
passing_same test other same (suc m) =
    ap (λ (b : Bool). if b then suc m ∷ passing_to test m else passing_to test m) (same (suc m))
    ∙ ap (λ (ns : List ℕ). if other (suc m) then suc m ∷ ns else ns) (passing_same test other same m)

has_some : (entries : List (List ℕ × ℕ)) (n : ℕ) → nat_lt 0 (entries_of entries n) ≡ has_length entries n
has_some [] n = refl
has_some (entry ∷ entries) n = let later = has_some entries n in grind (arith, nat_tests, later)

pub within_lengths : (counted : List Counted) (entries : List (List ℕ × ℕ)) → CountsLengths counted entries → (m : ℕ)
    → within m counted ≡ passing_to (has_length entries) m
within_lengths counted entries is m =
    within_passing is.bound m counted is.falling
    ∙ passing_same (is_counted counted) (has_length entries) (λ n. ap (nat_lt 0) (is.exact n) ∙ has_some entries n) m

-- ---- the longest front is found at such a length

absent : (text : List ℕ) (entries : List (List ℕ × ℕ)) → has_length entries (length text) ≡ false → lookup (bytes_eq text) entries ≡ None
absent text [] none = refl
absent text (entry ∷ entries) none =
    let same = λ (is : bytes_eq text entry.0 ≡ true). ap (λ (t : List ℕ). length t) ((bytes_decides text entry.0).0 is) in
    grind (arith, nat_tests, same, absent text entries)

module _ (address : List ℕ) (entries : List (List ℕ × ℕ)) where
  abbrev pub at_front : ℕ → Option ℕ
  at_front n = lookup (bytes_eq (take n address)) entries

  front_absent : (n : ℕ) → n ≤ length address → has_length entries n ≡ false → at_front n ≡ None
  front_absent n inside none =
      let many : length (take n address) ≡ n = let taken = length-take n address in omega (arith, taken, inside) in
      absent (take n address) entries (subst (λ k. has_length entries k ≡ false) (sym many) none)

  abbrev longest_to : ℕ → Option ℕ
  longest_to m = longest_at (λ scope. lookup (bytes_eq scope) entries) address m

  found_zero : (has : Bool) → has_length entries zero ≡ has → first_found at_front (if has then zero ∷ [] else []) ≡ at_front zero
  found_zero true is = grind arith
  found_zero false is = sym (front_absent zero (omega arith) is)

  found_more : (m : ℕ) (ns : List ℕ) → suc m ≤ length address → first_found at_front ns ≡ longest_to m → (has : Bool) → has_length entries (suc m) ≡ has
      → first_found at_front (if has then suc m ∷ ns else ns) ≡ option_or (at_front (suc m)) (longest_to m)
  found_more m ns inside later true is = ap (option_or (at_front (suc m))) later
  found_more m ns inside later false is =
      later ∙ ap (λ (found : Option ℕ). option_or found (longest_to m)) (sym (front_absent (suc m) inside is))

  found_passing : (m : ℕ) → m ≤ length address → first_found at_front (passing_to (has_length entries) m) ≡ longest_to m
  found_passing zero inside = found_zero (has_length entries zero) refl
  found_passing (suc m) inside =
      found_more m (passing_to (has_length entries) m) inside (found_passing m (omega (arith, inside))) (has_length entries (suc m)) refl

  pub found_longest : (counted : List Counted) → CountsLengths counted entries
      → first_found at_front (within (length address) counted) ≡ longest_front (λ scope. lookup (bytes_eq scope) entries) address
  found_longest counted is =
      ap (first_found at_front) (within_lengths counted entries is (length address)) ∙ found_passing (length address) (omega arith)

  pub few_steps : (counted : List Counted) → CountsLengths counted entries
      → length (within (length address) counted) ≡ length (passing_to (has_length entries) (length address))
  few_steps counted is = ap (λ (ns : List ℕ). length ns) (within_lengths counted entries is (length address))

-- ---- at one length of the list

module _ (found : ℕ → Option ℕ) (most : ℕ) (d : Counted) where
  pub found_here : (counted : List Counted) (i : ℕ) → i < length counted → (get_or counted i d).length ≤ most
      → is_some (found (get_or counted i d).length) ≡ true
      → first_found found (within most (drop i counted)) ≡ found (get_or counted i d).length
  found_here [] i inside short is = absurd (omega arith)
  found_here (one ∷ rest) zero inside short is = grind (arith, nat_tests)
  found_here (one ∷ rest) (suc i) inside short is = found_here rest i (omega (arith, inside)) short is

  pub one_here : (counted : List Counted) (i : ℕ) → i < length counted → (get_or counted i d).length ≤ most
      → 1 ≤ length (within most (drop i counted))
  one_here [] i inside short = absurd (omega arith)
  one_here (one ∷ rest) zero inside short = grind (arith, nat_tests)
  one_here (one ∷ rest) (suc i) inside short = one_here rest i (omega (arith, inside)) short

pub ruleset at_lengths = (found_here, one_here, drop_all)
