-- The laws of the map of scopes.
use Rattle.std.proofs.Common.{◌≡◌, ◌∙◌, ◌⊎◌, inl, inr, ⊎_elim, ◌<◌, ◌≤◌, ◌==◌, ℕ, zero, suc, Bool, true, false, List, [], ◌∷◌, length, take, nat_lt, bytes_eq, filter, fold, find, map, option_map, is_some, Option, Some, None, refl, sym, ap, subst, arith, length-take, if◌then◌else◌}
use Rattle.std.proofs.lemmas.Bool.{and_parts}
use Rattle.std.proofs.lemmas.Bool.Decides.{nat_tests}
use Rattle.std.specs.Cmp.Lexicographic.{bytes_decides}
use Rattle.std.specs.Map.{lookup}
use Rattle.std.specs.Option.{IsSome}
use Rattle.sw_rules.specs.Matching.{Scope, holds_address, longer, longest}
use Rattle.sw_rules.specs.Rows.{is_mapped_to, mapped_registration, mapped_scopes}
use Rattle.sw_rules.specs.State.{Registration}
use Rattle.sw_scope.specs.Laws.{LengthsAreOfScopes, LongestIsTheStandards, MatchIsTheLongestFront, OneLengthIsOneStep}
use Rattle.sw_scope.specs.Scopes.{has_length, is_scope, longest_at, longest_front, number_in, own_scopes, passing_to}

-- ---- the longest front goes by the fronts alone

-- k is at most m, or the next number
top_or_below : (k m : ℕ) → k ≤ suc m → (k ≤ m) ⊎ (k ≡ suc m)
top_or_below k m low = by (nat_lt m k) refl
  where
    by : (top : Bool) → nat_lt m k ≡ top → (k ≤ m) ⊎ (k ≡ suc m)
    by true is = inr (let over : m < k = grind (arith, nat_tests) in omega (arith, low, over))
    by false is = inl (grind (arith, nat_tests))

module _ (found other : List ℕ → Option ℕ) (address : List ℕ) where
  -- the same at each front from k bytes up, where the front of k bytes has a registration
  pub same_above : (k v m : ℕ) → k ≤ m → found (take k address) ≡ Some v
      → ((n : ℕ) → k ≤ n → n ≤ m → found (take n address) ≡ other (take n address))
      → longest_at found address m ≡ longest_at other address m
  same_above k v zero low is same = same zero low (omega arith)
  same_above k v (suc m) low is same =
      let first = same (suc m) low (omega arith) in
      ⊎_elim
      (λ l. let later = same_above k v m l is (λ n p q. same n p (omega (arith, q))) in grind (arith, first, later))
      (λ e. let top = subst (λ n. found (take n address) ≡ Some v) e is in grind (arith, first, top))
      (top_or_below k m low)

  -- the same at each front
  pub same_fronts : (m : ℕ) → ((n : ℕ) → n ≤ m → found (take n address) ≡ other (take n address))
      → longest_at found address m ≡ longest_at other address m
  same_fronts zero same = same zero (omega arith)
  same_fronts (suc m) same =
      let first = same (suc m) (omega arith) in
      let later = same_fronts m (λ n l. same n (omega (arith, l))) in
      grind (arith, first, later)

pub only_at : (found : List ℕ → Option ℕ) (address : List ℕ) (k v m : ℕ) → k ≤ m → found (take k address) ≡ Some v
    → ((n : ℕ) → k < n → n ≤ m → found (take n address) ≡ None) → longest_at found address m ≡ Some v
only_at found address k v zero low is none =
    let e : k ≡ zero = omega (arith, low) in subst (λ n. found (take n address) ≡ Some v) e is
only_at found address k v (suc m) low is none =
    ⊎_elim
    (λ l. let over = none (suc m) (omega (arith, l)) (omega arith) in
    let later = only_at found address k v m l is (λ n p q. none n p (omega (arith, q))) in grind (arith, over, later))
    (λ e. let top = subst (λ n. found (take n address) ≡ Some v) e is in grind (arith, top))
    (top_or_below k m low)

pub none_at : (address : List ℕ) (m : ℕ) → longest_at (λ text. None) address m ≡ None
none_at address zero = refl
none_at address (suc m) = none_at address m

-- ---- the standard's longest scope

module _ (key address : List ℕ) where
  abbrev best_of : List Scope → Option ℕ
  best_of scopes = longest_front (number_in scopes key) address

  abbrev holds : Scope → Bool
  holds = holds_address key address

  -- a scope that holds the address is the front of its length
  fits_front : (row : Scope) → holds row ≡ true
      → (length row.scope ≤ length address) × (is_scope key (take (length row.scope) address) row ≡ true)
  fits_front row is =
      let parts = and_parts (bytes_eq row.key key) (bytes_eq row.scope (take (length row.scope) address)) is in
      let long = ap (λ (text : List ℕ). length text) ((bytes_decides row.scope (take (length row.scope) address)).0 parts.1) in
      let taken = length-take (length row.scope) address in
      (omega (arith, long, taken), is)

  -- a scope is that of the front of its own length alone
  at_own : (row : Scope) (n : ℕ) → n ≤ length address → is_scope key (take n address) row ≡ true → n ≡ length row.scope
  at_own row n inside is =
      let parts = and_parts (bytes_eq row.key key) (bytes_eq row.scope (take n address)) is in
      let long = ap (λ (text : List ℕ). length text) ((bytes_decides row.scope (take n address)).0 parts.1) in
      let taken = length-take n address in
      omega (arith, long, taken, inside)

  not_front : (row : Scope) → holds row ≡ false → (n : ℕ) → n ≤ length address → is_scope key (take n address) row ≡ false
  not_front row not n inside = by (is_scope key (take n address) row) refl
    where
      by : (is : Bool) → is_scope key (take n address) row ≡ is → is_scope key (take n address) row ≡ false
      by false is = is
      by true is = absurd (let own = at_own row n inside is in
          let whole = subst (λ k. is_scope key (take k address) row ≡ true) own is in cc)

  abbrev number_of : Option Scope → Option ℕ
  number_of found = option_map (λ row. row.number) found

  -- a scope that doesn't hold the address changes nothing
  skipped : (best row : Scope) (rest : List Scope) → holds row ≡ false → best_of (best ∷ rest) ≡ best_of (best ∷ row ∷ rest)
  skipped best row rest not =
      same_fronts (number_in (best ∷ rest) key) (number_in (best ∷ row ∷ rest) key) address (length address)
      (λ n inside. let no = not_front row not n inside in grind (arith, no))

  -- what is found at the front of a first scope
  at_first : (first : Scope) (rest : List Scope) → holds first ≡ true
      → number_in (first ∷ rest) key (take (length first.scope) address) ≡ Some first.number
  at_first first rest is = let at = (fits_front first is).1 in grind (arith, at)

  -- a longer scope takes the place of the best one
  taken_over : (best row : Scope) (rest : List Scope) → holds row ≡ true → length best.scope < length row.scope
      → best_of (row ∷ rest) ≡ best_of (best ∷ row ∷ rest)
  taken_over best row rest held over =
      same_above (number_in (row ∷ rest) key) (number_in (best ∷ row ∷ rest) key) address (length row.scope) row.number (length address)
      (fits_front row held).0 (at_first row rest held)
      (λ n low inside. let own = at_own best n inside in grind (arith, own, low, over))

  -- one that isn't longer changes nothing
  passed_over : (best row : Scope) (rest : List Scope) → holds best ≡ true → length row.scope ≤ length best.scope
      → best_of (best ∷ rest) ≡ best_of (best ∷ row ∷ rest)
  passed_over best row rest is short =
      same_above (number_in (best ∷ rest) key) (number_in (best ∷ row ∷ rest) key) address (length best.scope) best.number (length address)
      (fits_front best is).0 (at_first best rest is)
      (λ n low inside. by n inside low (is_scope key (take n address) best) refl (is_scope key (take n address) row) refl)
    where
      by : (n : ℕ) → n ≤ length address → length best.scope ≤ n
          → (first : Bool) → is_scope key (take n address) best ≡ first → (second : Bool) → is_scope key (take n address) row ≡ second
          → number_in (best ∷ rest) key (take n address) ≡ number_in (best ∷ row ∷ rest) key (take n address)
      by n inside low true one second two = grind (arith, one)
      by n inside low false one false two = grind (arith, one, two)
      by n inside low false one true two = absurd (
          let own = at_own row n inside two in
          let same : length best.scope ≡ n = omega (arith, own, low, short) in
          let whole = subst (λ k. is_scope key (take k address) best ≡ true) same (fits_front best is).1 in cc)

  held_by : (best row : Scope) (rest : List Scope) → holds best ≡ true → holds row ≡ true
      → number_of (fold longer (Some row) (filter holds rest)) ≡ best_of (row ∷ rest)
      → number_of (fold longer (Some best) (filter holds rest)) ≡ best_of (best ∷ rest)
      → (over : Bool) → nat_lt (length best.scope) (length row.scope) ≡ over
      → number_of (fold longer (if over then Some row else Some best) (filter holds rest)) ≡ best_of (best ∷ row ∷ rest)
  held_by best row rest is held by_row by_best true over = by_row ∙ taken_over best row rest held (grind (arith, nat_tests))
  held_by best row rest is held by_row by_best false over = by_best ∙ passed_over best row rest is (grind (arith, nat_tests))

  next_by : (best row : Scope) (rest : List Scope) → holds best ≡ true
      → (holds row ≡ true → number_of (fold longer (Some row) (filter holds rest)) ≡ best_of (row ∷ rest))
      → number_of (fold longer (Some best) (filter holds rest)) ≡ best_of (best ∷ rest)
      → (holding : Bool) → holds row ≡ holding
      → number_of (fold longer (Some best) (if holding then row ∷ filter holds rest else filter holds rest)) ≡ best_of (best ∷ row ∷ rest)
  next_by best row rest is by_row by_best true held =
      held_by best row rest is held (by_row held) by_best (nat_lt (length best.scope) (length row.scope)) refl
  next_by best row rest is by_row by_best false not = by_best ∙ skipped best row rest not

  -- the best scope so far, and those behind it
  best_from : (best : Scope) → holds best ≡ true → (scopes : List Scope)
      → number_of (fold longer (Some best) (filter holds scopes)) ≡ best_of (best ∷ scopes)
  best_from best is [] =
      sym (only_at (number_in (best ∷ []) key) address (length best.scope) best.number (length address) (fits_front best is).0
      (at_first best [] is) (λ n over inside. let own = at_own best n inside in grind (arith, own, over)))
  best_from best is (row ∷ rest) =
      next_by best row rest is (λ held. best_from row held rest) (best_from best is rest) (holds row) refl

  first_by : (row : Scope) (rest : List Scope)
      → number_of (longest rest key address) ≡ best_of rest
      → (holding : Bool) → holds row ≡ holding
      → number_of (fold longer None (if holding then row ∷ filter holds rest else filter holds rest)) ≡ best_of (row ∷ rest)
  first_by row rest by_rest true held = best_from row held rest
  first_by row rest by_rest false not =
      by_rest
      ∙ same_fronts (number_in rest key) (number_in (row ∷ rest) key) address (length address)
      (λ n inside. let no = not_front row not n inside in grind (arith, no))

  best_is : (scopes : List Scope) → number_of (longest scopes key address) ≡ best_of scopes
  best_is [] = sym (none_at address (length address))
  best_is (row ∷ rest) = first_by row rest (best_is rest) (holds row) refl

pub longest_is : LongestIsTheStandards
longest_is scopes key address = best_is key address scopes

-- ---- the mapped registrations

abbrev row_scope : Registration → Scope
row_scope row = record { key = row.key; scope = row.scope; number = row.number }

mapped_number : (key scope : List ℕ) (rows : List Registration)
    → number_in (map row_scope (filter (λ row. row.mapped) rows)) key scope ≡ option_map (λ row. row.number) (find (is_mapped_to key scope) rows)
mapped_number key scope [] = refl
mapped_number key scope (row ∷ rows) = grind (arith, mapped_number key scope rows)

pub match_is : MatchIsTheLongestFront
match_is state key address =
    longest_is (mapped_scopes state) key address
    ∙ same_fronts (number_in (mapped_scopes state) key) (λ scope. option_map (λ row. row.number) (mapped_registration state key scope))
    address (length address) (λ n inside. mapped_number key (take n address) state.registrations)

-- ---- the counted lengths

-- a text is looked up where an entry has its length
pub length_of : (text : List ℕ) (entries : List (List ℕ × ℕ)) → is_some (lookup (bytes_eq text) entries) ≡ true → has_length entries (length text) ≡ true
length_of text [] found = absurd cc
length_of text (entry ∷ entries) found =
    let same = λ (is : bytes_eq text entry.0 ≡ true). ap (λ (t : List ℕ). length t) ((bytes_decides text entry.0).0 is) in
    grind (arith, nat_tests, same, length_of text entries)

module _ (n : ℕ) where
  abbrev Mapped : List (List ℕ × ℕ) → Type 0
  Mapped entries = (scope : List ℕ) × (length scope ≡ n) × IsSome (lookup (bytes_eq scope) entries)

  mapped_by : (entry : List ℕ × ℕ) (entries : List (List ℕ × ℕ)) → (has_length entries n ≡ true → Mapped entries) → has_length (entry ∷ entries) n ≡ true
      → (own : Bool) → (length entry.0 == n) ≡ own → Mapped (entry ∷ entries)
  mapped_by entry entries later has true own =
      let same : bytes_eq entry.0 entry.0 ≡ true = (bytes_decides entry.0 entry.0).1 refl in
      (entry.0, grind (arith, nat_tests), grind (arith, same))
  mapped_by entry entries later has false own =
      let others : Mapped entries = later (grind arith) in
      let there = others.2 in
      (others.0, others.1, grind (arith, there))

  pub mapped_of : (entries : List (List ℕ × ℕ)) → has_length entries n ≡ true → Mapped entries
  mapped_of [] has = absurd cc
  mapped_of (entry ∷ entries) has = mapped_by entry entries (mapped_of entries) has (length entry.0 == n) refl

pub lengths_are : LengthsAreOfScopes
lengths_are scopes key n = (
  mapped_of n (own_scopes scopes key).entries,
  λ mapped. subst (λ m. has_length (own_scopes scopes key).entries m ≡ true) mapped.1
      (length_of mapped.0 (own_scopes scopes key).entries mapped.2),
)

-- ---- one length

module _ (test : ℕ → Bool) where
  passing_none : (m : ℕ) → ((k : ℕ) → k ≤ m → test k ≡ false) → passing_to test m ≡ []
  passing_none zero none = let no = none zero (omega arith) in grind (arith, no)
  passing_none (suc m) none =
      let no = none (suc m) (omega arith) in
      let later = passing_none m (λ k l. none k (omega (arith, l))) in grind (arith, no, later)

  fails_at : (n : ℕ) → ((k : ℕ) → test k ≡ true → k ≡ n) → (k : ℕ) → k < n → (passes : Bool) → test k ≡ passes → test k ≡ false
  fails_at n only k below true is = absurd (let same = only k is in omega (arith, same, below))
  fails_at n only k below false is = is

  few_by : (n m : ℕ) → ((k : ℕ) → test k ≡ true → k ≡ n) → length (passing_to test m) ≤ 1
      → (passes : Bool) → test (suc m) ≡ passes → length (if passes then suc m ∷ passing_to test m else passing_to test m) ≤ 1
  few_by n m only few true is =
      let same = only (suc m) is in
      let none = passing_none m (λ k l. fails_at n only k (omega (arith, same, l)) (test k) refl) in
      let empty = ap (λ (ns : List ℕ). length ns) none in omega (arith, empty)
  few_by n m only few false is = few

  passing_few : (n m : ℕ) → ((k : ℕ) → test k ≡ true → k ≡ n) → length (passing_to test m) ≤ 1
  passing_few n zero only = grind arith
  passing_few n (suc m) only = few_by n m only (passing_few n m only) (test (suc m)) refl

pub one_length : OneLengthIsOneStep
one_length scopes key n only most =
    passing_few (has_length (own_scopes scopes key).entries) n most
    (λ k has. let mapped = (lengths_are scopes key k).0 has in sym mapped.1 ∙ only mapped.0 mapped.2)
