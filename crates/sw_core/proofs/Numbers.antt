-- The numbers of the kept registrations by the places at which they got a waiting worker.
use Rattle.std.proofs.Common.{◌≡◌, ◌∙◌, ℕ, zero, suc, ◌+◌, ◌<◌, Bool, true, false, List, [], ◌∷◌, ◌++◌, map, take, Option, Some, None, option_map, length, get_or, refl, sym, ap, arith, if◌then◌else◌}
use Rattle.std.specs.Prelude.{find}
use Rattle.std.specs.List.{filter_map, range_with_len}
use Rattle.std.specs.Option.{option_or}
use Rattle.std.proofs.lemmas.List.{ext_get_or, length-map, take_more}
use Rattle.std.proofs.lemmas.List.Elements.{filter_map-append}
use Rattle.std.proofs.lemmas.List.Folds.{find-append}
use Rattle.std.proofs.lemmas.List.FromFn.{get_or-range_with_len, length-map-range_with_len}
use Rattle.sw_data.specs.declared.rows.RegistrationRow.{RegistrationRow}
use Rattle.sw_core.specs.Keeping.{is_kept_at, number_at}
use Rattle.sw_scope.specs.Scopes.{Scopes}

-- the number with one row more
pub number_more : (scopes : Scopes) (place : ℕ) (rows : List RegistrationRow) (row : RegistrationRow)
    → number_at scopes (rows ++ row ∷ []) place ≡ option_or (number_at scopes rows place) (if is_kept_at scopes place row then Some row.number else None)
number_more scopes place rows row =
    ap (option_map (λ (r : RegistrationRow). r.number)) (find-append (is_kept_at scopes place) rows (row ∷ []))
    ∙ by (find (is_kept_at scopes place) rows) (is_kept_at scopes place row)
  where
    by : (o : Option RegistrationRow) (b : Bool) → option_map (λ (r : RegistrationRow). r.number) (option_or o (if b then Some row else None))
        ≡ option_or (option_map (λ (r : RegistrationRow). r.number) o) (if b then Some row.number else None)
    by (Some x) b = refl
    by None true = refl
    by None false = refl

pub number_taken : (scopes : Scopes) (place : ℕ) (rows : List RegistrationRow) (i : ℕ) (row : RegistrationRow) → i < length rows → row ≡ get_or rows i row
    → number_at scopes (take (i + 1) rows) place ≡ option_or (number_at scopes (take i rows) place) (if is_kept_at scopes place row then Some row.number else None)
number_taken scopes place rows i row inside is =
    let longer = take_more rows i row inside in
    ap (λ (rs : List RegistrationRow). number_at scopes rs place) (longer ∙ ap (λ (r : RegistrationRow). take i rows ++ r ∷ []) (sym is))
    ∙ number_more scopes place (take i rows) row

got_mapped : {X Y : Type 0} (f : X → Y) (xs : List X) (i : ℕ) (d : Y) (x : X) → i < length xs → get_or (map f xs) i d ≡ f (get_or xs i x)
got_mapped f [] i d x below = absurd (omega (arith, below))
got_mapped f (y ∷ ys) zero d x below = refl
got_mapped f (y ∷ ys) (suc i) d x below = got_mapped f ys i d x (omega (arith, below))

-- what is noted of each place is all that is noted
pub all_numbers : (numbers : List (Option ℕ)) (number : ℕ → Option ℕ) (n : ℕ) → length numbers ≡ n → ((place : ℕ) → place < length numbers → get_or numbers place None ≡ number place)
    → numbers ≡ map number (range_with_len 0 n)
all_numbers numbers number n long each =
    let range = length-map-range_with_len number 0 n in
    let alone = sym (length-map (range_with_len 0 n) number) ∙ range in
    ext_get_or None numbers (map number (range_with_len 0 n)) (long ∙ sym range)
    (λ i below.
    let inside : i < n = omega (arith, below, long) in
    let same : get_or (range_with_len 0 n) i 0 ≡ i = get_or-range_with_len 0 n i 0 inside ∙ omega arith in
    each i below ∙ sym (got_mapped number (range_with_len 0 n) i None 0 (omega (arith, inside, alone)) ∙ ap number same))

-- what a function gives of one more member
pub one_more : {X Y : Type 0} (f : X → Option Y) (xs : List X) (i : ℕ) (d : X) (before after : List Y) → i < length xs
    → before ≡ filter_map f (take i xs) → after ≡ before ++ filter_map f (get_or xs i d ∷ []) → after ≡ filter_map f (take (i + 1) xs)
one_more f xs i d before after inside was added =
    added
    ∙ (ap (λ ys. ys ++ filter_map f (get_or xs i d ∷ [])) was
    ∙ (sym (filter_map-append f (take i xs) (get_or xs i d ∷ []))
    ∙ ap (filter_map f) (sym (take_more xs i d inside))))
