-- Rows whose number is their place: what a look-up, a write and a scan find.
use Rattle.std.proofs.Common.{◌≡◌, ◌∙◌, ℕ, zero, suc, ◌+◌, ◌<◌, Bool, true, false, List, [], ◌∷◌, ◌++◌, map, filter, length, set, get_or, Option, Some, option_map, slice_get, refl, sym, ap, subst, arith, append_assoc, length-append, if◌then◌else◌}
use Rattle.std.specs.List.{AllByRecursion, find, last_or, range_with_len}
use Rattle.std.proofs.lemmas.Bool.Decides.{nat_tests}
use Rattle.sw_data.specs.declared.rows.JobRow.{JobRow}
use Rattle.sw_rules.specs.Rows.{changed, is_job}
use Rattle.sw_queue.specs.Kept.{AreFrom}

-- ---- members that pass

module _ {X : Type 0} (P : X → Type 0) (test : X → Bool) where
  kept_too : (passes : Bool) (x : X) (xs : List X) → P x → AllByRecursion P xs → AllByRecursion P (if passes then x ∷ xs else xs)
  kept_too true x xs one all = (one, all)
  kept_too false x xs one all = all

  pub all-filter : (xs : List X) → AllByRecursion P xs → AllByRecursion P (filter test xs)
  all-filter [] all = tt
  all-filter (x ∷ xs) all = kept_too (test x) x (filter test xs) all.0 (all-filter xs all.1)

module _ {X : Type 0} (P : X → Type 0) where
  pub all-last : (o : Option X) (xs : List X) (x : X) → AllByRecursion P xs → (o ≡ Some x → P x) → last_or o xs ≡ Some x → P x
  all-last o [] x all before is = before is
  all-last o (y ∷ ys) x all before is =
      all-last (Some y) ys x all.1 (λ same. subst P (some_same y x same) all.0) is
    where
      some_same : (y x : X) → Some y ≡ Some x → y ≡ x
      some_same y x same = cc

pub last-map : {X Y : Type 0} (f : X → Y) (o : Option X) (xs : List X) → last_or (option_map f o) (map f xs) ≡ option_map f (last_or o xs)
last-map f o [] = refl
last-map f o (x ∷ xs) = last-map f (Some x) xs

pub find-filter : {X : Type 0} (test : X → Bool) (xs : List X) → slice_get (filter test xs) 0 ≡ find test xs
find-filter test [] = refl
find-filter test (x ∷ xs) = grind (arith, find-filter test xs)

-- ---- look-ups by number

pub find_from : (first : ℕ) (rows : List JobRow) → AreFrom first rows → (place job : ℕ) → job ≡ first + place
    → find (is_job job) rows ≡ slice_get rows place
find_from first [] are place job is = refl
find_from first (row ∷ rows) are zero job is = let here = are.0 in grind (arith, nat_tests)
find_from first (row ∷ rows) are (suc place) job is =
    let here = are.0 in
    let rest = find_from (suc first) rows are.1 place job (omega (arith, is)) in
    grind (arith, nat_tests)

pub numbered_from : (first : ℕ) (rows : List JobRow) → AreFrom first rows → map (λ row. row.job.number) rows ≡ range_with_len first (length rows)
numbered_from first [] are = refl
numbered_from first (row ∷ rows) are =
    let here = are.0 in
    let rest = numbered_from (suc first) rows are.1 in
    grind (arith, here, rest)

pub before_from : (f : JobRow → JobRow) (first : ℕ) (rows : List JobRow) → AreFrom first rows → (job : ℕ) → job < first
    → changed (is_job job) f rows ≡ rows
before_from f first [] are job below = refl
before_from f first (row ∷ rows) are job below =
    let here = are.0 in
    let rest = before_from f (suc first) rows are.1 job (omega (arith, below)) in
    grind (arith, nat_tests)

pub set_from : (f : JobRow → JobRow) (first : ℕ) (rows : List JobRow) → AreFrom first rows → (place job : ℕ) (d : JobRow) → job ≡ first + place
    → place < length rows → set rows place (f (get_or rows place d)) ≡ changed (is_job job) f rows
set_from f first [] are place job d is below = refl
set_from f first (row ∷ rows) are zero job d is below =
    let here = are.0 in
    let rest = before_from f (suc first) rows are.1 job (omega (arith, is)) in
    grind (arith, nat_tests)
set_from f first (row ∷ rows) are (suc place) job d is below =
    let here = are.0 in
    let rest = set_from f (suc first) rows are.1 place job d (omega (arith, is)) (omega (arith, below)) in
    grind (arith, nat_tests)

at_end : {X : Type 0} (before : List X) (x : X) (rest : List X) → slice_get (before ++ x ∷ rest) (length before) ≡ Some x
at_end [] x rest = refl
at_end (y ∷ before) x rest = at_end before x rest

-- each row stands at its number
there_from : (before rows : List JobRow) → AreFrom (length before) rows
    → AllByRecursion (λ (row : JobRow). slice_get (before ++ rows) row.job.number ≡ Some row) rows
there_from before [] are = tt
there_from before (row ∷ rows) are =
    let longer : length (before ++ row ∷ []) ≡ suc (length before) = let sum = length-append before (row ∷ []) in omega (arith, sum) in (
      ap (slice_get (before ++ row ∷ rows)) are.0 ∙ at_end before row rows,
      subst (λ (all : List JobRow). AllByRecursion (λ (r : JobRow). slice_get all r.job.number ≡ Some r) rows) (append_assoc before (row ∷ []) rows)
          (there_from (before ++ row ∷ []) rows (subst (λ n. AreFrom n rows) (sym longer) are.1)),
    )

pub each_there : (rows : List JobRow) → AreFrom 0 rows → AllByRecursion (λ (row : JobRow). slice_get rows row.job.number ≡ Some row) rows
each_there rows are = there_from [] rows are
