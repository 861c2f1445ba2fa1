-- What is told of a job and of those that joined it, one after the other.
use Rattle.std.proofs.Common.{◌≡◌, ◌∙◌, ℕ, suc, ◌+◌, ◌<◌, Bool, true, false, List, [], ◌∷◌, ◌++◌, map, filter, length, get_or, take, Option, Some, None, slice_get, refl, sym, ap, arith, if◌then◌else◌}
use Rattle.std.specs.Prelude.{◌&&◌, ◌||◌, is_none, nat_lt}
use Rattle.std.specs.List.{AllByRecursion, find, flat_map, list_all}
use Rattle.std.specs.Option.{option_map_or}
use Rattle.std.proofs.lemmas.Bool.{and_parts}
use Rattle.std.proofs.lemmas.Bool.Decides.{nat_tests}
use Rattle.std.proofs.lemmas.List.{flat_map_more, take_more}
use Rattle.std.proofs.lemmas.Option.{slice_get_read}
use Rattle.sw_data.specs.declared.answers.Notice.{Notice}
use Rattle.sw_data.specs.declared.answers.Notice.TheVariants as notice
use Rattle.sw_data.specs.declared.answers.Settlement.{Settlement}
use Rattle.sw_data.specs.declared.rows.JobRow.{JobRow}
use Rattle.sw_rules.specs.Jobs.{gets_value}
use Rattle.sw_rules.specs.Rows.{is_job, is_number}
use Rattle.sw_queue.specs.Kept.{AreFrom, IsQueued, followers_of, is_led_before, number}
use Rattle.sw_queue.specs.Lines.{Keyed}
use Rattle.sw_queue.specs.Tables.{told_at, told_of}
use Rattle.sw_queue.proofs.Places.{each_there, find_from}

-- the row at a place is told
pub told_there : (result : Settlement) (rows : List JobRow) (place : ℕ) (row : JobRow) → row ≡ get_or rows place row → place < length rows
    → told_of result row ≡ told_at result rows place
told_there result rows place row here below =
    sym (ap (λ (o : Option JobRow). option_map_or (told_of result) o []) (slice_get_read rows (length rows) place row refl below here))

-- one more job is told
pub told_next : (result : Settlement) (rows : List JobRow) (jobs : List ℕ) (i d : ℕ) (row : JobRow) (before so_far after : List Notice) → i < length jobs
    → get_or jobs i d < length rows → row ≡ get_or rows (get_or jobs i d) row → so_far ≡ before ++ flat_map (told_at result rows) (take i jobs)
    → after ≡ so_far ++ told_of result row → after ≡ before ++ flat_map (told_at result rows) (take (i + 1) jobs)
told_next result rows jobs i d row before so_far after inside below here told is =
    is
    ∙ ((λ j. told j ++ told_there result rows (get_or jobs i d) row here below j)
    ∙ (flat_map_more (told_at result rows) before (take i jobs) (get_or jobs i d)
    ∙ ap (λ (js : List ℕ). before ++ flat_map (told_at result rows) js) (sym (take_more jobs i d inside))))

module _ (result : Settlement) (job : ℕ) where
  abbrev follows : JobRow → Bool
  follows row = is_number row.leader job

  -- the notices of those that get the value and have a client
  abbrev told : List JobRow → List Notice
  told rows = map (λ row. notice.Settled row.job.number result) (filter (λ row. gets_value job row && row.job.has_client) rows)

  of_row : (gets : Bool) (row : JobRow) (rest : List JobRow) → map (λ (r : JobRow). notice.Settled r.job.number result) (if gets then row ∷ rest else rest)
      ≡ (if gets then notice.Settled row.job.number result ∷ [] else []) ++ map (λ (r : JobRow). notice.Settled r.job.number result) rest
  of_row true row rest = refl
  of_row false row rest = refl

  -- who this job is, or follows it, or neither
  told_row : (row : JobRow) (rows : List JobRow) (is joins : Bool) → is_job job row ≡ is → follows row ≡ joins
      → told (row ∷ rows) ≡ (if is || joins then told_of result row else []) ++ told rows
  told_row row rows is joins one two =
      of_row (gets_value job row && row.job.has_client) row (filter (λ r. gets_value job r && r.job.has_client) rows)
      ∙ ap (λ (notices : List Notice). notices ++ told rows)
      ((λ i. if ((one i || two i) && is_none row.settled) && row.job.has_client then notice.Settled row.job.number result ∷ [] else [])
      ∙ by (is || joins) (is_none row.settled) row.job.has_client)
    where
      by : (gets open_yet client : Bool) → (if (gets && open_yet) && client then notice.Settled row.job.number result ∷ [] else [])
          ≡ (if gets then (if open_yet && client then notice.Settled row.job.number result ∷ [] else []) else [])
      by true open_yet client = refl
      by false open_yet client = refl

  abbrev told_followers : List JobRow → List Notice
  told_followers rows = flat_map (told_of result) (filter follows rows)

  joined_row : (row : JobRow) (rows : List JobRow) (joins : Bool) → follows row ≡ joins
      → told_followers (row ∷ rows) ≡ (if joins then told_of result row else []) ++ told_followers rows
  joined_row row rows joins is = ap (λ (t : Bool). flat_map (told_of result) (if t then row ∷ filter follows rows else filter follows rows)) is ∙ by joins
    where
      by : (t : Bool) → flat_map (told_of result) (if t then row ∷ filter follows rows else filter follows rows)
          ≡ (if t then told_of result row else []) ++ told_followers rows
      by true = refl
      by false = refl

  -- behind the job stand none but those that joined it
  behind : (first : ℕ) (rows : List JobRow) → AreFrom first rows → job < first → told_followers rows ≡ told rows
  behind first [] are below = refl
  behind first (row ∷ rows) are below =
      joined_row row rows (follows row) refl
      ∙ (ap (λ (notices : List Notice). (if follows row then told_of result row else []) ++ notices) (behind (suc first) rows are.1 (omega (arith, below)))
      ∙ sym (told_row row rows false (follows row) other refl))
    where
      other : is_job job row ≡ false
      other = let here = are.0 in grind (arith, nat_tests, here, below)

  none_behind : (first : ℕ) (rows : List JobRow) → AreFrom first rows → job < first → find (is_job job) rows ≡ None
  none_behind first [] are below = refl
  none_behind first (row ∷ rows) are below =
      let here = are.0 in
      let rest = none_behind (suc first) rows are.1 (omega (arith, below)) in
      grind (arith, nat_tests, here, below, rest)

  -- a job was scheduled before those that joined it
  led_before : (row : JobRow) → is_led_before row ≡ true → follows row ≡ true → job < number row
  led_before row led joins = by row.leader led joins
    where
      by : (leader : Option ℕ) → option_map_or (λ n. nat_lt n (number row)) leader true ≡ true → is_number leader job ≡ true → job < number row
      by None led never = absurd cc
      by (Some n) led same = grind (arith, nat_tests, led, same)

  told_from : (first : ℕ) (rows : List JobRow) → AreFrom first rows → list_all is_led_before rows ≡ true
      → option_map_or (told_of result) (find (is_job job) rows) [] ++ told_followers rows ≡ told rows
  told_from first [] are led = refl
  told_from first (row ∷ rows) are led =
      by (is_job job row) (follows row) refl refl (told_from (suc first) rows are.1 (and_parts (is_led_before row) (list_all is_led_before rows) led).1)
    where
      later : follows row ≡ true → job < number row
      later = led_before row (and_parts (is_led_before row) (list_all is_led_before rows) led).0

      by : (is joins : Bool) → is_job job row ≡ is → follows row ≡ joins
          → option_map_or (told_of result) (find (is_job job) rows) [] ++ told_followers rows ≡ told rows
          → option_map_or (told_of result) (if is then Some row else find (is_job job) rows) [] ++ told_followers (row ∷ rows) ≡ told (row ∷ rows)
      by true false one two rest =
          ap (λ (notices : List Notice). told_of result row ++ notices)
          (joined_row row rows false two
          ∙ behind (suc first) rows are.1 (let here = are.0 in let same : number row ≡ job = grind (arith, nat_tests, one) in omega (arith, here, same)))
          ∙ sym (told_row row rows true false one two)
      by true true one two rest =
          absurd (let before = later two in let same : number row ≡ job = grind (arith, nat_tests, one) in omega (arith, before, same))
      by false true one two rest =
          ap (λ (o : Option JobRow). option_map_or (told_of result) o [] ++ told_followers (row ∷ rows))
          (none_behind (suc first) rows are.1 (let before = later two in let here = are.0 in omega (arith, before, here)))
          ∙ behind first (row ∷ rows) are (let before = later two in let here = are.0 in omega (arith, before, here))
      by false false one two rest =
          ap (λ (notices : List Notice). option_map_or (told_of result) (find (is_job job) rows) [] ++ notices) (joined_row row rows false two)
          ∙ (rest
          ∙ sym (told_row row rows false false one two))

-- the numbers of rows that stand at their numbers
told_numbers : (result : Settlement) (test : JobRow → Bool) (all rows : List JobRow)
    → AllByRecursion (λ (row : JobRow). slice_get all row.job.number ≡ Some row) rows
    → flat_map (told_at result all) (map number (filter test rows)) ≡ flat_map (told_of result) (filter test rows)
told_numbers result test all [] there = refl
told_numbers result test all (row ∷ rows) there = by (test row) (told_numbers result test all rows there.1)
  where
    by : (passes : Bool) → flat_map (told_at result all) (map number (filter test rows)) ≡ flat_map (told_of result) (filter test rows)
        → flat_map (told_at result all) (map number (if passes then row ∷ filter test rows else filter test rows))
        ≡ flat_map (told_of result) (if passes then row ∷ filter test rows else filter test rows)
    by true rest = λ i. option_map_or (told_of result) (there.0 i) [] ++ rest i
    by false rest = rest

pub told_whole : (result : Settlement) (rows : List JobRow) (lists : List (List ℕ)) (lines : Keyed) → IsQueued rows lists lines → (job : ℕ)
    → told_at result rows job ++ flat_map (told_at result rows) (followers_of job rows)
    ≡ map (λ row. notice.Settled row.job.number result) (filter (λ row. gets_value job row && row.job.has_client) rows)
told_whole result rows lists lines kept job =
    (λ i. option_map_or (told_of result) (sym (find_from 0 rows kept.numbers job job (omega arith)) i) []
    ++ told_numbers result (λ row. is_number row.leader job) rows rows (each_there rows kept.numbers) i)
    ∙ told_from result job 0 rows kept.numbers kept.leaders
