-- The promises of a job and of its followers settle, one after the other.
use Rattle.std.proofs.Common.{◌≡◌, ◌∙◌, ℕ, suc, ◌+◌, ◌<◌, ◌≤◌, Bool, true, false, List, [], ◌∷◌, map, filter, length, set, get_or, take, Some, refl, sym, ap, subst, arith, if◌then◌else◌}
use Rattle.std.specs.Prelude.{◌&&◌, ◌||◌, ◌==◌, is_none}
use Rattle.std.specs.List.{All, AllByRecursion}
use Rattle.std.proofs.lemmas.List.Elements.{All-from_recursion}
use Rattle.std.proofs.lemmas.Bool.Decides.{nat_tests}
use Rattle.std.proofs.lemmas.List.{length-map, take_more}
use Rattle.std.proofs.lemmas.List.Sums.{fold-append}
use Rattle.sw_data.specs.declared.answers.Settlement.{Settlement}
use Rattle.sw_data.specs.declared.rows.JobRow.{JobRow}
use Rattle.sw_rules.specs.Jobs.{gets_value}
use Rattle.sw_rules.specs.Rows.{changed, is_job, is_number}
use Rattle.sw_queue.specs.Kept.{AreFrom, IsQueued, followers_of, number}
use Rattle.sw_queue.specs.Lines.{Keyed}
use Rattle.sw_queue.specs.Tables.{given, settled_all}
use Rattle.sw_queue.proofs.Alike.{AreBy, IsAlike, from_alike, kept_alike, length_alike, map_alike, same_rows}
use Rattle.sw_queue.proofs.Places.{before_from, set_from}

-- a row keeps its job
given_alike : (result : Settlement) (row : JobRow) → IsAlike row (given result row)
given_alike result row = by (is_none row.settled)
  where
    by : (open_yet : Bool) → IsAlike row (if open_yet then record row { settled = Some result } else row)
    by true = record { same = record { job = refl; leader = refl }; done = refl }
    by false = record { same = record { job = refl; leader = refl }; done = refl }

given_number : (result : Settlement) (row : JobRow) → number (given result row) ≡ number row
given_number result row = ap (λ job. job.number) (given_alike result row).same.job

-- numbers of later rows are greater
later_numbers : (test : JobRow → Bool) (first : ℕ) (rows : List JobRow) → AreFrom first rows
    → AllByRecursion (λ n. first ≤ n) (map number (filter test rows))
later_numbers test first [] are = tt
later_numbers test first (row ∷ rows) are = by (test row) (weaker (map number (filter test rows)) (later_numbers test (suc first) rows are.1))
  where
    weaker : (numbers : List ℕ) → AllByRecursion (λ n. suc first ≤ n) numbers → AllByRecursion (λ n. first ≤ n) numbers
    weaker [] all = tt
    weaker (n ∷ numbers) all = (let one = all.0 in omega (arith, one), weaker numbers all.1)

    by : (passes : Bool) → AllByRecursion (λ n. first ≤ n) (map number (filter test rows))
        → AllByRecursion (λ n. first ≤ n) (map number (if passes then row ∷ filter test rows else filter test rows))
    by true all = (let here = are.0 in omega (arith, here), all)
    by false all = all

-- jobs behind a row leave it
settled_behind : (result : Settlement) (row : JobRow) (rows : List JobRow) (jobs : List ℕ) → AllByRecursion (λ n. suc (number row) ≤ n) jobs
    → settled_all result (row ∷ rows) jobs ≡ row ∷ settled_all result rows jobs
settled_behind result row rows [] all = refl
settled_behind result row rows (job ∷ jobs) all =
    ap (λ (is : Bool). settled_all result ((if is then given result row else row) ∷ changed (is_job job) (given result) rows) jobs) other
    ∙ settled_behind result row (changed (is_job job) (given result) rows) jobs all.1
  where
    other : is_job job row ≡ false
    other = let one = all.0 in grind (arith, nat_tests, one)

-- the jobs that pass settle
settled_passing : (result : Settlement) (test : JobRow → Bool) (first : ℕ) (rows : List JobRow) → AreFrom first rows
    → settled_all result rows (map number (filter test rows)) ≡ changed test (given result) rows
settled_passing result test first [] are = refl
settled_passing result test first (row ∷ rows) are = by (test row) (settled_passing result test (suc first) rows are.1)
  where
    behind : (other : JobRow) → number other ≡ number row → AllByRecursion (λ n. suc (number other) ≤ n) (map number (filter test rows))
    behind other same = subst (λ k. AllByRecursion (λ n. suc k ≤ n) (map number (filter test rows))) (sym (same ∙ are.0)) (later_numbers test (suc first) rows are.1)

    itself : is_job (number row) row ≡ true
    itself = grind (arith, nat_tests)

    by : (passes : Bool) → settled_all result rows (map number (filter test rows)) ≡ changed test (given result) rows
        → settled_all result (row ∷ rows) (map number (if passes then row ∷ filter test rows else filter test rows))
        ≡ (if passes then given result row else row) ∷ changed test (given result) rows
    by true rest =
        (λ i. settled_all result ((if itself i then given result row else row)
        ∷ before_from (given result) (suc first) rows are.1 (number row) (let here = are.0 in omega (arith, here)) i) (map number (filter test rows)))
        ∙ (settled_behind result (given result row) rows (map number (filter test rows)) (behind (given result row) (given_number result row))
        ∙ ap (λ (others : List JobRow). given result row ∷ others) rest)
    by false rest = settled_behind result row rows (map number (filter test rows)) (behind row refl) ∙ ap (λ (others : List JobRow). row ∷ others) rest

-- the job itself and its followers
settled_row : (result : Settlement) (job : ℕ) (row : JobRow)
    → (let followed = (if is_number row.leader job then given result row else row) in if is_job job followed then given result followed else followed)
    ≡ (if gets_value job row then record row { settled = Some result } else row)
settled_row result job row = by (is_number row.leader job) (is_none row.settled) (row.job.number == job) refl
  where
    settled : JobRow
    settled = record row { settled = Some result }

    itself : (is : Bool) → (if is then settled else settled) ≡ (if (is || true) && true then settled else row)
    itself true = refl
    itself false = refl

    alone : (is open_yet follows : Bool) → is_none row.settled ≡ open_yet → (follows && open_yet) ≡ false
        → (if is then (if is_none row.settled then settled else row) else row) ≡ (if (is || follows) && open_yet then settled else row)
    alone true true false same free = ap (λ (b : Bool). if b then settled else row) same
    alone true false true same free = ap (λ (b : Bool). if b then settled else row) same
    alone true false false same free = ap (λ (b : Bool). if b then settled else row) same
    alone false true false same free = refl
    alone false false true same free = refl
    alone false false false same free = refl
    alone true true true same free = absurd cc
    alone false true true same free = absurd cc

    by : (follows open_yet is : Bool) → is_none row.settled ≡ open_yet
        → (let followed = (if follows then (if open_yet then settled else row) else row) in
        if is_job job followed then (if is_none followed.settled then record followed { settled = Some result } else followed) else followed)
        ≡ (if ((row.job.number == job) || follows) && open_yet then settled else row)
    by true true is same = itself (row.job.number == job)
    by true false is same = alone (row.job.number == job) false true same refl
    by false open_yet is same = alone (row.job.number == job) open_yet false same refl

settled_rows : (result : Settlement) (job : ℕ) (rows : List JobRow)
    → changed (is_job job) (given result) (changed (λ row. is_number row.leader job) (given result) rows)
    ≡ changed (gets_value job) (λ row. record row { settled = Some result }) rows
settled_rows result job [] = refl
settled_rows result job (row ∷ rows) = let one = settled_row result job row in let rest = settled_rows result job rows in λ i. one i ∷ rest i

-- ---- rows that settle stay alike

chosen_alike : (f : JobRow → JobRow) → ((row : JobRow) → IsAlike row (f row)) → (test : Bool) (row : JobRow) → IsAlike row (if test then f row else row)
chosen_alike f alike true row = alike row
chosen_alike f alike false row = record { same = record { job = refl; leader = refl }; done = refl }

changed_alike : (test : JobRow → Bool) (f : JobRow → JobRow) → ((row : JobRow) → IsAlike row (f row)) → (rows : List JobRow) → AreBy IsAlike rows (changed test f rows)
changed_alike test f alike rows = map_alike IsAlike (λ row. if test row then f row else row) (λ row. chosen_alike f alike (test row) row) rows

from_settled : (result : Settlement) (rows : List JobRow) (jobs : List ℕ) → AreFrom 0 rows → AreFrom 0 (settled_all result rows jobs)
from_settled result rows [] are = are
from_settled result rows (job ∷ jobs) are =
    from_settled result (changed (is_job job) (given result) rows) jobs
    (from_alike 0 rows (changed (is_job job) (given result) rows)
    (same_rows rows (changed (is_job job) (given result) rows) (changed_alike (is_job job) (given result) (given_alike result) rows)) are)

pub length_settled : (result : Settlement) (rows : List JobRow) (jobs : List ℕ) → length (settled_all result rows jobs) ≡ length rows
length_settled result rows [] = refl
length_settled result rows (job ∷ jobs) =
    length_settled result (changed (is_job job) (given result) rows) jobs
    ∙ length_alike IsAlike rows (changed (is_job job) (given result) rows) (changed_alike (is_job job) (given result) (given_alike result) rows)

-- one more job settles
pub settled_next : (result : Settlement) (rows done : List JobRow) (jobs : List ℕ) (i d : ℕ) (old new : JobRow) → AreFrom 0 rows → i < length jobs
    → done ≡ settled_all result rows (take i jobs) → get_or jobs i d < length rows → new ≡ given result (get_or done (get_or jobs i d) old)
    → set done (get_or jobs i d) new ≡ settled_all result rows (take (i + 1) jobs)
settled_next result rows done jobs i d old new are inside so_far below is =
    let job = get_or jobs i d in
    let from = subst (AreFrom 0) (sym so_far) (from_settled result rows (take i jobs) are) in
    let many = ap length so_far ∙ length_settled result rows (take i jobs) in
    let within : job < length done = omega (arith, below, many) in
    ap (set done job) is
    ∙ (set_from (given result) 0 done from job job old (omega arith) within
    ∙ (ap (changed (is_job job) (given result)) so_far
    ∙ (sym (fold-append (λ rs j. changed (is_job j) (given result) rs) rows (take i jobs) (job ∷ []))
    ∙ ap (settled_all result rows) (sym (take_more jobs i d inside)))))

-- the job itself settles at the end
pub settled_last : (result : Settlement) (rows done : List JobRow) (jobs : List ℕ) (job : ℕ) (old new : JobRow) → AreFrom 0 rows
    → done ≡ settled_all result rows jobs → job < length rows → new ≡ given result (get_or done job old)
    → set done job new ≡ changed (is_job job) (given result) (settled_all result rows jobs)
settled_last result rows done jobs job old new are so_far below is =
    let from = subst (AreFrom 0) (sym so_far) (from_settled result rows jobs are) in
    let many = ap length so_far ∙ length_settled result rows jobs in
    let within : job < length done = omega (arith, below, many) in
    ap (set done job) is
    ∙ (set_from (given result) 0 done from job job old (omega arith) within
    ∙ ap (changed (is_job job) (given result)) so_far)

-- ---- the whole table

-- the followers of a job are there
pub followers_below : (rows : List JobRow) → AreFrom 0 rows → (job : ℕ) → All (λ follower. follower < length rows) (followers_of job rows)
followers_below rows are job =
    All-from_recursion (λ n. n < length rows) (followers_of job rows) (below (λ row. is_number row.leader job) 0 rows are (length rows) (omega arith))
  where
    one_more : (passes : Bool) (end : ℕ) (row : JobRow) (others : List JobRow) → number row < end → AllByRecursion (λ n. n < end) (map number others)
        → AllByRecursion (λ n. n < end) (map number (if passes then row ∷ others else others))
    one_more true end row others one all = (one, all)
    one_more false end row others one all = all

    below : (test : JobRow → Bool) (first : ℕ) (some_rows : List JobRow) → AreFrom first some_rows → (end : ℕ) → first + length some_rows ≤ end
        → AllByRecursion (λ n. n < end) (map number (filter test some_rows))
    below test first [] from end inside = tt
    below test first (row ∷ rest) from end inside =
        one_more (test row) end row (filter test rest) (let here = from.0 in omega (arith, here, inside))
        (below test (suc first) rest from.1 end (omega (arith, inside)))

-- the rows that get the value, and as many as before
pub settled_whole : (result : Settlement) (rows seen done : List JobRow) (job : ℕ) (followers : List ℕ) → AreFrom 0 rows → seen ≡ rows
    → followers ≡ followers_of job rows → done ≡ changed (is_job job) (given result) (settled_all result seen followers)
    → (done ≡ changed (gets_value job) (λ row. record row { settled = Some result }) rows) × (length done ≡ length rows)
settled_whole result rows seen done job followers are one two is =
    let whole = is
    ∙ ((λ i. changed (is_job job) (given result) (settled_all result (one i) (two i)))
    ∙ (ap (changed (is_job job) (given result)) (settled_passing result (λ row. is_number row.leader job) 0 rows are) ∙ settled_rows result job rows)) in
    (whole, ap length whole ∙ length-map rows (λ row. if gets_value job row then record row { settled = Some result } else row))

pub kept_settled : (result : Settlement) (rows others : List JobRow) (lists : List (List ℕ)) (lines : Keyed) (job : ℕ) → IsQueued rows lists lines
    → others ≡ changed (gets_value job) (λ row. record row { settled = Some result }) rows → IsQueued others lists lines
kept_settled result rows others lists lines job kept is =
    subst (λ (r : List JobRow). IsQueued r lists lines) (sym is)
    (kept_alike rows (changed (gets_value job) (λ row. record row { settled = Some result }) rows) lists lines
    (changed_alike (gets_value job) (λ row. record row { settled = Some result })
    (λ row. record { same = record { job = refl; leader = refl }; done = refl }) rows) kept)
