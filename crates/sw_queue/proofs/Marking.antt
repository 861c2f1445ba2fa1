-- Which jobs are ready: what the flags tell of the rows, and that each change of the rows changes them so.
use Rattle.std.proofs.Common.{◌≡◌, ◌∙◌, ℕ, suc, ◌+◌, ◌<◌, Bool, true, false, not, ◌&&◌, ◌==◌, List, [], ◌∷◌, ◌++◌, map, length, set, Option, Some, slice_get, refl, sym, ap, subst, arith, if◌then◌else◌}
use Rattle.std.specs.Prelude.{bytes_eq, is_none, ◌-◌}
use Rattle.std.specs.Option.{option_map_or}
use Rattle.std.proofs.lemmas.Bool.Decides.{nat_tests}
use Rattle.std.proofs.lemmas.List.{length-map, map-append}
use Rattle.sw_data.specs.declared.rows.JobPhase.{JobPhase}
use Rattle.sw_data.specs.declared.rows.JobPhase.TheVariants as job_phase
use Rattle.sw_data.specs.declared.rows.JobRow.{JobRow}
use Rattle.sw_rules.specs.Rows.{changed, first_job, is_in_phase, is_done, is_evaluating, is_fetching, is_first, is_installing, is_unfinished, is_waiting}
use Rattle.sw_list.proofs.Placing.{flags_set}
use Rattle.sw_queue.specs.Kept.{AreFrom, IsQueued, number}
use Rattle.sw_queue.specs.Lines.{Keyed, line_in}
use Rattle.sw_queue.specs.Ready.{AreMarked, HasFlags, Ready, is_head, may_start, beyond_waiting}
use Rattle.sw_queue.specs.Tables.{is_under_way}
use Rattle.sw_queue.proofs.Heads.{first_by}
use Rattle.sw_queue.proofs.Reading.{first_number}
use Rattle.sw_queue.proofs.Running.{found_at, waits_not}

-- the job of a number stands first
abbrev pub is_at : ℕ → Option ℕ → Bool
is_at own head = option_map_or (λ n. n == own) head false

-- ---- what the flags tell

-- the first of a line is the first of its queue
pub starting_told : (rows : List JobRow) (lists : List (List ℕ)) (lines : Keyed) (ready : Ready) → IsQueued rows lists lines → AreMarked rows lines ready
    → map (λ row. is_in_phase is_waiting row && is_first rows row) rows ≡ ready.starting
starting_told rows lists lines ready kept marked = (λ i. map (λ row. is_in_phase is_waiting row && head row i) rows) ∙ marked.starting
  where
    head : (row : JobRow) → is_first rows row ≡ is_head lines row.job
    head row =
        first_by rows row
        ∙ sym (ap (is_at (number row)) (first_number rows lists lines kept row.job.key row.job.scope))

-- each job has its flags
pub flags_there : (rows : List JobRow) (lines : Keyed) (ready : Ready) (place : ℕ) → AreMarked rows lines ready → place < length rows → HasFlags place ready
flags_there rows lines ready place marked below = record {
  starting = many (may_start lines) ready.starting marked.starting;
  fetching = many (is_in_phase is_fetching) ready.fetching marked.fetching;
  evaluating = many (is_in_phase is_evaluating) ready.evaluating marked.evaluating;
  installing = many (is_in_phase is_installing) ready.installing marked.installing;
}
  where
    many : (test : JobRow → Bool) (flags : List Bool) → map test rows ≡ flags → place < length flags
    many test flags are = omega (arith, below, length-map rows test, ap length are)

-- ---- a job is past waiting

pub starts_not : (lines : Keyed) (row : JobRow) → is_waiting row.phase ≡ false → may_start lines row ≡ false
starts_not lines row past = (λ i. is_none row.leader && past i && is_head lines row.job) ∙ by (is_none row.leader)
  where
    by : (alone : Bool) → (alone && false && is_head lines row.job) ≡ false
    by true = refl
    by false = refl

in_phase_is : (test : JobPhase → Bool) (row : JobRow) → is_none row.leader ≡ true → test row.phase ≡ is_in_phase test row
in_phase_is test row alone = λ i. sym alone i && test row.phase

-- the rest of the flags, once the row of a place is in another phase
pub marked_moved : (rows : List JobRow) (lines : Keyed) (ready : Ready) (place : ℕ) (new : JobRow) → AreMarked rows lines ready
    → is_none new.leader ≡ true → is_waiting new.phase ≡ false → AreMarked (set rows place new) lines (beyond_waiting place new.phase ready)
marked_moved rows lines ready place new marked alone past = record {
  starting = flags_set (may_start lines) rows ready.starting place new false marked.starting (sym (starts_not lines new past));
  fetching = flags_set (is_in_phase is_fetching) rows ready.fetching place new _ marked.fetching (in_phase_is is_fetching new alone);
  evaluating = flags_set (is_in_phase is_evaluating) rows ready.evaluating place new _ marked.evaluating (in_phase_is is_evaluating new alone);
  installing = flags_set (is_in_phase is_installing) rows ready.installing place new _ marked.installing (in_phase_is is_installing new alone);
}

-- what is under way doesn't wait
pub waits_no : (phase : JobPhase) → is_under_way phase ≡ true → is_waiting phase ≡ false
waits_no phase runs = by (is_waiting phase) (waits_not phase runs)
  where
    by : (waits : Bool) → not waits ≡ true → waits ≡ false
    by true never = absurd cc
    by false is = refl

-- the first job of a queue joined no other
pub joined_none : (rows : List JobRow) → AreFrom 0 rows → (key scope : List ℕ) (row : JobRow) → first_job key scope rows ≡ Some row
    → is_none row.leader ≡ true
joined_none rows are key scope row found =
    by (is_none row.leader) (not (is_done row.phase)) (bytes_eq row.job.key key) (bytes_eq row.job.scope scope)
    (found_at rows are (λ r. is_unfinished r && bytes_eq r.job.key key && bytes_eq r.job.scope scope) row found).1
  where
    by : (alone open_yet one two : Bool) → ((alone && open_yet) && one && two) ≡ true → alone ≡ true
    by true open_yet one two passes = refl
    by false open_yet one two passes = absurd cc

-- ---- promises settle

-- a change that a test doesn't see
map_changed : (test passes : JobRow → Bool) (f : JobRow → JobRow) → ((row : JobRow) → test (f row) ≡ test row) → (rows : List JobRow)
    → map test (changed passes f rows) ≡ map test rows
map_changed test passes f unseen [] = refl
map_changed test passes f unseen (row ∷ rows) = λ i. by (passes row) i ∷ map_changed test passes f unseen rows i
  where
    by : (b : Bool) → test (if b then f row else row) ≡ test row
    by true = unseen row
    by false = refl

pub marked_changed : (rows : List JobRow) (lines : Keyed) (ready : Ready) (passes : JobRow → Bool) (f : JobRow → JobRow) → AreMarked rows lines ready
    → ((row : JobRow) → (f row).job ≡ row.job) → ((row : JobRow) → (f row).leader ≡ row.leader) → ((row : JobRow) → (f row).phase ≡ row.phase)
    → AreMarked (changed passes f rows) lines ready
marked_changed rows lines ready passes f marked job leader phase = record {
  starting =
      map_changed (may_start lines) passes f (λ row i. (is_none (leader row i) && is_waiting (phase row i)) && is_head lines (job row i)) rows
      ∙ marked.starting;
  fetching = in_same is_fetching ∙ marked.fetching;
  evaluating = in_same is_evaluating ∙ marked.evaluating;
  installing = in_same is_installing ∙ marked.installing;
}
  where
    in_same : (test : JobPhase → Bool) → map (is_in_phase test) (changed passes f rows) ≡ map (is_in_phase test) rows
    in_same test = map_changed (is_in_phase test) passes f (λ row i. is_none (leader row i) && test (phase row i)) rows

-- ---- one more job

-- two tests that tell the same of each row
map_from : (test other : JobRow → Bool) (first end : ℕ) (rows : List JobRow) → AreFrom first rows → first + length rows ≡ end
    → ((row : JobRow) → number row < end → test row ≡ other row) → map test rows ≡ map other rows
map_from test other first end [] are is same = refl
map_from test other first end (row ∷ rows) are is same =
    let here = are.0 in
    let one = same row (omega (arith, here, is)) in
    let rest = map_from test other (suc first) end rows are.1 (omega (arith, is)) same in
    λ i. one i ∷ rest i

-- a number that comes last is the first of a line only where none was there
head_more : (numbers : List ℕ) (new own : ℕ) → own < new → is_at own (slice_get (numbers ++ new ∷ []) 0) ≡ is_at own (slice_get numbers 0)
head_more [] new own before = grind (arith, nat_tests, before)
head_more (n ∷ numbers) new own before = refl

pub starting_more : (rows : List JobRow) (lines after : Keyed) (new : JobRow) → AreFrom 0 rows → number new ≡ length rows
    → ((key scope : List ℕ) → (line_in after key scope).numbers
    ≡ (if bytes_eq new.job.key key && bytes_eq new.job.scope scope then (line_in lines key scope).numbers ++ number new ∷ []
    else (line_in lines key scope).numbers))
    → map (may_start after) rows ≡ map (may_start lines) rows
starting_more rows lines after new are is added =
    map_from (may_start after) (may_start lines) 0 (length rows) rows are (omega arith)
    (λ row below i. is_in_phase is_waiting row && head row below i)
  where
    by : (here : Bool) (numbers : List ℕ) (own : ℕ) → own < number new
        → is_at own (slice_get (if here then numbers ++ number new ∷ [] else numbers) 0) ≡ is_at own (slice_get numbers 0)
    by true numbers own before = head_more numbers (number new) own before
    by false numbers own before = refl

    head : (row : JobRow) → number row < length rows → is_head after row.job ≡ is_head lines row.job
    head row below =
        ap (λ (numbers : List ℕ). is_at (number row) (slice_get numbers 0)) (added row.job.key row.job.scope)
        ∙ by (bytes_eq new.job.key row.job.key && bytes_eq new.job.scope row.job.scope) (line_in lines row.job.key row.job.scope).numbers (number row)
        (omega (arith, below, is))

pub marked_more : (rows others : List JobRow) (lines after : Keyed) (ready was more : Ready) (new : JobRow) (starts : Bool) → AreMarked rows lines ready
    → map (may_start after) rows ≡ map (may_start lines) rows → is_waiting new.phase ≡ true → starts ≡ may_start after new → was ≡ ready
    → others ≡ rows ++ new ∷ []
    → more ≡ record {
      starting = was.starting ++ starts ∷ [];
      fetching = was.fetching ++ false ∷ [];
      evaluating = was.evaluating ++ false ∷ [];
      installing = was.installing ++ false ∷ [];
      spare = was.spare - 1;
    }
    → AreMarked others after more
marked_more rows others lines after ready was more new starts marked same waits starts_is was_is rows_are is =
    subst (λ (rs : List JobRow). AreMarked rs after more) (sym rows_are)
    (subst (AreMarked (rows ++ new ∷ []) after) (sym is)
    (record {
      starting = added (may_start after) was.starting starts (same ∙ marked.starting ∙ ap (λ (r : Ready). r.starting) (sym was_is)) (sym starts_is);
      fetching = added (is_in_phase is_fetching) was.fetching false (marked.fetching ∙ ap (λ (r : Ready). r.fetching) (sym was_is)) (others_not new.phase waits (is_none new.leader)).0;
      evaluating = added (is_in_phase is_evaluating) was.evaluating false (marked.evaluating ∙ ap (λ (r : Ready). r.evaluating) (sym was_is)) (others_not new.phase waits (is_none new.leader)).1;
      installing = added (is_in_phase is_installing) was.installing false (marked.installing ∙ ap (λ (r : Ready). r.installing) (sym was_is)) (others_not new.phase waits (is_none new.leader)).2;
    }))
  where
    added : (test : JobRow → Bool) (flags : List Bool) (flag : Bool) → map test rows ≡ flags → test new ≡ flag
        → map test (rows ++ new ∷ []) ≡ flags ++ flag ∷ []
    added test flags flag are is_flag = map-append test rows (new ∷ []) ∙ (λ i. are i ++ is_flag i ∷ [])

    others_not : (phase : JobPhase) → is_waiting phase ≡ true → (alone : Bool)
        → ((alone && is_fetching phase) ≡ false) × ((alone && is_evaluating phase) ≡ false) × ((alone && is_installing phase) ≡ false)
    others_not job_phase.Waiting is true = (refl, refl, refl)
    others_not job_phase.Waiting is false = (refl, refl, refl)
    others_not job_phase.Fetching is alone = absurd cc
    others_not job_phase.Evaluating is alone = absurd cc
    others_not job_phase.Installing is alone = absurd cc
    others_not job_phase.Done is alone = absurd cc
