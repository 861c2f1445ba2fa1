-- The rows of jobs that run: where they stand, and that a change of them keeps what is kept.
use Rattle.std.proofs.Common.{◌≡◌, ◌∙◌, ℕ, zero, suc, ◌+◌, ◌<◌, Bool, true, false, List, [], ◌∷◌, length, set, get_or, Option, Some, None, option_map, slice_get, refl, sym, ap, subst, arith, if◌then◌else◌}
use Rattle.std.specs.Prelude.{◌&&◌, bytes_eq, is_none, not, option_and_then}
use Rattle.std.specs.List.{AllByRecursion, find}
use Rattle.std.specs.Option.{option_map_or}
use Rattle.std.proofs.lemmas.Bool.Decides.{nat_tests}
use Rattle.std.proofs.lemmas.Option.{get_or_from_slice_get, slice_get-get_or, slice_get_within}
use Rattle.sw_data.specs.declared.rows.Job.{Job}
use Rattle.sw_data.specs.declared.rows.JobPhase.{JobPhase}
use Rattle.sw_data.specs.declared.rows.JobPhase.TheVariants as job_phase
use Rattle.sw_data.specs.declared.rows.JobRow.{JobRow}
use Rattle.sw_rules.specs.Jobs.{is_equivalent}
use Rattle.sw_rules.specs.Rows.{changed, first_job, is_done, is_first, is_job, is_unfinished, is_waiting, last_job, queue}
use Rattle.sw_queue.specs.Kept.{AreFrom, IsQueued, number}
use Rattle.sw_queue.specs.Lines.{Keyed}
use Rattle.sw_queue.specs.Tables.{Table, has_job, is_under_way, joined_in, ready_job}
use Rattle.sw_queue.proofs.Alike.{IsAlike, kept_alike, set_alike}
use Rattle.sw_queue.proofs.Places.{all-filter, all-last, each_there, find_from, set_from}

some_same : {X : Type 0} (one two : X) → Some one ≡ Some two → one ≡ two
some_same one two same = cc

-- what a scan finds passes, and has what all members have
find_by : {X : Type 0} (P : X → Type 0) (test : X → Bool) (xs : List X) (x : X) → AllByRecursion P xs → find test xs ≡ Some x → P x × (test x ≡ true)
find_by P test [] x all found = absurd cc
find_by P test (y ∷ ys) x all found = by (test y) refl (λ later. find_by P test ys x all.1 later) found
  where
    by : (passes : Bool) → test y ≡ passes → (find test ys ≡ Some x → P x × (test x ≡ true)) → (if passes then Some y else find test ys) ≡ Some x
        → P x × (test x ≡ true)
    by true is rest here = let same = some_same y x here in (subst P same all.0, ap test (sym same) ∙ is)
    by false is rest later = rest later

module _ (rows : List JobRow) (are : AreFrom 0 rows) where
  -- the job of a number is there and passes
  pub passing : (test : JobRow → Bool) (job : ℕ) → has_job test job rows ≡ true
      → (row : JobRow) × (slice_get rows job ≡ Some row) × (test row ≡ true)
  passing test job passes = by (slice_get rows job) refl (sym (ap (λ (o : Option JobRow). option_map_or test o false) (find_from 0 rows are job job (omega arith))) ∙ passes)
    where
      by : (found : Option JobRow) → slice_get rows job ≡ found → option_map_or test found false ≡ true
          → (row : JobRow) × (slice_get rows job ≡ Some row) × (test row ≡ true)
      by None is never = absurd cc
      by (Some row) is it = (row, is, it)

  pub passing_below : (test : JobRow → Bool) (job : ℕ) → has_job test job rows ≡ true → job < length rows
  passing_below test job passes = let it = passing test job passes in slice_get_within rows job it.0 it.1

  pub passing_row : (test : JobRow → Bool) (job : ℕ) → has_job test job rows ≡ true → (row : JobRow) → row ≡ get_or rows job row → test row ≡ true
  passing_row test job passes row here =
      let it = passing test job passes in
      ap test (here ∙ get_or_from_slice_get rows job it.0 row it.1) ∙ it.2

  -- a row that a scan finds stands at its number
  pub found_at : (test : JobRow → Bool) (row : JobRow) → find test rows ≡ Some row → (slice_get rows (number row) ≡ Some row) × (test row ≡ true)
  found_at test row found = find_by (λ (r : JobRow). slice_get rows (number r) ≡ Some r) test rows row (each_there rows are) found

  pub number_at : (first : ℕ) (some_rows : List JobRow) → AreFrom first some_rows → (place : ℕ) (d : JobRow) → place < length some_rows
      → number (get_or some_rows place d) ≡ first + place
  number_at first [] from place d below = absurd (omega (arith, below))
  number_at first (row ∷ rest) from zero d below = from.0 ∙ omega arith
  number_at first (row ∷ rest) from (suc place) d below =
      number_at (suc first) rest from.1 place d (omega (arith, below)) ∙ omega arith

  -- the first job of its queue
  pub first_is : (row : JobRow) (job : ℕ) → row ≡ get_or rows job row → job < length rows → is_first rows row ≡ true
      → first_job row.job.key row.job.scope rows ≡ Some row
  first_is row job here below first = by (first_job row.job.key row.job.scope rows) refl first
    where
      own : number row ≡ job
      own = ap number here ∙ (number_at 0 rows are job row below ∙ omega arith)

      stands : slice_get rows (number row) ≡ Some row
      stands = ap (slice_get rows) own ∙ slice_get-get_or rows job row below ∙ ap Some (sym here)

      by : (found : Option JobRow) → first_job row.job.key row.job.scope rows ≡ found → option_map_or (is_job (number row)) found false ≡ true
          → first_job row.job.key row.job.scope rows ≡ Some row
      by None is never = absurd cc
      by (Some other) is same =
          let one : number other ≡ number row = grind (arith, nat_tests, same) in
          let there = (found_at (λ r. is_unfinished r && bytes_eq r.job.key row.job.key && bytes_eq r.job.scope row.job.scope) other is).0 in
          is ∙ (sym there ∙ (ap (slice_get rows) one ∙ stands))

  -- the first job of a queue, by its number
  pub first_there : (key scope : List ℕ) (job : ℕ) → option_map number (first_job key scope rows) ≡ Some job
      → (job < length rows) × ((d : JobRow) → first_job key scope rows ≡ Some (get_or rows job d))
  first_there key scope job is = by (first_job key scope rows) refl is
    where
      by : (found : Option JobRow) → first_job key scope rows ≡ found → option_map number found ≡ Some job
          → (job < length rows) × ((d : JobRow) → first_job key scope rows ≡ Some (get_or rows job d))
      by None here never = absurd cc
      by (Some row) here same =
          let own = some_same (number row) job same in
          let there = ap (slice_get rows) (sym own) ∙ (found_at (λ r. is_unfinished r && bytes_eq r.job.key key && bytes_eq r.job.scope scope) row here).0 in
          (slice_get_within rows job row there, λ d. here ∙ ap Some (sym (get_or_from_slice_get rows job row d there)))

  -- the last job of a queue, by its number
  pub last_there : (key scope : List ℕ) (job : ℕ) → option_map number (last_job key scope rows) ≡ Some job
      → (job < length rows) × ((d : JobRow) → last_job key scope rows ≡ Some (get_or rows job d))
  last_there key scope job is = by (last_job key scope rows) refl is
    where
      by : (found : Option JobRow) → last_job key scope rows ≡ found → option_map number found ≡ Some job
          → (job < length rows) × ((d : JobRow) → last_job key scope rows ≡ Some (get_or rows job d))
      by None here never = absurd cc
      by (Some row) here same =
          let own = some_same (number row) job same in
          let stands = all-last (λ (r : JobRow). slice_get rows (number r) ≡ Some r) None (queue key scope rows) row
          (all-filter (λ (r : JobRow). slice_get rows (number r) ≡ Some r) (λ r. is_unfinished r && bytes_eq r.job.key key && bytes_eq r.job.scope scope) rows (each_there rows are))
          (λ never. absurd cc) here in
          let there = ap (slice_get rows) (sym own) ∙ stands in
          (slice_get_within rows job row there, λ d. here ∙ ap Some (sym (get_or_from_slice_get rows job row d there)))

  -- the first job of a queue isn't done
  pub not_done : (key scope : List ℕ) (row : JobRow) → first_job key scope rows ≡ Some row → is_done row.phase ≡ false
  not_done key scope row found =
      let passes = (found_at (λ r. is_unfinished r && bytes_eq r.job.key key && bytes_eq r.job.scope scope) row found).1 in
      by (is_none row.leader) (is_done row.phase) (bytes_eq row.job.key key) (bytes_eq row.job.scope scope) passes
    where
      by : (alone done one two : Bool) → (alone && not done && one && two) ≡ true → done ≡ false
      by alone false one two passes = refl
      by true true one two passes = absurd cc
      by false true one two passes = absurd cc

  -- a write at a place is a change of the job of that number
  pub rows_set : (f : JobRow → JobRow) (job : ℕ) (old : JobRow) → old ≡ get_or rows job old → job < length rows
      → set rows job (f old) ≡ changed (is_job job) f rows
  rows_set f job old here below = ap (λ (row : JobRow). set rows job (f row)) here ∙ set_from f 0 rows are job job old (omega arith) below

-- a change that leaves a row alike keeps what is kept
pub kept_set : (rows : List JobRow) (lists : List (List ℕ)) (lines : Keyed) → IsQueued rows lists lines → (job : ℕ) (old new : JobRow)
    → old ≡ get_or rows job old → new.job ≡ old.job → new.leader ≡ old.leader → is_done new.phase ≡ is_done old.phase
    → IsQueued (set rows job new) lists lines
kept_set rows lists lines kept job old new here one_job one_leader one_end =
    kept_alike rows (set rows job new) lists lines
    (set_alike IsAlike (λ row. record { same = record { job = refl; leader = refl }; done = refl }) rows job old new
    (subst (λ row. IsAlike row new) here (record { same = record { job = one_job; leader = one_leader }; done = one_end })))
    kept

-- a table with other rows and the same room
pub table_set : (view now : Table) (test : JobRow → Bool) (f : JobRow → JobRow) (rows : List JobRow) → view ≡ now → rows ≡ changed test f view.rows
    → record view { rows = rows } ≡ record now { rows = changed test f now.rows }
table_set view now test f rows is same =
    (λ i. record view { rows = same i }) ∙ (λ i. record (is i) { rows = changed test f (is i).rows })

-- what runs isn't done
pub runs_on : (phase : JobPhase) → is_under_way phase ≡ true → is_done phase ≡ false
runs_on job_phase.Waiting runs = refl
runs_on job_phase.Fetching runs = refl
runs_on job_phase.Evaluating runs = refl
runs_on job_phase.Installing runs = refl
runs_on job_phase.Done runs = absurd cc

-- nor does it wait
pub waits_not : (phase : JobPhase) → is_under_way phase ≡ true → not (is_waiting phase) ≡ true
waits_not job_phase.Waiting runs = absurd cc
waits_not job_phase.Fetching runs = refl
waits_not job_phase.Evaluating runs = refl
waits_not job_phase.Installing runs = refl
waits_not job_phase.Done runs = refl

-- the first job of a queue starts exactly where it waits
pub ready : (rows : List JobRow) (key scope : List ℕ) (row : JobRow) (job : ℕ) (waits : Bool) → first_job key scope rows ≡ Some row → number row ≡ job
    → is_waiting row.phase ≡ waits → ready_job key scope rows ≡ (if waits then Some job else None)
ready rows key scope row job waits first own is =
    ap (option_and_then (λ (r : JobRow). if is_waiting r.phase then Some (number r) else None)) first ∙ (λ i. if is i then Some (own i) else None)

-- a job joins the last of its queue exactly where it can
pub joined : (rows : List JobRow) → AreFrom 0 rows → (new : Job) (job : ℕ) (d : JobRow) (can : Bool)
    → option_map number (last_job new.key new.scope rows) ≡ Some job
    → can ≡ (is_equivalent new (get_or rows job d).job && is_none (get_or rows job d).settled)
    → (if can then Some job else None) ≡ joined_in rows new
joined rows are new job d can last is =
    let there = last_there rows are new.key new.scope job last in
    let own = number_at rows are 0 rows are job d there.0 ∙ omega arith in
    (λ i. if is i then Some (sym own i) else None)
    ∙ sym (ap (option_and_then (λ (r : JobRow). if is_equivalent new r.job && is_none r.settled then Some (number r) else None)) (there.1 d))

-- the job that a new job joins is there
pub joined_below : (rows : List JobRow) → AreFrom 0 rows → (new : Job) (leader : ℕ) → joined_in rows new ≡ Some leader → leader < length rows
joined_below rows are new leader is = by (last_job new.key new.scope rows) refl is
  where
    chosen : (row : JobRow) (can : Bool) → last_job new.key new.scope rows ≡ Some row → (if can then Some (number row) else None) ≡ Some leader → leader < length rows
    chosen row true last same =
        let below = (last_there rows are new.key new.scope (number row) (ap (option_map number) last)).0 in
        subst (λ n. n < length rows) (some_same (number row) leader same) below
    chosen row false last never = absurd cc

    by : (found : Option JobRow) → last_job new.key new.scope rows ≡ found
        → option_and_then (λ (r : JobRow). if is_equivalent new r.job && is_none r.settled then Some (number r) else None) found ≡ Some leader
        → leader < length rows
    by None last never = absurd cc
    by (Some row) last same = chosen row (is_equivalent new row.job && is_none row.settled) last same
