-- Who stands first and who joined whom stay, where the queues and the lists stay.
use Rattle.std.proofs.Common.{◌≡◌, ◌∙◌, ℕ, ◌<◌, Bool, true, false, List, length, set, Option, Some, None, option_map, slice_get, refl, sym, ap, arith, if◌then◌else◌}
use Rattle.std.specs.Prelude.{◌&&◌, ◌==◌, bytes_eq, is_some}
use Rattle.std.specs.List.{find}
use Rattle.std.specs.Cmp.Lexicographic.{bytes_decides}
use Rattle.std.specs.Option.{option_map_or}
use Rattle.std.proofs.lemmas.Bool.Decides.{nat_tests}
use Rattle.std.proofs.lemmas.List.{length-set, get_or-set_same}
use Rattle.std.proofs.lemmas.Option.{slice_get-get_or, slice_get-map}
use Rattle.sw_data.specs.declared.answers.Settlement.{Settlement}
use Rattle.sw_data.specs.declared.rows.Job.{Job}
use Rattle.sw_data.specs.declared.rows.JobRow.{JobRow}
use Rattle.sw_rules.specs.Jobs.{gets_value}
use Rattle.sw_rules.specs.Rows.{changed, first_job, is_first, is_job, is_number, is_unfinished}
use Rattle.sw_queue.specs.Kept.{AreFrom, IsQueued, number}
use Rattle.sw_queue.specs.Lines.{Keyed}
use Rattle.sw_queue.specs.Tables.{FollowersStay, has_head, has_job}
use Rattle.sw_queue.proofs.Places.{find_from}
use Rattle.sw_queue.proofs.Reading.{first_number}
use Rattle.sw_queue.proofs.Running.{found_at, passing}

-- the same lists are kept
pub followers_stay : (rows others : List JobRow) (lists : List (List ℕ)) (lines after : Keyed) → IsQueued rows lists lines → IsQueued others lists after
    → FollowersStay rows others
followers_stay rows others lists lines after kept now other = sym (now.followers other) ∙ kept.followers other

-- the first of a queue stands first in its own
pub first_found : (rows : List JobRow) → AreFrom 0 rows → (key scope : List ℕ) (row : JobRow) → first_job key scope rows ≡ Some row → is_first rows row ≡ true
first_found rows are key scope row found =
    by (is_unfinished row) (bytes_eq row.job.key key) (bytes_eq row.job.scope scope) refl refl
    (found_at rows are (λ r. is_unfinished r && bytes_eq r.job.key key && bytes_eq r.job.scope scope) row found).1
  where
    itself : is_job (number row) row ≡ true
    itself = grind (arith, nat_tests)

    by : (stands one two : Bool) → bytes_eq row.job.key key ≡ one → bytes_eq row.job.scope scope ≡ two → (stands && one && two) ≡ true
        → is_first rows row ≡ true
    by true true true same_key same_scope passes =
        (λ i. option_map_or (is_job (number row))
        (first_job ((bytes_decides row.job.key key).0 same_key i) ((bytes_decides row.job.scope scope).0 same_scope i) rows) false)
        ∙ (ap (λ (o : Option JobRow). option_map_or (is_job (number row)) o false) found ∙ itself)
    by false one two same_key same_scope never = absurd cc
    by true false two same_key same_scope never = absurd cc
    by true true false same_key same_scope never = absurd cc

-- whether a job stands first, by the number of the first
abbrev numbered : List JobRow → Job → Bool
numbered rows job = option_map_or (λ n. n == job.number) (option_map number (first_job job.key job.scope rows)) false

pub first_by : (rows : List JobRow) (row : JobRow) → is_first rows row ≡ numbered rows row.job
first_by rows row = by (first_job row.job.key row.job.scope rows)
  where
    by : (found : Option JobRow) → option_map_or (is_job (number row)) found false ≡ option_map_or (λ n. n == number row) (option_map number found) false
    by None = refl
    by (Some first) = refl

module _ (rows others : List JobRow) (lists : List (List ℕ)) (lines : Keyed) (kept : IsQueued rows lists lines) (after : IsQueued others lists lines) where
  first_stays : (old new : JobRow) → new.job ≡ old.job → is_first rows old ≡ true → is_first others new ≡ true
  first_stays old new one_job first =
      first_by others new
      ∙ (ap (numbered others) one_job
      ∙ (ap (λ (o : Option ℕ). option_map_or (λ n. n == number old) o false)
      (sym (first_number others lists lines after old.job.key old.job.scope) ∙ first_number rows lists lines kept old.job.key old.job.scope)
      ∙ (sym (first_by rows old) ∙ first)))

  head_stays : (test : JobRow → Bool) (job : ℕ) (old new : JobRow) → slice_get others job ≡ Some new → new.job ≡ old.job → is_first rows old ≡ true
      → test new ≡ true → has_head test job others ≡ true
  head_stays test job old new there one_job first passes =
      ap (λ (o : Option JobRow). option_map_or (λ row. is_first others row && test row) o false) (find_from 0 others after.numbers job job (omega arith) ∙ there)
      ∙ (λ i. first_stays old new one_job first i && passes i)

-- the first of a queue is written
pub head_set : (rows : List JobRow) (lists : List (List ℕ)) (lines : Keyed) (test : JobRow → Bool) (job : ℕ) (old new : JobRow) → IsQueued rows lists lines
    → IsQueued (set rows job new) lists lines → job < length rows → new.job ≡ old.job → is_first rows old ≡ true → test new ≡ true
    → has_head test job (set rows job new) ≡ true
head_set rows lists lines test job old new kept after below one_job first passes =
    head_stays rows (set rows job new) lists lines kept after test job old new
    (slice_get-get_or (set rows job new) job new (let many = length-set rows job new in omega (arith, many, below))
    ∙ ap Some (get_or-set_same rows job new new below))
    one_job first passes

-- a job that gets a value has one
has_value : (result : Settlement) (job : ℕ) (row : JobRow) → is_job job row ≡ true
    → is_some (if gets_value job row then record row { settled = Some result } else row).settled ≡ true
has_value result job row is = by (is_number row.leader job) row.settled refl
  where
    by : (follows : Bool) (now : Option Settlement) → row.settled ≡ now
        → is_some (if gets_value job row then record row { settled = Some result } else row).settled ≡ true
    by follows None now = grind (arith, is, now)
    by follows (Some old) now = grind (arith, is, now)

same_job : (result : Settlement) (test : Bool) (row : JobRow) → (if test then record row { settled = Some result } else row).job ≡ row.job
same_job result true row = refl
same_job result false row = refl

-- the first of a queue settles
pub head_settled : (rows others : List JobRow) (lists : List (List ℕ)) (lines : Keyed) (job : ℕ) (result : Settlement) → IsQueued rows lists lines
    → IsQueued others lists lines → others ≡ changed (gets_value job) (λ row. record row { settled = Some result }) rows
    → has_job (is_first rows) job rows ≡ true → has_head (λ row. is_some row.settled) job others ≡ true
head_settled rows others lists lines job result kept after is first =
    head_stays rows others lists lines kept after (λ row. is_some row.settled) job old settled
    (ap (λ (r : List JobRow). slice_get r job) is
    ∙ (slice_get-map (λ row. if gets_value job row then record row { settled = Some result } else row) rows job
    ∙ ap (option_map (λ row. if gets_value job row then record row { settled = Some result } else row)) there))
    (same_job result (gets_value job old) old) it.2 (has_value result job old ((found_at rows kept.numbers (is_job job) old found).1))
  where
    it : (row : JobRow) × (slice_get rows job ≡ Some row) × (is_first rows row ≡ true)
    it = passing rows kept.numbers (is_first rows) job first

    old : JobRow
    old = it.0

    settled : JobRow
    settled = if gets_value job old then record old { settled = Some result } else old

    there : slice_get rows job ≡ Some old
    there = it.1

    found : find (is_job job) rows ≡ Some old
    found = find_from 0 rows kept.numbers job job (omega arith) ∙ there
