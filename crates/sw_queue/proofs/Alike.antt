-- Rows that a change leaves alike: their jobs, leaders and queues stay.
use Rattle.std.proofs.Common.{◌≡◌, ◌∙◌, ℕ, zero, suc, Bool, true, false, List, [], ◌∷◌, map, filter, length, set, get_or, refl, sym, ap, if◌then◌else◌}
use Rattle.std.specs.Prelude.{◌&&◌, bytes_eq, is_none, not}
use Rattle.std.specs.List.{list_all}
use Rattle.sw_data.specs.declared.rows.JobRow.{JobRow}
use Rattle.sw_rules.specs.Rows.{is_done, is_number, is_unfinished, queue}
use Rattle.sw_queue.specs.Kept.{AreFrom, IsQueued, is_led_before, number}
use Rattle.sw_queue.specs.Lines.{Keyed, line_in}

-- the two are of one job and have joined one
pub record IsSame (old new : JobRow) : Type 0 where
  pub job : new.job ≡ old.job
  pub leader : new.leader ≡ old.leader

-- besides, both are done or neither is
pub record IsAlike (old new : JobRow) : Type 0 where
  pub same : IsSame old new
  pub done : is_done new.phase ≡ is_done old.phase

module _ (R : JobRow → JobRow → Type 0) where
  -- row by row
  abbrev pub AreBy : List JobRow → List JobRow → Type 0
  AreBy [] [] = Unit {0}
  AreBy (old ∷ rows) (new ∷ others) = R old new × AreBy rows others
  AreBy _ _ = ⊥

  are_themselves : ((row : JobRow) → R row row) → (rows : List JobRow) → AreBy rows rows
  are_themselves itself [] = tt
  are_themselves itself (row ∷ rows) = (itself row, are_themselves itself rows)

  pub set_alike : ((row : JobRow) → R row row) → (rows : List JobRow) (place : ℕ) (d new : JobRow) → R (get_or rows place d) new → AreBy rows (set rows place new)
  set_alike itself [] place d new alike = tt
  set_alike itself (row ∷ rows) zero d new alike = (alike, are_themselves itself rows)
  set_alike itself (row ∷ rows) (suc place) d new alike = (itself row, set_alike itself rows place d new alike)

  pub map_alike : (f : JobRow → JobRow) → ((row : JobRow) → R row (f row)) → (rows : List JobRow) → AreBy rows (map f rows)
  map_alike f alike [] = tt
  map_alike f alike (row ∷ rows) = (alike row, map_alike f alike rows)

  pub length_alike : (rows others : List JobRow) → AreBy rows others → length others ≡ length rows
  length_alike [] [] alike = refl
  length_alike (row ∷ rows) (other ∷ others) alike = ap suc (length_alike rows others alike.1)
  length_alike [] (other ∷ others) alike = absurd alike
  length_alike (row ∷ rows) [] alike = absurd alike

  -- the same numbers pass
  filter_alike : ((old new : JobRow) → R old new → new.job ≡ old.job) → (test : JobRow → Bool) → ((old new : JobRow) → R old new → test new ≡ test old)
      → (rows others : List JobRow) → AreBy rows others → map number (filter test others) ≡ map number (filter test rows)
  filter_alike one test same [] [] alike = refl
  filter_alike one test same (row ∷ rows) (other ∷ others) alike =
      by (test row) (same row other alike.0) (ap (λ job. job.number) (one row other alike.0)) (filter_alike one test same rows others alike.1)
    where
      by : (passes : Bool) → test other ≡ passes → number other ≡ number row → map number (filter test others) ≡ map number (filter test rows)
          → map number (if test other then other ∷ filter test others else filter test others)
          ≡ map number (if passes then row ∷ filter test rows else filter test rows)
      by true is one_number rest = ap (λ (t : Bool). map number (if t then other ∷ filter test others else filter test others)) is ∙ (λ i. one_number i ∷ rest i)
      by false is one_number rest = ap (λ (t : Bool). map number (if t then other ∷ filter test others else filter test others)) is ∙ rest
  filter_alike one test same [] (other ∷ others) alike = absurd alike
  filter_alike one test same (row ∷ rows) [] alike = absurd alike

  all_alike : (test : JobRow → Bool) → ((old new : JobRow) → R old new → test new ≡ test old) → (rows others : List JobRow) → AreBy rows others
      → list_all test others ≡ list_all test rows
  all_alike test same [] [] alike = refl
  all_alike test same (row ∷ rows) (other ∷ others) alike =
      let one = same row other alike.0 in let rest = all_alike test same rows others alike.1 in λ i. one i && rest i
  all_alike test same [] (other ∷ others) alike = absurd alike
  all_alike test same (row ∷ rows) [] alike = absurd alike

-- ---- what stays

pub from_alike : (first : ℕ) (rows others : List JobRow) → AreBy IsSame rows others → AreFrom first rows → AreFrom first others
from_alike first [] [] alike are = tt
from_alike first (row ∷ rows) (other ∷ others) alike are =
    (ap (λ job. job.number) alike.0.job ∙ are.0, from_alike (suc first) rows others alike.1 are.1)
from_alike first [] (other ∷ others) alike are = absurd alike
from_alike first (row ∷ rows) [] alike are = absurd alike

-- rows of the same jobs keep all but the queues
pub kept_but_queues : (rows others : List JobRow) (lists : List (List ℕ)) (lines after : Keyed) → AreBy IsSame rows others → IsQueued rows lists lines
    → ((key scope : List ℕ) → (line_in after key scope).numbers ≡ map number (queue key scope others)) → IsQueued others lists after
kept_but_queues rows others lists lines after alike kept queues = record {
  numbers = from_alike 0 rows others alike kept.numbers;
  count = kept.count ∙ sym (length_alike IsSame rows others alike);
  queues = queues;
  followers = λ job.
      kept.followers job
      ∙ sym (filter_alike IsSame (λ old new same. same.job) (λ row. is_number row.leader job) (λ old new same i. is_number (same.leader i) job) rows others alike);
  leaders =
      all_alike IsSame is_led_before (λ old new same i. is_led_before (record old { job = same.job i; leader = same.leader i })) rows others alike
      ∙ kept.leaders;
}

pub same_rows : (rows others : List JobRow) → AreBy IsAlike rows others → AreBy IsSame rows others
same_rows [] [] alike = tt
same_rows (row ∷ rows) (other ∷ others) alike = (alike.0.same, same_rows rows others alike.1)
same_rows [] (other ∷ others) alike = absurd alike
same_rows (row ∷ rows) [] alike = absurd alike

pub kept_alike : (rows others : List JobRow) (lists : List (List ℕ)) (lines : Keyed) → AreBy IsAlike rows others → IsQueued rows lists lines → IsQueued others lists lines
kept_alike rows others lists lines alike kept =
    kept_but_queues rows others lists lines lines (same_rows rows others alike) kept
    (λ key scope.
    kept.queues key scope
    ∙ sym (filter_alike IsAlike (λ old new one. one.same.job) (λ row. is_unfinished row && bytes_eq row.job.key key && bytes_eq row.job.scope scope)
    (λ old new one i. is_none (one.same.leader i) && not (one.done i) && bytes_eq (one.same.job i).key key && bytes_eq (one.same.job i).scope scope)
    rows others alike))
