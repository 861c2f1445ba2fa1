-- What is read of the rows by what is kept to find them.
use Rattle.std.proofs.Common.{◌≡◌, ◌∙◌, ℕ, ◌<◌, ◌≤◌, List, [], ◌∷◌, map, length, get_or, Option, Some, None, option_map, slice_get, refl, sym, ap, arith, nat_lt, Bor}
use Rattle.std.specs.Prelude.{◌&&◌, bytes_eq}
use Rattle.std.specs.List.{find, last_or}
use Rattle.std.specs.Option.{IfSome, is_some, option_copied}
use Rattle.std.proofs.lemmas.Bool.Decides.{nat_tests}
use Rattle.std.proofs.lemmas.Option.{slice_get-get_or, slice_get_past}
use Rattle.sw_data.specs.declared.rows.JobRow.{JobRow}
use Rattle.sw_rules.specs.Rows.{first_job, is_job, is_unfinished, last_job, queue}
use Rattle.sw_queue.specs.Kept.{IsQueued, number}
use Rattle.sw_queue.specs.Lines.{Keyed, line_in}
use Rattle.sw_queue.proofs.Places.{find-filter, find_from, last-map}

-- what is got of a list is its member at that place
pub got : (rows : List JobRow) (place : ℕ) (read : Option (Bor JobRow)) → is_some read ≡ nat_lt place (length rows)
    → IfSome read (λ row. row.now ≡ get_or rows place row.now) → option_copied read ≡ slice_get rows place
got rows place None there is = let past : length rows ≤ place = grind (arith, nat_tests, there) in sym (slice_get_past rows place past)
got rows place (Some row) there is =
    let below : place < length rows = grind (arith, nat_tests, there) in ap Some is ∙ sym (slice_get-get_or rows place row.now below)

first-map : {X Y : Type 0} (f : X → Y) (xs : List X) → slice_get (map f xs) 0 ≡ option_map f (slice_get xs 0)
first-map f [] = refl
first-map f (x ∷ xs) = refl

module _ (rows : List JobRow) (lists : List (List ℕ)) (lines : Keyed) (kept : IsQueued rows lists lines) where
  pub row_found : (job : ℕ) → slice_get rows job ≡ find (is_job job) rows
  row_found job = sym (find_from 0 rows kept.numbers job job (omega arith))

  pub first_number : (key scope : List ℕ) → slice_get (line_in lines key scope).numbers 0 ≡ option_map number (first_job key scope rows)
  first_number key scope =
      ap (λ (numbers : List ℕ). slice_get numbers 0) (kept.queues key scope)
      ∙ first-map number (queue key scope rows)
      ∙ ap (option_map number) (find-filter (λ row. is_unfinished row && bytes_eq row.job.key key && bytes_eq row.job.scope scope) rows)

  pub last_number : (key scope : List ℕ) → last_or None (line_in lines key scope).numbers ≡ option_map number (last_job key scope rows)
  last_number key scope =
      ap (last_or None) (kept.queues key scope) ∙ last-map number None (queue key scope rows)
