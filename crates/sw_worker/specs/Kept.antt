-- What a table of workers keeps: numbers that are places, counts that stay in their types, how many fetch events are pending on each worker, and on which of them a handler of phase activate runs (own).
use Rattle.std.specs.Prelude.{ℕ, ◌≡◌, ◌<◌, ◌≤◌, ◌^◌, Bool, List, map, length, nat_eq, slice_index_or, IfSome}
use Rattle.std.specs.List.{IsDistinct}
use Rattle.std.specs.Map.{keys_of}
use Rattle.sw_data.specs.declared.rows.WorkerRow.{WorkerRow}
use Rattle.sw_rules.specs.State.{FetchEvent}
use Rattle.sw_worker.specs.Table.{events_on, runs_activate}

-- a worker's calls can be counted, and no more of its addAlls are unsettled than its handler made calls
pub record Counts (row : WorkerRow) : Type 0 where
  pub install : length row.handlers.install < 2 ^ 32
  pub activate : length row.handlers.activate < 2 ^ 32
  pub unsettled : IfSome row.handler (λ handler. handler.unsettled ≤ handler.made)

-- a worker stands at its number, and its counts stay in their types
pub record StandsAt (place : ℕ) (row : WorkerRow) : Type 0 where
  pub number : row.number ≡ place
  pub counts : Counts row

abbrev pub AreWorkers : List WorkerRow → Type 0
AreWorkers rows = (i : ℕ) (d : WorkerRow) → i < length rows → StandsAt i (slice_index_or rows i d)

-- the fetch events of the entries by number
abbrev pub events_of : List (ℕ × ℕ) → List FetchEvent
events_of entries = map (λ entry. record { number = entry.0; worker = entry.1 }) entries

-- each worker's count is that of the fetch events that are pending on it, and none is pending on a worker that isn't there
abbrev pub Counted : List ℕ → List (ℕ × ℕ) → Type 0
Counted counts entries = (n : ℕ) → length (events_on n (events_of entries)) ≡ slice_index_or counts n 0

pub record IndexesWorkers (rows : List WorkerRow) (counts : List ℕ) (entries : List (ℕ × ℕ)) (flags : List Bool) : Type 0 where
  pub workers : AreWorkers rows
  pub many : length counts ≡ length rows
  pub counted : Counted counts entries
  pub apart : IsDistinct nat_eq (keys_of entries)
  pub activating : map runs_activate rows ≡ flags
