-- The table of promises (own).
use Rattle.std.specs.Prelude.{ℕ, List, map}
use Rattle.sw_rules.specs.State as rules
use Rattle.sw_rules.specs.State.{Promise}
use Rattle.sw_ledgers.specs.declared.promises.Awaited.{Awaited}
use Rattle.sw_ledgers.specs.declared.promises.Awaited.TheVariants as awaited

-- the promises, of which the one that was made last stands last, and for how many more there is room
pub record Table : Type 0 where
  pub rows : List Promise
  pub spare : ℕ

-- what a promise waits for, or its value
abbrev pub meaning : Awaited → rules.Awaited
meaning (awaited.Value result) = rules.value result
meaning (awaited.Job job) = rules.of_job job
meaning (awaited.Task task) = rules.of_task task

-- the promise of a lane and a position
abbrev pub row_of : (ℕ × ℕ) × Awaited → Promise
row_of entry = record { lane = entry.0.0; at = entry.0.1; awaited = meaning entry.1 }

abbrev pub rows_of : List ((ℕ × ℕ) × Awaited) → List Promise
rows_of entries = map row_of entries
