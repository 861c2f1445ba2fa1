-- The table of addAlls (own).
use Rattle.std.specs.Prelude.{ℕ, ◌≡◌, ◌+◌, ◌<◌, ◌^◌, ◌&&◌, Bool, false, List, None, bytes_eq, find, is_none, length, map, slice_index_or}
use Rattle.std.specs.Option.{option_map_or}
use Rattle.sw_list.specs.Tally.{Tally, Tallies}
use Rattle.sw_rules.specs.Rows.{is_task}
use Rattle.sw_rules.specs.State.{AddAll}
use Rattle.sw_ledgers.specs.declared.tasks.TaskRow.{TaskRow}

-- the addAlls in order of making, and for how many more there is room
pub record Table : Type 0 where
  pub rows : List AddAll
  pub spare : ℕ

abbrev pub row_of : TaskRow → AddAll
row_of task = record {
  number = task.number;
  maker = task.maker;
  key = task.key;
  name = task.name;
  requests = task.requests;
  fetches = task.fetches;
  settled = task.settled;
}

-- the addAll of a number is there, and passes
abbrev pub has_task : (AddAll → Bool) → ℕ → List AddAll → Bool
has_task test number rows = option_map_or test (find (is_task number) rows) false

-- the addAll's number is the next one of the table, and the table has room for it
pub record FitsTask (new : AddAll) (table : Table) : Type 0 where
  pub number : new.number ≡ length table.rows
  pub room : 0 < table.spare

-- each addAll stands at its number, and the numbers stay in their type
pub record AreKept (tasks : List TaskRow) : Type 0 where
  pub places : (i : ℕ) (d : TaskRow) → i < length tasks → (slice_index_or tasks i d).number ≡ i
  pub many : length tasks < 2 ^ 32

-- an addAll has not settled
abbrev pub is_unsettled : TaskRow → Bool
is_unsettled task = is_none task.settled

-- an addAll of a key has not settled
abbrev pub is_unsettled_of : List ℕ → TaskRow → Bool
is_unsettled_of key task = is_unsettled task && bytes_eq task.key key

-- besides, the flags tell which addAlls have not settled, and the tally has their keys
pub record TellsUnsettled (tasks : List TaskRow) (flags : List Bool) (keys : Tally) : Type 0 where
  pub rows : AreKept tasks
  pub unsettled : map is_unsettled tasks ≡ flags
  pub tallied : Tallies is_unsettled_of tasks keys

-- the row of an addAll that is made now, beside its key
pub record IsNewTask (task : TaskRow) (key : List ℕ) : Type 0 where
  pub few : task.number + 1 < 2 ^ 32
  pub same : key ≡ task.key
  pub unsettled : task.settled ≡ None
