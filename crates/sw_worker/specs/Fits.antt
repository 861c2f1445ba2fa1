-- Finished rows that a table may take without memory (own).
use Rattle.std.specs.Prelude.{◌≡◌, ◌<◌, ◌^◌, ◌+◌, true, false, length}
use Rattle.sw_data.specs.declared.rows.WorkerRow.{WorkerRow}
use Rattle.sw_rules.specs.State.{FetchEvent}
use Rattle.sw_worker.specs.Table.{Table, events_on, has_worker, is_activated, is_pending}

-- the worker's number is the next one of the table, and the table has room for it
pub record FitsWorker (new : WorkerRow) (table : Table) : Type 0 where
  pub number : new.number ≡ length table.rows
  pub room : 0 < table.spare_rows

-- the event's number isn't pending, its worker is activated, and the table has room for it and can count it
pub record FitsEvent (new : FetchEvent) (table : Table) : Type 0 where
  pub number : is_pending new.number table.events ≡ false
  pub worker : has_worker is_activated new.worker table.rows ≡ true
  pub room : 0 < table.spare_events
  pub count : length (events_on new.worker table.events) + 1 < 2 ^ 64
