-- Handlers that may go on, by what the rows of workers count.
use Rattle.std.specs.Prelude.{◌==◌, ◌&&◌, Bool, Option, Some, None, option_and_then, if◌then◌else◌}
use Rattle.sw_data.specs.declared.rows.HandlerRow.{HandlerRow}
use Rattle.sw_data.specs.declared.rows.WorkerRow.{WorkerRow}
use Rattle.sw_rules.specs.State.{State}
use Rattle.sw_rules.specs.Tasks.{may_activate}
use Rattle.sw_tables.specs.Lent.{shown_worker}
use Rattle.sw_worker.specs.Table.{runs_activate}

-- own: the handler of a worker that runs, where it counts none of its addAlls as unsettled
abbrev pub free_of : WorkerRow → Option HandlerRow
free_of row = option_and_then (λ handler. if handler.unsettled == 0 then Some handler else None) row.handler

-- own: an activate handler of the worker runs, and may go on
abbrev pub activates : State → WorkerRow → Bool
activates state row = runs_activate row && may_activate state (shown_worker row)
