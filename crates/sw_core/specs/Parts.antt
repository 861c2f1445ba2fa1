-- What is asked of a row that goes on to its place.
use Rattle.std.specs.Prelude.{Bool, ◌&&◌, is_none}
use Rattle.sw_data.specs.declared.rows.WorkerRow.{WorkerRow}
use Rattle.sw_tables.specs.Parts.{is_parsed}

-- own: a worker is parsed, and no handler of it runs
abbrev pub is_fresh : WorkerRow → Bool
is_fresh row = is_parsed row.state && is_none row.handler
