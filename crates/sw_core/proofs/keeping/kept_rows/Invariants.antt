use Rattle.std.proofs.Common.{◌≡◌, take}
use Rattle.std.specs.List.{filter_map}
use Rattle.sw_core.specs.Keeping.{kept_numbered}
use Rattle.sw_core.proofs.keeping.kept_rows.Given as goal

abbrev pub invariant-loop-number : goal.invariant-loop-number
invariant-loop-number l =
    l.rows.items ≡ filter_map (kept_numbered l.workers.rows l.preloads.rows l.registrations.rows) (take l.number-index l.numbers)
