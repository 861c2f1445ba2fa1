use Rattle.std.proofs.Common.{◌≡◌, ◌++◌, ◌-◌, length, map}
use Rattle.sw_caches.specs.Tables.{caches_from, caches_of, kept_row}
use Rattle.sw_caches.proofs.rows.names_of.Given as goal

abbrev pub invariant-loop-row : goal.invariant-loop-row
invariant-loop-row l =
    l.names.items ++ map (λ row. row.name) (caches_from l.key l.from l.rows.rows)
    ≡ map (λ row. row.name) (caches_of l.key (map kept_row l.rows.rows))

abbrev pub decreases-loop-row : goal.decreases-loop-row
decreases-loop-row l = length l.rows.rows - l.from
