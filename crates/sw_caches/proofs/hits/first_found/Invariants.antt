use Rattle.std.proofs.Common.{◌≡◌, ◌-◌, length, map}
use Rattle.std.specs.Prelude.{option_copied}
use Rattle.sw_rules.specs.Caching.{asked_caches, first_hit}
use Rattle.sw_caches.specs.Hits.{is_asked}
use Rattle.sw_caches.specs.Tables.{kept_row, passing_from}
use Rattle.sw_caches.proofs.hits.first_found.Given as goal

abbrev pub invariant-loop-row : goal.invariant-loop-row
invariant-loop-row l =
    first_hit l.query l.options (passing_from (is_asked l.key (option_copied l.name)) l.from l.rows.rows)
    ≡ first_hit l.query l.options (asked_caches l.key (option_copied l.name) (map kept_row l.rows.rows))

abbrev pub decreases-loop-row : goal.decreases-loop-row
decreases-loop-row l = length l.rows.rows - l.from
