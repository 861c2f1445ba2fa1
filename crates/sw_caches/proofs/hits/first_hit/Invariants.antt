use Rattle.std.proofs.Common.{◌≡◌, ◌≤◌, ◌-◌, length, map}
use Rattle.std.specs.Prelude.{option_copied}
use Rattle.sw_caches.specs.Tables.{caches_from, caches_of, hit_from, kept_row}
use Rattle.sw_caches.proofs.hits.first_hit.Given as goal

abbrev pub invariant-loop-row : goal.invariant-loop-row
invariant-loop-row l = record {
  few : l.cache ≤ l.from;
  rest : hit_from l.cache (option_copied l.name) l.query l.options (caches_from l.key l.from l.rows.rows)
      ≡ hit_from 0 (option_copied l.name) l.query l.options (caches_of l.key (map kept_row l.rows.rows));
}

abbrev pub decreases-loop-row : goal.decreases-loop-row
decreases-loop-row l = length l.rows.rows - l.from
