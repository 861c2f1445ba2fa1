use Rattle.std.proofs.Common.{◌≡◌, ◌+◌, ◌-◌, length, map}
use Rattle.std.specs.Prelude.{filter}
use Rattle.sw_rules.specs.Storage.{is_cache}
use Rattle.sw_caches.specs.Bytes.{bytes_of}
use Rattle.sw_caches.specs.Tables.{kept_row}
use Rattle.sw_caches.proofs.CountedLemmas.{bytes_from}
use Rattle.sw_caches.proofs.rows.named_bytes.Given as goal

abbrev pub invariant-loop-place : goal.invariant-loop-place
invariant-loop-place l =
    l.bytes + bytes_from l.key l.name l.from l.rows.rows ≡ bytes_of (filter (is_cache l.key l.name) (map kept_row l.rows.rows))

abbrev pub decreases-loop-place : goal.decreases-loop-place
decreases-loop-place l = length l.rows.rows - l.from
