use Rattle.std.proofs.Common.{◌≡◌, ◌+◌, take}
use Rattle.sw_caches.specs.Bytes.{bytes_of}
use Rattle.sw_sizes.specs.Usage.{registration_bytes}
use Rattle.sw_sizes.proofs.scan.scanned_usage.Given as goal

abbrev pub invariant-loop-row : goal.invariant-loop-row
invariant-loop-row l = l.bytes ≡ registration_bytes (take l.row-index l.rows) + bytes_of l.caches.rows
