use Rattle.std.proofs.Common.{◌≡◌, ◌<◌, ℕ, None, length, take}
use Rattle.std.specs.Prelude.{slice_index_or}
use Rattle.sw_core.specs.Keeping.{number_at}
use Rattle.sw_core.proofs.keeping.kept_numbers.Given as goal

abbrev pub invariant-loop-row : goal.invariant-loop-row
invariant-loop-row l = record {
  len : length l.firsts.items ≡ length l.rows;
  noted : (asked : ℕ) → asked < length l.firsts.items → slice_index_or l.firsts.items asked None ≡ number_at l.scopes (take l.row-index l.rows) asked;
}
