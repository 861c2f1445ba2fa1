use Rattle.std.proofs.Common.{◌≡◌, ◌++◌, length}
use Rattle.std.specs.Vec.Iter.{into_iter_items}
use Rattle.sw_import.specs.Pairs.{paired}
use Rattle.sw_import.proofs.network.apart.Given as goal

abbrev pub invariant-loop-fetch : goal.invariant-loop-fetch
invariant-loop-fetch l = record {
  pairs : paired l.lines.items l.all_imports.items ++ into_iter_items l.fetch-iterator ≡ l.fn.fetches;
  even : length l.lines.items ≡ length l.all_imports.items;
}
