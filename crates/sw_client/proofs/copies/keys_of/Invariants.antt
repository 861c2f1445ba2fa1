use Rattle.std.proofs.Common.{take}
use Rattle.std.specs.Map.{values_of}
use Rattle.sw_list.specs.Tally.{Tallies}
use Rattle.sw_client.specs.Table.{is_of}
use Rattle.sw_client.proofs.copies.keys_of.Given as goal

abbrev pub invariant-loop-place : goal.invariant-loop-place
invariant-loop-place l = Tallies is_of (take l.place (values_of l.rows.entries)) l.keys
