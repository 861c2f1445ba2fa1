use Rattle.std.proofs.Common.{◌≡◌, map, take}
use Rattle.sw_reg.proofs.copies.owed_of.Given as goal

abbrev pub invariant-loop-row : goal.invariant-loop-row
invariant-loop-row l = l.owed.flags ≡ map (λ row. row.owed) (take l.row-index l.rows)
