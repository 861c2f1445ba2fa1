use Rattle.std.proofs.Common.{◌≡◌, map, take}
use Rattle.sw_view.specs.Moving.{mapped_in, row_move}
use Rattle.sw_view.proofs.moving.all_moves.Given as goal

abbrev pub invariant-loop-row : goal.invariant-loop-row
invariant-loop-row l =
    l.moves.items ≡ map (row_move (mapped_in l.scopes l.registrations.rows)) (take l.row-index l.registrations.rows)
