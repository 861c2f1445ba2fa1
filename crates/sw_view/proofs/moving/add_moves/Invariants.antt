use Rattle.std.proofs.Common.{◌≡◌, ◌++◌, flat_map, take}
use Rattle.sw_view.specs.Moving.{mapped_in, moves_by}
use Rattle.sw_view.proofs.moving.add_moves.Given as goal

abbrev pub invariant-loop-notice : goal.invariant-loop-notice
invariant-loop-notice l =
    l.moves.items ≡ l.initial.moves.items ++ flat_map (moves_by (mapped_in l.scopes l.registrations.rows) l.registrations.rows) (take l.notice-index l.notices)
