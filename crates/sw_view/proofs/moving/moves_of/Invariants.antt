use Rattle.std.proofs.Common.{◌≡◌, take}
use Rattle.sw_view.specs.Moving.{mapped_in, moves_told}
use Rattle.sw_view.proofs.moving.moves_of.Given as goal

abbrev pub invariant-loop-entry : goal.invariant-loop-entry
invariant-loop-entry l =
    l.moves.items ≡ moves_told (mapped_in l.scopes l.registrations.rows) l.registrations.rows (take l.entry-index l.entries)
