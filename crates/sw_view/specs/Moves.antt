-- Moves: what they do to which registration each scope of a key has (own).
use Rattle.std.specs.Prelude.{◌≡◌, ℕ, ◌&&◌, List, map, bytes_eq, fold, Some, None, if◌then◌else◌}
use Rattle.std.specs.declared.snapshot.Snapshot.{Snapshot}
use Rattle.sw_view.specs.declared.moves.Move.{Move}
use Rattle.sw_view.specs.declared.moves.Move.TheVariants.{Remove, Set}
use Rattle.sw_view.specs.Found.{Found}

-- nothing is mapped
abbrev pub nothing : Found
nothing key scope = None

-- what a key and a scope have after a move
abbrev pub after_move : Found → Move → Found
after_move found (Remove own text) key scope =
    if bytes_eq own key && bytes_eq text scope then None else found key scope
after_move found (Set own text registration) key scope =
    if bytes_eq own key && bytes_eq text scope then Some registration else found key scope

-- what a key and a scope have after these moves
abbrev pub after_moves : Found → List Move → Found
after_moves found moves = fold after_move found moves

-- the moves from one map to another: they take out the scopes that it does not map, or not to the same registration, and set
-- those that are newly mapped
abbrev pub AreMoves : Found → List Move → Found → Type 0
AreMoves before moves now = (key scope : List ℕ) → after_moves before moves key scope ≡ now key scope

-- moves that were noted
abbrev pub values_of : List (Snapshot Move) → List Move
values_of noted = map (λ (note : Snapshot Move). note.value) noted
