-- The room of lines is that of each line.
use Rattle.std.proofs.Common.{◌≡◌, ◌∙◌, ℕ, List, [], ◌∷◌, refl, ap, arith}
use Rattle.sw_queue.specs.Lines.{Keyed, Scoped, line_at, line_in, named}
use Rattle.sw_queue.specs.Tables.{queue_spare, scope_spares, spares}

spare_at : (lines : Scoped) (scope : List ℕ) → named (scope_spares lines) scope 0 ≡ (line_at lines scope).spare
spare_at [] scope = refl
spare_at (line ∷ lines) scope = grind (arith, spare_at lines scope)

spares_at : (lines : Keyed) (key : List ℕ) → named (spares lines) key [] ≡ scope_spares (named lines key [])
spares_at [] key = refl
spares_at (scoped ∷ lines) key = grind (arith, spares_at lines key)

pub spare_in : (lines : Keyed) (key scope : List ℕ) → queue_spare (spares lines) key scope ≡ (line_in lines key scope).spare
spare_in lines key scope = ap (λ (queues : List (List ℕ × ℕ)). named queues scope 0) (spares_at lines key) ∙ spare_at (named lines key []) scope
