-- Moves, one after another.
use Rattle.std.proofs.Common.{◌≡◌, ℕ, List, [], ◌∷◌, ◌++◌, ap, sym, ◌∙◌}
use Rattle.std.proofs.lemmas.List.Sums.{fold-append}
use Rattle.sw_view.specs.declared.moves.Move.{Move}
use Rattle.sw_view.specs.Found.{Found}
use Rattle.sw_view.specs.Moves.{after_move, after_moves, nothing}

-- moves from maps that map alike
pub same_moves : (one other : Found) (moves : List Move)
    → ((key scope : List ℕ) → one key scope ≡ other key scope)
    → (key scope : List ℕ) → after_moves one moves key scope ≡ after_moves other moves key scope
same_moves one other moves same key scope = ap (λ (found : Found). after_moves found moves key scope) (λ i k s. same k s i)

-- one move more
pub one_more : (start old new : Found) (moves : List Move) (change : Move)
    → ((key scope : List ℕ) → old key scope ≡ after_moves start moves key scope)
    → ((key scope : List ℕ) → new key scope ≡ after_move old change key scope)
    → (key scope : List ℕ) → new key scope ≡ after_moves start (moves ++ change ∷ []) key scope
one_more start old new moves change before now key scope =
    now key scope
    ∙ (same_moves old (after_moves start moves) (change ∷ []) before key scope
    ∙ ap (λ (found : Found). found key scope) (sym (fold-append after_move start moves (change ∷ []))))

-- more moves behind those that were done
pub taken : (old new : Found) (before more : List Move)
    → ((key scope : List ℕ) → old key scope ≡ after_moves nothing before key scope)
    → ((key scope : List ℕ) → new key scope ≡ after_moves old more key scope)
    → (key scope : List ℕ) → new key scope ≡ after_moves nothing (before ++ more) key scope
taken old new before more was now key scope =
    now key scope
    ∙ (same_moves old (after_moves nothing before) more was key scope
    ∙ ap (λ (found : Found). found key scope) (sym (fold-append after_move nothing before more)))
