-- The rule of the list that was published, and what its steps tell (own).
use Rattle.std.specs.Prelude.{ℕ, ◌≡◌, ◌==◌, true, List, [], ◌∷◌, ◌++◌, length, MatchBool}
use Rattle.logbook.specs.Pages.{Cell, Step, View, Book, Named}
use Rattle.sw_data.specs.declared.histories.Entry.{Entry}

-- the first word is the length of the list; a book has two words, of which this one leaves the second at 0
pub record IsBook (cells : List Cell) (log : List Entry) : Type 0 where
  pub words : cells ≡ (length log, true) ∷ (0, true) ∷ []

-- the first word of a book
abbrev pub head_of : Book → Named
head_of book = record { tracked = true; key = 0; book = book }

-- the entry was added to all that had been seen; or the list was longer, and was seen
abbrev pub AddsEntry : Step Entry → View Entry ℕ → ℕ → View Entry ℕ → Type 0
AddsEntry step view found view_then =
    MatchBool (found == step.old) (view_then.0 ≡ view.0 ++ step.ask ∷ []) (length view_then.0 ≡ found)
