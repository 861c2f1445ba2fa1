-- What waits to be shown (own).
use Rattle.std.specs.Prelude.{◌≡◌, List, [], ◌∷◌}
use Rattle.logbook.specs.Pages.{Book}
use Rattle.sw_data.specs.declared.histories.Entry.{Entry}
use Rattle.sw_data.specs.declared.storage.Kept.{Kept}
use Rattle.sw_view.specs.declared.shown.Shown.{Shown}
use Rattle.sw_view.specs.declared.shown.Step.{Step}
use Rattle.sw_view.specs.Mapped.{mapped_after}
use Rattle.sw_view.specs.Moves.{AreMoves}

-- one step waits, of the same book, whose moves are those of its entries
pub record Leads (shown : Shown) (waiting : List Step) : Type 0 where
  pub step : Step
  pub waits : waiting ≡ step ∷ []
  pub book : step.after.seen.book ≡ shown.after.seen.book
  pub moves : AreMoves (mapped_after shown.base.value shown.after.seen.log) step.moves.items
      (mapped_after shown.base.value step.after.seen.log)

-- nothing waits, and this front of entries that go on from this content is shown
pub record IsIdle (base : Kept) (book : Book) (entries : List Entry) (shown : Shown) (waiting : List Step) : Type 0 where
  pub base_is : shown.base.value ≡ base
  pub book_is : shown.after.seen.book ≡ book
  pub entries_are : shown.after.seen.log ≡ entries
  pub none : waiting ≡ []
