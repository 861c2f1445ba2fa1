-- What contracts see of a publisher and of a looker (own).
use Rattle.std.specs.Prelude.{◌≡◌, List, Some, option_map}
use Rattle.logbook.specs.Pages.{Book}
use Rattle.sw_data.specs.declared.histories.Entry.{Entry}
use Rattle.sw_data.specs.declared.storage.Kept.{Kept}
use Rattle.sw_view.specs.declared.knowing.Known.{Known}
use Rattle.sw_view.specs.declared.knowing.Origin.{Origin}

-- the content from which the entries go on, the book of their list, and the entries: of a publisher those that it has
-- published, of a looker those that it has seen
pub record Published : Type 0 where
  pub base : Kept
  pub book : Book
  pub entries : List Entry

-- a reader knows that its view is that of this content and this book
pub record IsTied (known : Known) (base : Kept) (book : Book) : Type 0 where
  pub base_is : option_map (λ (origin : Origin). origin.base) known.origin ≡ Some base
  pub book_is : option_map (λ (origin : Origin). origin.seen.book) known.origin ≡ Some book
