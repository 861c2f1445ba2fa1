-- Look-ups beside the lock, and what is answered to them.
use Rattle.std.specs.Prelude.{◌≡◌, ◌≤◌, ℕ, List, [], ◌∷◌, length, take}
use Rattle.sw_data.specs.declared.histories.Entry.{Entry}
use Rattle.sw_data.specs.declared.storage.Kept.{Kept}
use Rattle.sw_pool.specs.declared.looking.Asked.{Asked}
use Rattle.sw_view.specs.Mapped.{matched_after}
use Rattle.sw_view.specs.declared.looker.Look.{Look}

-- own: what is answered to a look-up is right after so many first entries of a history that goes on from a content, and these are no
-- fewer than some number
pub record IsAnswer (base : Kept) (history : List Entry) (least : ℕ) (asked : Asked) (look : Look) : Type 0 where
  pub later : least ≤ look.entries
  pub within : look.entries ≤ length history
  pub found : look.registration ≡ matched_after base (take look.entries history) asked.key asked.address

-- own: each look-up has its answer, in order, and the entries never get fewer
abbrev pub AreAnswers : Kept → List Entry → ℕ → List Asked → List Look → Type 0
AreAnswers base history least [] [] = Unit {0}
AreAnswers base history least (first ∷ asked) (look ∷ looks) =
    IsAnswer base history least first look × AreAnswers base history look.entries asked looks
AreAnswers base history least _ _ = ⊥
