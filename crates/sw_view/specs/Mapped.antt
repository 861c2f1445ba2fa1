-- Which registration each scope of a key has after entries, and which one an address matches (own).
use Rattle.std.specs.Prelude.{ℕ, List, [], ◌∷◌, Option, None, option_map}
use Rattle.sw_data.specs.declared.histories.Entry.{Entry}
use Rattle.sw_data.specs.declared.storage.Kept.{Kept}
use Rattle.sw_rules.specs.History.{after}
use Rattle.sw_rules.specs.Rows.{mapped_registration, matched_registration_number}
use Rattle.sw_view.specs.Found.{Found}
use Rattle.sw_view.specs.Moves.{nothing}

-- what a key and a scope have in the state after entries that go on from a content; before the first one nothing is mapped
unfoldable pub mapped_after : Kept → List Entry → Found
mapped_after base [] = nothing
mapped_after base (opening ∷ entries) =
    λ key scope. option_map (λ row. row.number) (mapped_registration (after base (opening ∷ entries)) key scope)

-- the registration that an address of a key matches in the state after entries that go on from a content (Service Workers,
-- Appendix A, "Match Service Worker Registration"); before the first one it matches none
unfoldable pub matched_after : Kept → List Entry → List ℕ → List ℕ → Option ℕ
matched_after base [] key address = None
matched_after base (opening ∷ entries) key address = matched_registration_number (after base (opening ∷ entries)) key address
