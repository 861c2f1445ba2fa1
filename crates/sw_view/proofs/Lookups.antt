-- What is looked up in two maps that map alike.
use Rattle.std.proofs.Common.{◌≡◌, ℕ, zero, suc, List, [], ◌∷◌, length, Option, None, refl, sym, ap}
use Rattle.sw_data.specs.declared.histories.Entry.{Entry}
use Rattle.sw_data.specs.declared.storage.Kept.{Kept}
use Rattle.sw_rules.specs.History.{after}
use Rattle.sw_scope.specs.Laws.{MatchIsTheLongestFront}
use Rattle.sw_scope.specs.Scopes.{longest_at, longest_front}
use Rattle.sw_view.specs.Mapped.{mapped_after, matched_after}

pub same_longest : (one other : List ℕ → Option ℕ) → ((scope : List ℕ) → one scope ≡ other scope)
    → (address : List ℕ) → longest_front one address ≡ longest_front other address
same_longest one other same address = ap (λ found. longest_front found address) (λ i scope. same scope i)

-- where nothing is mapped, no front is
nothing_found : (address : List ℕ) (n : ℕ) → longest_at (λ scope. None) address n ≡ None
nothing_found address zero = refl
nothing_found address (suc n) = nothing_found address n

-- the longest front is what the address matches
pub matched_is : MatchIsTheLongestFront → (base : Kept) (entries : List Entry) (key address : List ℕ) → longest_front (mapped_after base entries key) address ≡ matched_after base entries key address
unfolding mapped_after matched_after
matched_is law base [] key address = nothing_found address (length address)
matched_is law base (opening ∷ entries) key address = sym (law (after base (opening ∷ entries)) key address)
