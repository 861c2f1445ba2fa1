use Rattle.std.proofs.Common.{◌≡◌, ℕ, List, take}
use Rattle.sw_net.specs.Places.{noted, places_from}
use Rattle.sw_net.proofs.places_of.Given as goal

abbrev pub invariant-loop-at : goal.invariant-loop-at
invariant-loop-at l =
    (address : List ℕ) → noted (λ key. key.items) (λ own. own.items) l.places.entries address ≡ places_from (λ line. line.fetch) 0 (take l.at l.lines) address
