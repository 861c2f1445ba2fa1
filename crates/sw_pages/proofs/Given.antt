-- An answer that may not be there.
use Rattle.std.proofs.Common.{◌≡◌, ◌∙◌, Option, Some, IsSome, is_some, option_map, sym, ap}
use Rattle.sw_laws.proofs.KeptRechecks.{mapped_some}

module _ {X Y : Type 0} (f : X → Y) (asked : Option Y) (found : Option X) (same : option_map f found ≡ asked) where
  pub found_there : IsSome asked → IsSome found
  found_there there = sym (mapped_some f found) ∙ (ap is_some same ∙ there)

  pub found_given : (x : X) → found ≡ Some x → asked ≡ Some (f x)
  found_given x is = sym same ∙ ap (option_map f) is
