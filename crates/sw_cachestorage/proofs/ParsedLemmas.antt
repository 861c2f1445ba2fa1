-- What an action does with an address that parses.
use Rattle.std.proofs.Common.{◌≡◌, ℕ, List, Option, Some, None, ap}
use Rattle.sw_data.specs.declared.answers.Cause.TheVariants as cause
use Rattle.sw_data.specs.Addresses.{resolved}
use Rattle.sw_rules.specs.Caching.{with_url}
use Rattle.sw_rules.specs.State.{State}
use Rattle.sw_rules.specs.Told.{Outcome, refused, type_error}

pub with_parsed : (state : State) (base text url : List ℕ) → resolved text base ≡ Some url → (action : List ℕ → Outcome) → with_url state base text action ≡ action url
with_parsed state base text url parsed action =
    ap (λ (found : Option (List ℕ)). elim found [ None ↦ refused state (type_error cause.Unparsed) | Some to ↦ action to ]) parsed
