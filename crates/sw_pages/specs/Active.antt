-- The active worker of the registration that an address matches.
use Rattle.std.specs.Prelude.{ℕ, List, Option, option_and_then, option_map}
use Rattle.sw_rules.specs.Rows.{active_worker_number, matched_registration_number}
use Rattle.sw_rules.specs.State.{State}

-- own: the active worker of the registration that an address of a key matches, with that registration
abbrev pub active_match : State → List ℕ → List ℕ → Option (ℕ × ℕ)
active_match state key address =
    option_and_then (λ registration. option_map (λ worker. (worker, registration)) (active_worker_number state registration))
    (matched_registration_number state key address)
