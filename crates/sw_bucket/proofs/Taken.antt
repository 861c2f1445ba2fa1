-- The usage of a state.
use Rattle.std.proofs.Common.{◌≡◌, ◌∙◌, ℕ, ◌+◌, refl, sym}
use Rattle.sw_data.specs.declared.storage.Kept.{Kept}
use Rattle.sw_caches.specs.Bytes.{bytes_of}
use Rattle.sw_rules.specs.Durable.{durable}
use Rattle.sw_rules.specs.State.{State}
use Rattle.sw_sizes.proofs.Totals.{usage_weighs}
use Rattle.sw_sizes.specs.Usage.{registration_bytes, usage}

-- the caches of a state are kept as they are
pub same_caches : (state : State) → state.caches ≡ (durable state).caches
unfolding durable
same_caches state = refl

-- the usage, by the registrations that are kept and by the caches
pub scanned : (state : State) (kept : Kept) (bytes : ℕ) → kept ≡ durable state → bytes ≡ registration_bytes kept.registrations + bytes_of state.caches → bytes ≡ usage (durable state)
scanned state kept bytes is sum =
    sum
    ∙ ((λ i. registration_bytes (is i).registrations + bytes_of (same_caches state i))
    ∙ sym (usage_weighs (durable state)))
