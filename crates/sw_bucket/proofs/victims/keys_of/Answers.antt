use Rattle.std.proofs.Common.{◌≡◌, ◌∙◌, ◌++◌, List, ℕ, map}
use Rattle.sw_data.specs.declared.storage.KeptCache.{KeptCache}
use Rattle.sw_data.specs.declared.storage.KeptRegistration.{KeptRegistration}
use Rattle.sw_bucket.proofs.victims.keys_of.Goals as goal

pub returns : goal.returns
returns c =
    let registration_key : KeptRegistration → List ℕ = λ row. row.key in
    let cache_key : KeptCache → List ℕ = λ row. row.key in
    let rows : c.push_registrations.new.keys.items ≡ map registration_key c.args.kept.now.registrations =
    c.in_ok-push_registrations.ensures ∙ (λ i. c.new-keys.ensures.items i ++ map registration_key (c.as_slice.ensures i)) in
    c.in_ok-push_caches.ensures ∙ (λ i. rows i ++ map cache_key (c.as_slice-2.ensures i))
