use Rattle.std.proofs.Common.{◌≡◌, ◌∙◌, ◌++◌}
use Rattle.std.specs.List.{flat_map}
use Rattle.sw_rules.specs.Durable.{cache_changes, checkpoint_changes, registration_changes}
use Rattle.sw_change.proofs.checkpoint.changes_of.Goals as goal

pub returns : goal.returns
unfolding checkpoint_changes
returns c =
    let rows : c.push_registrations.new.changes.items ≡ flat_map registration_changes c.args.kept.now.registrations =
    c.in_ok-push_registrations.ensures ∙ (λ i. c.new-changes.ensures.items i ++ flat_map registration_changes (c.as_slice.ensures i)) in
    c.in_ok-push_caches.ensures ∙ (λ i. rows i ++ flat_map cache_changes (c.as_slice-2.ensures i))
