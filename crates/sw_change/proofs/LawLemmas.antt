-- A checkpoint makes its content again.
use Rattle.std.proofs.Common.{◌∙◌, [], ap}
use Rattle.std.specs.Prelude.{fold, flat_map}
use Rattle.std.proofs.lemmas.List.Sums.{fold-append}
use Rattle.sw_data.specs.declared.storage.Kept.{Kept}
use Rattle.sw_rules.specs.Durable.{registration_changes, cache_changes, checkpoint_changes}
use Rattle.sw_rules.specs.Storage.{applied, nothing}
use Rattle.sw_change.specs.Laws.{IsRebuilt}
use Rattle.sw_change.proofs.Rebuilt.{rows_rebuilt, caches_rebuilt}
use Rattle.sw_change.proofs.Sound.{made_sound}

pub rebuilt : IsRebuilt
unfolding checkpoint_changes
rebuilt kept made =
    let sound = made_sound kept made in
    fold-append applied nothing (flat_map registration_changes kept.registrations) (flat_map cache_changes kept.caches)
    ∙ ap (λ (content : Kept). fold applied content (flat_map cache_changes kept.caches)) (rows_rebuilt [] kept.registrations [] sound.rows.apart sound.rows.each)
    ∙ caches_rebuilt kept.registrations [] kept.caches sound.caches.apart sound.caches.each
