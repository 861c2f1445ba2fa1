-- The durable part of a state, and the changes that make a kept content.
use Rattle.std.specs.Prelude.{ℕ, false, not, ◌&&◌, List, [], ◌∷◌, ◌++◌, find, filter_map, flat_map, map, length, codes, bytes_eq, is_some, Option, Some, None, option_map, if◌then◌else◌}
use Rattle.std.specs.List.{range_with_len}
use Rattle.std.specs.Option.{option_map_or}
use Rattle.sw_data.specs.declared.exchange.Op.TheVariants as op
use Rattle.sw_data.specs.declared.storage.Change.{Change}
use Rattle.sw_data.specs.declared.storage.Change.TheVariants as change
use Rattle.sw_data.specs.declared.storage.Kept.{Kept}
use Rattle.sw_data.specs.declared.storage.KeptCache.{KeptCache}
use Rattle.sw_data.specs.declared.storage.KeptRegistration.{KeptRegistration}
use Rattle.sw_data.specs.declared.storage.KeptWorker.{KeptWorker}
use Rattle.sw_data.specs.declared.workers.Slot.TheVariants as slot
use Rattle.sw_rules.specs.Installing.{kept_worker}
use Rattle.sw_rules.specs.Matching.{Pair}
use Rattle.sw_rules.specs.Rows.{is_activated, is_number, slot_worker}
use Rattle.sw_rules.specs.State.{State, Registration}
use Rattle.sw_rules.specs.Told.{is_kept}

-- what is kept of a registration (own)
abbrev pub durable_registration : State → Registration → KeptRegistration
durable_registration state row = record {
  key = row.key;
  scope = row.scope;
  mode = row.mode;
  waiting = option_map kept_worker (slot_worker state slot.Waiting row.number);
  active = option_map kept_worker (slot_worker state slot.Active row.number);
  activated = option_map_or is_activated (slot_worker state slot.Active row.number) false;
  preload = row.preload;
  preload_value = row.preload_value;
}

-- the kept registration that was the one of this place to get a waiting worker
abbrev pub kept_at : State → ℕ → Option Registration
kept_at state place = find (λ row. is_kept state row && is_number row.first place) state.registrations

-- the durable part of a state: the kept registrations in the order in which they got a waiting worker, and the caches (own)
unfoldable pub durable : State → Kept
durable state = record {
  registrations =
      filter_map (λ place. option_map (durable_registration state) (kept_at state place))
      (range_with_len 0 (length state.registrations));
  caches = state.caches;
}

-- ---- the changes that make a content (own)

abbrev pub waiting_changes : KeptRegistration → Option KeptWorker → List Change
waiting_changes row None = []
waiting_changes row (Some worker) = change.Waiting row.key row.scope row.mode worker ∷ []

abbrev pub active_changes : KeptRegistration → List Change
active_changes row =
    if is_some row.active
    then change.Active row.key row.scope ∷ (if row.activated then change.Activated row.key row.scope ∷ [] else [])
    else []

abbrev pub preload_changes : KeptRegistration → List Change
preload_changes row =
    if not row.preload && bytes_eq row.preload_value (codes "true") then []
    else change.Preload row.key row.scope row.preload row.preload_value ∷ []

abbrev pub registration_changes : KeptRegistration → List Change
registration_changes row =
    waiting_changes row row.active ++ active_changes row ++ waiting_changes row row.waiting ++ preload_changes row

abbrev pub pair_change : KeptCache → Pair → Change
pair_change cache pair = change.CacheOps cache.key cache.name (op.Put pair.0 pair.1 ∷ [])

abbrev pub cache_changes : KeptCache → List Change
cache_changes cache = change.CacheNew cache.key cache.name ∷ map (pair_change cache) cache.pairs

-- the changes of a checkpoint, which make this content of nothing
unfoldable pub checkpoint_changes : Kept → List Change
checkpoint_changes kept = flat_map registration_changes kept.registrations ++ flat_map cache_changes kept.caches
