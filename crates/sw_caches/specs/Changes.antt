-- How many bytes a change is spelled in (own).
use Rattle.std.specs.Prelude.{◌≡◌, ℕ, ◌+◌, sum_by}
use Rattle.sw_data.specs.declared.storage.Change.{Change}
use Rattle.sw_data.specs.declared.storage.Change.TheVariants as change
use Rattle.sw_data.specs.declared.storage.KeptCache.{KeptCache}
use Rattle.sw_data.specs.Sizes.{op_size, text_size}
use Rattle.sw_rules.specs.Durable.{cache_changes}
use Rattle.sw_caches.specs.Bytes.{cache_size}

-- how many bytes a change is spelled in
unfoldable pub change_size : Change → ℕ
change_size (change.Waiting key scope mode worker) =
    3 + text_size key + text_size scope + text_size worker.script + text_size worker.body
change_size (change.Active key scope) = 1 + text_size key + text_size scope
change_size (change.Activated key scope) = 1 + text_size key + text_size scope
change_size (change.Mode key scope mode) = 2 + text_size key + text_size scope
change_size (change.Gone key scope) = 1 + text_size key + text_size scope
change_size (change.CacheNew key name) = 1 + text_size key + text_size name
change_size (change.CacheDrop key name) = 1 + text_size key + text_size name
change_size (change.CacheOps key name ops) = 5 + text_size key + text_size name + sum_by op_size ops
change_size (change.Forgot key) = 1 + text_size key
change_size change.Restarted = 1
change_size (change.Preload key scope on text) = 2 + text_size key + text_size scope + text_size text

-- the bytes of a cache are those of the changes of a checkpoint that make it
abbrev pub AreBytesOfChanges : Type 0
AreBytesOfChanges = (row : KeptCache) → cache_size row ≡ sum_by change_size (cache_changes row)
