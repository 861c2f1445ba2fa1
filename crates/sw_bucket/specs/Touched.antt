-- The keys that an entry touches: the one that it uses, and those of its durable changes (own).
use Rattle.std.specs.Prelude.{ℕ, List, ◌++◌, Option, Some, None}
use Rattle.std.specs.List.{filter_map}
use Rattle.std.specs.Option.{option_to_list}
use Rattle.sw_data.specs.declared.storage.Change.{Change}
use Rattle.sw_data.specs.declared.storage.Change.TheVariants as change

-- the key that a change is of; the one that a restart makes is of each
abbrev pub change_key : Change → Option (List ℕ)
change_key (change.Waiting key scope mode worker) = Some key
change_key (change.Active key scope) = Some key
change_key (change.Activated key scope) = Some key
change_key (change.Mode key scope mode) = Some key
change_key (change.Gone key scope) = Some key
change_key (change.CacheNew key name) = Some key
change_key (change.CacheDrop key name) = Some key
change_key (change.CacheOps key name ops) = Some key
change_key (change.Forgot key) = Some key
change_key change.Restarted = None
change_key (change.Preload key scope on text) = Some key

-- the keys that are touched by the use of a key and by changes
abbrev pub touched : Option (List ℕ) → List Change → List (List ℕ)
touched used changes = option_to_list used ++ filter_map change_key changes
