-- The events of lanes that are no actions of pages.
use Rattle.std.specs.Prelude.{Bool, true, is_some}
use Rattle.sw_cachestorage.specs.Actions.{cache_action}
use Rattle.sw_data.specs.declared.events.Event.{Event}
use Rattle.sw_data.specs.declared.events.Event.TheVariants as event

-- own: an event is an action on caches, an addAll, or the forgetting of a key
abbrev pub is_of_storage : Event → Bool
is_of_storage (event.AddAll who place asked) = true
is_of_storage (event.Forget who place) = true
is_of_storage happened = is_some (cache_action happened)
