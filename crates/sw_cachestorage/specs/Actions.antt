-- The actions and calls on caches: where they are made, and what they do (own).
use Rattle.std.specs.Prelude.{ℕ, Bool, true, false, List, Option, Some, None}
use Rattle.sw_data.specs.declared.events.Event.{Event}
use Rattle.sw_data.specs.declared.events.Event.TheVariants as event
use Rattle.sw_data.specs.declared.recordings.Call.{Call}
use Rattle.sw_data.specs.declared.recordings.Call.TheVariants as call
use Rattle.sw_data.specs.declared.recordings.Place.{Place}
use Rattle.sw_rules.specs.Caching.{batch_ops, cache_names, delete_cache, delete_request, has_cache, match_request, open_cache, put_response, query_cache}
use Rattle.sw_rules.specs.State.{State}
use Rattle.sw_rules.specs.Told.{Outcome}

-- an action on caches: the page that makes it, and what it does at the key of that page
pub record CacheAction : Type 0 where
  pub place : Place
  pub act : State → List ℕ → Outcome

-- what an event does, where it is an action on caches
abbrev pub cache_action : Event → Option CacheAction
cache_action (event.CacheOpen who place name) = Some (record { place = place; act = λ state. open_cache state name })
cache_action (event.CacheHas who place name) = Some (record { place = place; act = λ state. has_cache state name })
cache_action (event.CacheDelete who place name) = Some (record { place = place; act = λ state. delete_cache state name })
cache_action (event.CacheKeys who place) = Some (record { place = place; act = λ state. cache_names state })
cache_action (event.Match who place asked) = Some (record { place = place; act = λ state. match_request state place.at asked })
cache_action (event.MatchAll who place asked) = Some (record { place = place; act = λ state. query_cache state place.at asked })
cache_action (event.Keys who place asked) = Some (record { place = place; act = λ state. query_cache state place.at asked })
cache_action (event.Put who place put) = Some (record { place = place; act = λ state. put_response state place.at put })
cache_action (event.Delete who place asked) = Some (record { place = place; act = λ state. delete_request state place.at asked })
cache_action (event.Batch who place asked) = Some (record { place = place; act = λ state. batch_ops state place.at asked })
cache_action _ = None

-- a call acts on caches, and has no fetches
abbrev pub acts_on_caches : Call → Bool
acts_on_caches (call.CacheOpen name) = true
acts_on_caches (call.CacheDelete name) = true
acts_on_caches (call.Put put) = true
acts_on_caches (call.Delete asked) = true
acts_on_caches (call.Batch asked) = true
acts_on_caches _ = false
