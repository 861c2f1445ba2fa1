-- The requests of an addAll, one after another, and an addAll whose requests are good.
use Rattle.std.proofs.Common.{◌≡◌, ◌∙◌, List, ℕ, ◌++◌, true, Option, Some, None, is_some, refl, ap, if◌then◌else◌}
use Rattle.std.specs.Prelude.{Result, Ok, Err, IfOk, is_none}
use Rattle.sw_cachestorage.specs.Adding.{IsBegun}
use Rattle.sw_cachestorage.specs.declared.adding.AddAllStep.{AddAllStep}
use Rattle.sw_data.specs.declared.answers.Cause.{Cause}
use Rattle.sw_data.specs.declared.answers.Fault.TheVariants as fault
use Rattle.sw_data.specs.declared.base.no_memory.NoMemory.{NoMemory}
use Rattle.sw_data.specs.declared.events.Who.{Who}
use Rattle.sw_data.specs.declared.exchange.Request.{Request}
use Rattle.sw_data.specs.declared.recordings.CacheAddAll.{CacheAddAll}
use Rattle.sw_rules.specs.Caching.{add_all, fetchable_all, pairs_of, start_task}
use Rattle.sw_rules.specs.Matching.{Pair}
use Rattle.sw_rules.specs.Registering.{rejected}
use Rattle.sw_rules.specs.State.{State}
use Rattle.sw_rules.specs.Told.{Outcome, type_error}
use Rattle.sw_state.specs.Hosted.{Hosted, state_of}

-- these requests stand before the rest, where that is good
abbrev pub behind : List Request → Result (List Request) Cause → Result (List Request) Cause
behind front (Ok rest) = Ok (front ++ rest)
behind front (Err why) = Err why

module _ (who : Who) (base key : List ℕ) (asked : CacheAddAll) (requests : List Request) where
  abbrev after : State → Result (List Request) Cause → Outcome
  after state all =
      elim all [
        | Err why ↦ rejected state who (type_error why)
        | Ok good ↦ start_task state who key asked.name good
      ]

  -- the cache is there and the requests are good: the addAll goes on to its fetches
  goes_on : (state : State) → is_some (pairs_of key asked.name state.caches) ≡ true → fetchable_all base asked.requests ≡ Ok requests
      → add_all state who base asked key ≡ start_task state who key asked.name requests
  goes_on state there good = by (pairs_of key asked.name state.caches) there ∙ ap (after state) good
    where
      by : (found : Option (List Pair)) → is_some found ≡ true
          → (if is_none found then rejected state who fault.CacheGone else after state (fetchable_all base asked.requests)) ≡ after state (fetchable_all base asked.requests)
      by None is = absurd cc
      by (Some pairs) is = refl

  pub starts : (host : Hosted) (result : Result AddAllStep NoMemory)
      → is_some (pairs_of key asked.name host.caches.rows) ≡ true → fetchable_all base asked.requests ≡ Ok requests
      → IfOk result (IsBegun who (λ state. start_task state who key asked.name requests) host)
      → IfOk result (IsBegun who (λ state. add_all state who base asked key) host)
  starts host (Ok step) there good begun = goes_on (state_of host) there good ∙ begun
  starts host (Err why) there good begun = begun
