-- What an action on caches does to them (own).
use Rattle.std.specs.Prelude.{◌≡◌, not, List, [], ◌∷◌, ◌++◌, filter}
use Rattle.sw_caches.specs.Tables.{FitsNew, FitsTable, Table, carried_rows}
use Rattle.sw_cachestorage.specs.declared.act.CacheAct.{CacheAct}
use Rattle.sw_cachestorage.specs.declared.act.CacheAct.TheVariants as act
use Rattle.sw_cachestorage.specs.declared.act.CacheStep.{CacheStep}
use Rattle.sw_data.specs.declared.storage.KeptCache.{KeptCache}
use Rattle.sw_rules.specs.State.{State}
use Rattle.sw_rules.specs.Storage.{is_cache}
use Rattle.sw_rules.specs.Told.{Outcome}

-- the caches after an act
abbrev pub acted : CacheAct → List KeptCache → List KeptCache
acted act.Nothing rows = rows
acted (act.Make new) rows = rows ++ new ∷ []
acted (act.Drop key name) rows = filter (λ row. not (is_cache key name row)) rows
acted (act.Carry plan) rows = carried_rows plan rows

-- there is room for an act on these caches
abbrev pub FitsAct : CacheAct → Table → Type 0
FitsAct act.Nothing caches = Unit {0}
FitsAct (act.Make new) caches = FitsNew new caches
FitsAct (act.Drop key name) caches = Unit {0}
FitsAct (act.Carry plan) caches = FitsTable plan caches.indexes

-- an outcome in a state with these caches is this answer and act, has these durable changes, and tells nothing else
pub record IsOutcome (outcome : Outcome) (others : State) (rows : List KeptCache) (step : CacheStep) : Type 0 where
  pub answer : outcome.answer ≡ step.answer
  pub notices : outcome.told.notices ≡ []
  pub state_is : outcome.told.state ≡ record others { caches = acted step.act rows }
  pub changes : outcome.told.changes ≡ step.changes

-- an action comes to this answer, act and changes in every state with these caches
abbrev pub IsStep : List KeptCache → (State → Outcome) → CacheStep → Type 0
IsStep rows action step = (others : State) → IsOutcome (action (record others { caches = rows })) others rows step
