-- What an action comes to at the key of its page.
use Rattle.std.proofs.Common.{◌≡◌, ◌∙◌, ℕ, List, Option, Some, None, sym, ap, subst}
use Rattle.std.specs.Prelude.{Result, Ok, Err, IfOk, option_map}
use Rattle.std.specs.Option.{IfSome}
use Rattle.sw_cachestorage.specs.Actions.{CacheAction}
use Rattle.sw_cachestorage.specs.Acts.{IsOutcome, IsStep}
use Rattle.sw_cachestorage.specs.declared.act.CacheStep.{CacheStep}
use Rattle.sw_data.specs.declared.answers.Fault.{Fault}
use Rattle.sw_data.specs.declared.base.no_memory.NoMemory.{NoMemory}
use Rattle.sw_data.specs.declared.recordings.Place.{Place}
use Rattle.sw_data.specs.declared.storage.KeptCache.{KeptCache}
use Rattle.sw_rules.specs.Caching.{place_key, with_key}
use Rattle.sw_rules.specs.State.{State}
use Rattle.sw_rules.specs.Told.{Outcome, refused}

module _ (rows : List KeptCache) (place : Place) (key : List ℕ) (keyed : place_key place ≡ Ok key) where
  with_own_key : (state : State) (own : Place) → place ≡ own → (act : List ℕ → Outcome) → act key ≡ with_key state own act
  with_own_key state own is act =
      ap (λ (found : Result (List ℕ) Fault). elim found [ Ok k ↦ act k | Err why ↦ refused state why ]) (sym keyed ∙ ap place_key is)

  pub at_its_key : (found : Option CacheAction) (result : Result CacheStep NoMemory) → Some place ≡ option_map (λ action. action.place) found
      → IfOk result (λ step. IfSome found (λ action. IsStep rows (λ state. action.act state key) step))
      → IfOk result (λ step. IfSome found (λ action. IsStep rows (λ state. with_key state action.place (action.act state)) step))
  at_its_key None (Ok step) is given = tt
  at_its_key (Some action) (Ok step) is given = λ others.
      let state = record others { caches = rows } in
      let same : place ≡ action.place = cc in
      subst (λ outcome. IsOutcome outcome others rows step) (with_own_key state action.place same (action.act state)) (given others)
  at_its_key found (Err why) is given = tt
