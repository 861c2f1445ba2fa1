-- What an action on caches that was worked out comes to is its step.
use Rattle.std.proofs.Common.{◌≡◌, true, Option, Some, None, IfSome, is_some, refl, subst, sym}
use Rattle.sw_cachestorage.specs.Actions.{CacheAction, cache_action}
use Rattle.sw_cachestorage.specs.Acts.{IsStep}
use Rattle.sw_cachestorage.specs.declared.act.CacheStep.{CacheStep}
use Rattle.sw_data.specs.declared.events.Event.{Event}
use Rattle.sw_data.specs.declared.events.Event.TheVariants as event
use Rattle.sw_data.specs.declared.events.Who.TheVariants.{Lane}
use Rattle.sw_data.specs.Events.{is_lane, who_of}
use Rattle.sw_rules.specs.Caching.{with_key}
use Rattle.sw_rules.specs.State.{State}
use Rattle.sw_rules.specs.Step.{step}
use Rattle.sw_rules.specs.Told.{Outcome}
use Rattle.sw_work.specs.Plans.{IsAsked}
use Rattle.sw_work.specs.declared.plan.Act.TheVariants as act
use Rattle.sw_work.specs.declared.plan.Asked.{Asked}
use Rattle.sw_work.specs.declared.plan.Then.TheVariants as then

-- own: an action on caches that was worked out
abbrev pub asked_of : CacheStep → Asked
asked_of worked = record { answer = worked.answer; act = act.Caches worked.act worked.changes; then = then.Nothing }

pub agrees : (state : State) (found : Option CacheAction) (worked : CacheStep)
    → IfSome found (λ action. IsStep state.caches (λ s. with_key s action.place (action.act s)) worked)
    → IfSome found (λ action. IsAsked (with_key state action.place (action.act state)) (asked_of worked) state)
agrees state None worked comes = tt
agrees state (Some action) worked comes =
    let is = comes state in
    record { same = record { answer = is.answer; state = is.state_is; notices = is.notices }; changes = is.changes }

-- what an action does, where it is one
abbrev done_by : State → Option CacheAction → Option Outcome
done_by state None = None
done_by state (Some action) = Some (with_key state action.place (action.act state))

-- the step of an action on caches that a lane made is what it does
step_of_action : (state : State) (happened : Event) → is_some (cache_action happened) ≡ true → is_lane (who_of happened) ≡ true → step state happened ≡ done_by state (cache_action happened)
unfolding step who_of
step_of_action state (event.CacheOpen (Lane lane at) place name) is by = refl
step_of_action state (event.CacheHas (Lane lane at) place name) is by = refl
step_of_action state (event.CacheDelete (Lane lane at) place name) is by = refl
step_of_action state (event.CacheKeys (Lane lane at) place) is by = refl
step_of_action state (event.Match (Lane lane at) place asked) is by = refl
step_of_action state (event.MatchAll (Lane lane at) place asked) is by = refl
step_of_action state (event.Keys (Lane lane at) place asked) is by = refl
step_of_action state (event.Put (Lane lane at) place put) is by = refl
step_of_action state (event.Delete (Lane lane at) place asked) is by = refl
step_of_action state (event.Batch (Lane lane at) place asked) is by = refl
step_of_action state _ is by = absurd cc

-- what an action on caches of a lane comes to is its step
pub steps : (state : State) (happened : Event) (asked : Asked) → is_some (cache_action happened) ≡ true → is_lane (who_of happened) ≡ true
    → IfSome (cache_action happened) (λ action. IsAsked (with_key state action.place (action.act state)) asked state)
    → IfSome (step state happened) (λ outcome. IsAsked outcome asked state)
steps state happened asked is made comes =
    subst (λ (o : Option Outcome). IfSome o (λ outcome. IsAsked outcome asked state)) (sym (step_of_action state happened is made)) (by (cache_action happened) comes)
  where
    by : (found : Option CacheAction) → IfSome found (λ action. IsAsked (with_key state action.place (action.act state)) asked state)
        → IfSome (done_by state found) (λ outcome. IsAsked outcome asked state)
    by None comes = tt
    by (Some action) comes = comes
