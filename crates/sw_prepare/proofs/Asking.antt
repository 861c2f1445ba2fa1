-- What was worked out for an action of a lane is what was asked.
use Rattle.std.proofs.Common.{◌≡◌, ℕ, [], Option, Some, refl, sym, ap, subst}
use Rattle.sw_cachestorage.specs.Adding.{begun, started_by}
use Rattle.sw_cachestorage.specs.declared.adding.AddAllStep.{AddAllStep}
use Rattle.sw_cachestorage.specs.declared.adding.NewAddAll.{NewAddAll}
use Rattle.sw_data.specs.declared.events.Who.TheVariants as maker
use Rattle.sw_pages.specs.Acts as pages
use Rattle.sw_rules.specs.Caching.{add_task}
use Rattle.sw_rules.specs.Jobs.{promise}
use Rattle.sw_rules.specs.State.{State}
use Rattle.sw_rules.specs.Told.{Told, Outcome, followed}
use Rattle.sw_work.specs.Plans.{IsAsked, IsStarted, outcome_of, told_then}
use Rattle.sw_work.specs.declared.plan.Asked.{Asked}
use Rattle.sw_work.specs.declared.plan.Then.{Then}

pub is_asked : (outcome : Outcome) (asked : Asked) (state : State) → outcome ≡ outcome_of asked state → IsAsked outcome asked state
is_asked outcome asked state is =
    subst (λ (o : Outcome). IsAsked o asked state) (sym is)
    (record { same = record { answer = refl; state = refl; notices = refl }; changes = refl })

module _ (lane at : ℕ) (step : AddAllStep) (next : Then) (state : State)
    (follows : (told : Told) → pages.promised (maker.Lane lane at) (Some step.awaited) told ≡ told_then next told) where
  -- what an addAll comes to by what it starts
  abbrev begun_by : Option NewAddAll → Outcome
  begun_by start = record { answer = step.answer; told = pages.promised (maker.Lane lane at) (Some step.awaited) (started_by start state) }

  no_changes : (new : NewAddAll) → (begun_by (Some new)).told.changes ≡ []
  unfolding followed promise add_task
  no_changes new = refl

  pub begun_starts : (new : NewAddAll) → step.start ≡ Some new → IsStarted (begun (maker.Lane lane at) step state) step.answer new next state
  begun_starts new starts =
      subst (λ (start : Option NewAddAll). IsStarted (begun_by start) step.answer new next state) (sym starts)
      (record {
        same = record {
          answer = refl;
          state = ap (λ (told : Told). told.state) (follows (started_by (Some new) state));
          notices = ap (λ (told : Told). told.notices) (follows (started_by (Some new) state));
        };
        changes = no_changes new;
      })
