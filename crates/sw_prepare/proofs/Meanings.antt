-- A plan means what its work means.
use Rattle.std.proofs.Common.{◌≡◌, Option, Some, Result, Ok, Err, IfOk, sym, subst}
use Rattle.std.specs.Option.{IfSome}
use Rattle.sw_rules.specs.State.{State}
use Rattle.sw_rules.specs.Step.{step}
use Rattle.sw_rules.specs.Told.{Outcome}
use Rattle.sw_work.proofs.Working.{if_some_map}
use Rattle.sw_state.proofs.Same.{same_state}
use Rattle.sw_work.specs.Planned.{Fits}
use Rattle.sw_work.specs.declared.plan.Plan.{Plan}
use Rattle.sw_cachestorage.specs.Added.{IsAdded}
use Rattle.sw_install.specs.Fetches.{ComesTo}
use Rattle.sw_rules.specs.Activating as activating
use Rattle.sw_rules.specs.Installing as installing
use Rattle.sw_rules.specs.Registering as registering
use Rattle.sw_state.specs.Hosted.{Hosted, SameRows, state_of}
use Rattle.sw_work.specs.Plans.{IsAsked, IsStarted, Means, Works}
use Rattle.sw_work.specs.declared.plan.Work.{Work}
use Rattle.sw_work.specs.declared.plan.Work.TheVariants as work

-- what a work means in a host with the same state
means_later : (old new : Hosted) → state_of new ≡ state_of old → (done : Work) (outcome : Outcome) → Means done old outcome → Means done new outcome
means_later old new is (work.Asked asked) outcome means = subst (λ (s : State). IsAsked outcome asked s) (sym is) means
means_later old new is (work.Start reply added next) outcome means = subst (λ (s : State). IsStarted outcome reply added next s) (sym is) means
means_later old new is (work.Register job refusal fetch preload rows) outcome means = subst (λ (s : State). registering.run s job ≡ Some outcome) (sym is) means
means_later old new is (work.Update job fetch) outcome means = subst (λ (s : State). registering.run s job ≡ Some outcome) (sym is) means
means_later old new is (work.Unregister job refusal) outcome means = subst (λ (s : State). registering.run s job ≡ Some outcome) (sym is) means
means_later old new is (work.Fetched job given rows) outcome means = (
  means.0,
  subst (λ (s : State). installing.fetched s job means.0 ≡ Some outcome) (sym is) means.1,
  subst (λ (s : State). ComesTo given rows.worker s job means.0) (sym is) means.2,
)
means_later old new is (work.Added task step) outcome means = subst (λ (s : State). IsAdded outcome s task step) (sym is) means
means_later old new is (work.Evaluated job) outcome means = subst (λ (s : State). installing.evaluated s job ≡ Some outcome) (sym is) means
means_later old new is (work.Installed job) outcome means = subst (λ (s : State). installing.installed s job ≡ Some outcome) (sym is) means
means_later old new is (work.TryActivate registration) outcome means = subst (λ (s : State). activating.tryactivate s registration ≡ Some outcome) (sym is) means
means_later old new is (work.Activated worker) outcome means = subst (λ (s : State). activating.activated s worker ≡ Some outcome) (sym is) means

-- a plan means what its work meant before there was more room
pub planned_means : {E : Type 0} (old new : Hosted) (comes : Option Outcome) (done : Work) (result : Result Plan E) → SameRows old new → Works old new comes done
    → IfOk result (λ plan. Fits plan new × (plan.work ≡ done)) → IfOk result (λ plan. IfSome comes (Means plan.work new))
planned_means old new comes done (Ok plan) same works fits =
    subst (λ (w : Work). IfSome comes (Means w new)) (sym fits.1)
    (if_some_map (Means done old) (Means done new) (means_later old new (same_state old new same) done) comes works.means)
planned_means old new comes done (Err why) same works fits = tt
