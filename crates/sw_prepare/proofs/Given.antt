-- What an action of a page comes to, as it was worked out.
use Rattle.std.proofs.Common.{◌≡◌, ◌∙◌, ℕ, Option, Some, None, IfSome, refl, sym, ap, subst, if◌then◌else◌}
use Rattle.sw_data.specs.declared.events.Event.{Event}
use Rattle.sw_data.specs.declared.events.Event.TheVariants as event
use Rattle.sw_data.specs.declared.events.Who.{Who}
use Rattle.sw_data.specs.declared.events.Who.TheVariants as maker
use Rattle.sw_data.specs.Events.{is_lane, who_of}
use Rattle.sw_rules.specs.Clients.{await, begin, ready}
use Rattle.sw_rules.specs.State.{State}
use Rattle.sw_rules.specs.Step.{step}
use Rattle.sw_rules.specs.Told.{Outcome}
use Rattle.sw_work.specs.Plans.{IsAsked}
use Rattle.sw_work.specs.declared.plan.Asked.{Asked}

pub given : (mine : Outcome) (comes : Option Outcome) → comes ≡ Some mine → IfSome comes (λ outcome. outcome ≡ mine)
given mine comes is = subst (λ (o : Option Outcome). IfSome o (λ outcome. outcome ≡ mine)) (sym is) refl

-- an outcome that is another one is that of what was asked, as that is
pub agrees_too : (mine : Outcome) (asked : Asked) (state : State) (comes : Option Outcome) → IsAsked mine asked state → IfSome comes (λ outcome. outcome ≡ mine)
    → IfSome comes (λ outcome. IsAsked outcome asked state)
agrees_too mine asked state None agrees is = tt
agrees_too mine asked state (Some outcome) agrees is = subst (λ (o : Outcome). IsAsked o asked state) (sym is) agrees

module _ (state : State) (happened : Event) (by : Who) (lane at : ℕ) (made : who_of happened ≡ maker.Lane lane at) where
  pub await_comes : (of : ℕ) → happened ≡ event.Await by of → step state happened ≡ await state (maker.Lane lane at) of
  unfolding step who_of
  await_comes of is = ap (step state) is ∙ ap (λ (w : Who). if is_lane w then await state w of else None) (sym (ap who_of is) ∙ made)

  pub ready_comes : (client : ℕ) → happened ≡ event.Ready by client → step state happened ≡ ready state client
  unfolding step who_of
  ready_comes client is = ap (step state) is ∙ ap (λ (w : Who). if is_lane w then ready state client else None) (sym (ap who_of is) ∙ made)

  pub begin_comes : (client number : ℕ) → happened ≡ event.Begin by client number → step state happened ≡ begin state client number
  unfolding step who_of
  begin_comes client number is = ap (step state) is ∙ ap (λ (w : Who). if is_lane w then begin state client number else None) (sym (ap who_of is) ∙ made)
