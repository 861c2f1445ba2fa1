-- A key is forgotten or busy as the definition says.
use Rattle.std.proofs.Common.{◌≡◌, ◌∙◌, ℕ, Bool, true, false, List, refl, sym, ap, subst, if◌then◌else◌}
use Rattle.std.specs.Prelude.{Result, Ok, Err}
use Rattle.sw_data.specs.declared.answers.Answer.TheVariants as answer
use Rattle.sw_data.specs.declared.answers.Fault.{Fault}
use Rattle.sw_data.specs.declared.recordings.Place.{Place}
use Rattle.sw_pages.specs.declared.worked.PageAct.TheVariants as page
use Rattle.sw_rules.specs.Caching.{place_key, with_key}
use Rattle.sw_rules.specs.Forgetting.{forget, forget_key, is_busy}
use Rattle.sw_rules.specs.State.{State}
use Rattle.sw_rules.specs.Told.{Outcome, answered, refused}
use Rattle.sw_work.specs.Plans.{IsAsked}
use Rattle.sw_work.specs.declared.plan.Act.TheVariants as act
use Rattle.sw_work.specs.declared.plan.Asked.{Asked}
use Rattle.sw_work.specs.declared.plan.Then.TheVariants as then

module _ (state : State) (place : Place) (key : List ℕ) (asked : Asked) where
  -- what forgetting comes to at a key
  abbrev at_key : Result (List ℕ) Fault → Outcome
  at_key found = elim found [ Ok k ↦ forget state k | Err why ↦ refused state why ]

  abbrev by_busy : Bool → Outcome
  by_busy busy = if busy then answered state answer.Busy else record { answer = answer.Ok; told = forget_key state key }

  pub busy_agrees : place_key place ≡ Ok key → is_busy state key ≡ true
      → asked ≡ record { answer = answer.Busy; act = act.Page page.Nothing; then = then.Nothing } → IsAsked (with_key state place (forget state)) asked state
  busy_agrees here busy is =
      subst (λ (o : Outcome). IsAsked o asked state) (sym (ap at_key here ∙ ap by_busy busy))
      (subst (λ (a : Asked). IsAsked (answered state answer.Busy) a state) (sym is)
      (record { same = record { answer = refl; state = refl; notices = refl }; changes = refl }))

  pub quiet_agrees : place_key place ≡ Ok key → is_busy state key ≡ false
      → IsAsked (with_key state place (forget state)) (record { answer = answer.Ok; act = act.Forget key; then = then.Nothing }) state
  quiet_agrees here busy =
      subst (λ (o : Outcome). IsAsked o (record { answer = answer.Ok; act = act.Forget key; then = then.Nothing }) state) (sym (ap at_key here ∙ ap by_busy busy))
      (record { same = record { answer = refl; state = refl; notices = refl }; changes = refl })
