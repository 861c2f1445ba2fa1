-- A plan that was made and carried out is one step.
use Rattle.std.proofs.Common.{◌≡◌, ◌∙◌, true, List, Option, Some, None, is_some, sym, ap}
use Rattle.std.specs.Option.{IfSome}
use Rattle.sw_data.specs.declared.answers.Answer.{Answer}
use Rattle.sw_data.specs.declared.answers.Notice.{Notice}
use Rattle.sw_data.specs.declared.events.Event.{Event}
use Rattle.sw_rules.specs.State.{State}
use Rattle.sw_rules.specs.Step.{Step, step}
use Rattle.sw_rules.specs.Told.{Outcome}
use Rattle.sw_state.specs.Hosted.{Hosted}
use Rattle.sw_work.specs.Plans.{Means}
use Rattle.sw_work.specs.declared.plan.Work.{Work}

-- an event that is enabled comes to what its work means
pub worked : (comes : Option Outcome) (done : Work) (host : Hosted) → is_some comes ≡ true → IfSome comes (Means done host)
    → (outcome : Outcome) × Means done host outcome
worked (Some outcome) done host some means = (outcome, means)
worked None done host some means = absurd cc

-- and what was answered, told and left is its step
pub stepped : (old : State) (event : Event) (comes : Option Outcome) (done : Work) (host : Hosted) (reply : Answer) (notices : List Notice) (new : State)
    → step old event ≡ comes → is_some comes ≡ true → IfSome comes (Means done host)
    → ((outcome : Outcome) → Means done host outcome → reply ≡ outcome.answer)
    → ((outcome : Outcome) → Means done host outcome → notices ≡ outcome.told.notices)
    → ((outcome : Outcome) → Means done host outcome → new ≡ outcome.told.state)
    → Step old event reply notices new
stepped old event (Some outcome) done host reply notices new is some means answers tells leaves = (
  outcome.told.changes,
  is
      ∙ (ap (λ (a : Answer). Some (record outcome { answer = a })) (sym (answers outcome means))
      ∙ (ap (λ (ns : List Notice). Some (record { answer = reply; told = record outcome.told { notices = ns } })) (sym (tells outcome means))
      ∙ ap (λ (s : State). Some (record { answer = reply; told = record { state = s; notices = notices; changes = outcome.told.changes } })) (sym (leaves outcome means)))),
)
stepped old event None done host reply notices new is some means answers tells leaves = absurd cc
