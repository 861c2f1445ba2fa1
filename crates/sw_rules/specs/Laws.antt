-- The law of the steps: what happens determines the answer, the notices and the new state.
use Rattle.std.specs.Prelude.{◌≡◌, List}
use Rattle.sw_data.specs.declared.answers.Answer.{Answer}
use Rattle.sw_data.specs.declared.answers.Notice.{Notice}
use Rattle.sw_data.specs.declared.events.Event.{Event}
use Rattle.sw_rules.specs.State.{State}
use Rattle.sw_rules.specs.Step.{Step}

-- an old state and an event determine the answer, the notices and the new state
abbrev pub IsDetermined : Type 0
IsDetermined =
    (old : State) (happened : Event) (reply other_reply : Answer) (notices other_notices : List Notice) (new other_new : State)
    → Step old happened reply notices new → Step old happened other_reply other_notices other_new
    → (reply ≡ other_reply) × (notices ≡ other_notices) × (new ≡ other_new)
