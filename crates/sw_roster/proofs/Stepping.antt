-- A coherent state stays so.
use Rattle.std.proofs.Common.{List, Option, ap, subst}
use Rattle.std.specs.Option.{option_map_or}
use Rattle.sw_data.specs.declared.answers.Answer.{Answer}
use Rattle.sw_data.specs.declared.answers.Notice.{Notice}
use Rattle.sw_data.specs.declared.events.Event.{Event}
use Rattle.sw_laws.proofs.LawProofs.{is_always_coherent}
use Rattle.sw_laws.specs.Coherent.{Coherent}
use Rattle.sw_rules.specs.State.{State}
use Rattle.sw_rules.specs.Step.{Step}
use Rattle.sw_rules.specs.Told.{Outcome}

pub stays_coherent : (state new : State) (happened : Event) (reply : Answer) (notices : List Notice) → Coherent state → Step state happened reply notices new → Coherent new
stays_coherent state new happened reply notices sound stepped =
    subst Coherent (ap (λ (r : Option Outcome). option_map_or (λ outcome. outcome.told.state) r state) stepped.1) (is_always_coherent.steps state happened sound)
