use Rattle.std.proofs.Common.{◌∙◌, option_map, ap}
use Rattle.std.specs.Prelude.{is_some}
use Rattle.sw_data.specs.declared.answers.Settlement.{Settlement}
use Rattle.sw_next.proofs.Boards.{some_mapped}
use Rattle.sw_rules.specs.Clients.{settlement_answer}
use Rattle.sw_rules.specs.State.{State}
use Rattle.sw_rules.specs.Told.{Outcome, answered}
use Rattle.sw_state.specs.Hosted.{state_of}
use Rattle.sw_next.proofs.waits.has_settled.Goals as goal

abbrev settled : State → Settlement → Outcome
settled state value = answered state (settlement_answer value)

pub returns : goal.returns
returns c at =
    let state = state_of c.args.host.now in
    c.is_some.ensures ∙ some_mapped (settled state) c.promised_value.result ∙ ap (λ o. is_some (option_map (settled state) o)) c.promised_value.ensures
