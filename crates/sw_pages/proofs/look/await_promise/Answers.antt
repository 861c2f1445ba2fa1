use Rattle.std.proofs.Common.{◌∙◌, Some, option_map, ap, sym}
use Rattle.sw_data.specs.declared.answers.Settlement.{Settlement}
use Rattle.sw_pages.proofs.Given.{found_given, found_there}
use Rattle.sw_pages.specs.Acts.{outcome_of}
use Rattle.sw_pages.specs.declared.worked.Worked.{Worked}
use Rattle.sw_data.specs.declared.events.Who.TheVariants as maker
use Rattle.sw_rules.specs.Clients.{settlement_answer}
use Rattle.sw_rules.specs.State.{State}
use Rattle.sw_rules.specs.Told.{Outcome, answered}
use Rattle.sw_state.specs.Hosted.{state_of}
use Rattle.sw_pages.proofs.look.await_promise.Goals as goal

-- the outcome of a promise by its value
abbrev settled : State → Settlement → Outcome
settled state value = answered state (settlement_answer value)

pub unwrap-requires : goal.unwrap-requires
unwrap-requires c =
    found_there (settled (state_of c.args.host.now)) _ _ (ap (option_map (settled (state_of c.args.host.now))) c.promised_value.ensures) (c.requires 0)

pub returns-clause-gives : goal.returns-clause-gives
returns-clause-gives c at =
    let state = state_of c.args.host.now in
    found_given (settled state) _ _ (ap (option_map (settled state)) c.promised_value.ensures) c.unwrap.result c.unwrap.ensures
    ∙ ap (λ reply. Some (answered state reply)) (sym c.settlement_answer.ensures)
    ∙ ap (λ (worked : Worked). Some (outcome_of (maker.Lane c.args.lane at) worked state)) (sym c.answered.ensures)
