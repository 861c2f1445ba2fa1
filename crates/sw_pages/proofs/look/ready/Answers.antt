use Rattle.std.proofs.Common.{◌∙◌, Some, ap, sym}
use Rattle.sw_pages.proofs.Given.{found_given, found_there}
use Rattle.sw_pages.specs.Acts.{outcome_of}
use Rattle.sw_pages.specs.declared.worked.Worked.{Worked}
use Rattle.sw_rules.specs.Told.{answered}
use Rattle.sw_state.specs.Hosted.{state_of}
use Rattle.sw_pages.proofs.look.ready.Goals as goal

pub unwrap-requires : goal.unwrap-requires
unwrap-requires c = found_there (answered (state_of c.args.host.now)) _ _ c.ready_answer.ensures c.requires

pub returns-clause-gives : goal.returns-clause-gives
returns-clause-gives c who =
    found_given (answered (state_of c.args.host.now)) _ _ c.ready_answer.ensures c.unwrap.result c.unwrap.ensures
    ∙ ap (λ (worked : Worked). Some (outcome_of who worked (state_of c.args.host.now))) (sym c.answered.ensures)
