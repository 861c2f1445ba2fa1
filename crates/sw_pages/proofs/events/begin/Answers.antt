use Rattle.sw_data.specs.declared.events.Who.TheVariants as maker
use Rattle.sw_pages.proofs.Given.{found_given, found_there}
use Rattle.sw_pages.specs.Acts.{outcome_of}
use Rattle.sw_pages.specs.declared.worked.Worked.{Worked}
use Rattle.sw_state.specs.Hosted.{state_of}
use Rattle.sw_pages.proofs.events.begin.Goals as goal

pub unwrap-requires : goal.unwrap-requires
unwrap-requires c =
    found_there (λ (worked : Worked). outcome_of maker.Host worked (state_of c.args.host.now)) _ _ (c.in_ok-begin_where.ensures.outcome maker.Host) c.requires.enabled

pub returns-clause-gives : goal.returns-clause-gives
returns-clause-gives c who =
    found_given (λ (worked : Worked). outcome_of who worked (state_of c.args.host.now)) _ _ (c.in_ok-begin_where.ensures.outcome who) c.unwrap.result c.unwrap.ensures
