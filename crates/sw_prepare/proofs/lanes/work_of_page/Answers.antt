use Rattle.sw_prepare.proofs.Given.{agrees_too}
use Rattle.sw_data.specs.declared.events.Who.TheVariants as maker
use Rattle.sw_pages.specs.Acts as pages
use Rattle.sw_rules.specs.Step.{step}
use Rattle.sw_state.specs.Hosted.{state_of}
use Rattle.sw_prepare.proofs.lanes.work_of_page.Goals as goal

pub returns-clause-works : goal.returns-clause-works
returns-clause-works c =
    let state = state_of c.args.host.now in
    record {
      means =
          agrees_too (pages.outcome_of (maker.Lane c.args.lane c.args.at) c.in_ok-worked.worked state) c.in_ok-asked.field-0 state (step state c.args.event.now)
          (c.in_ok-asked.ensures.agrees state) c.in_ok-worked.ensures.gives;
      fits = c.in_ok-asked.ensures.fits;
    }
