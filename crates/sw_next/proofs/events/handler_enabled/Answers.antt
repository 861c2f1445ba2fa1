use Rattle.std.proofs.Common.{◌∙◌, ap}
use Rattle.std.specs.Prelude.{is_some}
use Rattle.sw_next.proofs.Enabling.{call_comes}
use Rattle.sw_state.specs.Hosted.{state_of}
use Rattle.sw_data.specs.declared.events.Who.TheVariants as maker
use Rattle.sw_next.proofs.events.handler_enabled.Goals as goal

pub returns-in-Call : goal.returns-in-Call
returns-in-Call c =
    c.may_call.ensures
    ∙ ap is_some
    (call_comes (state_of c.args.host.now) c.args.event.now c.in-Call.who c.in-Call.call (maker.Handler c.args.worker c.args.phase c.args.number) c.in-Call.is c.requires)
