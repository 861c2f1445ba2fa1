use Rattle.std.proofs.Common.{◌∙◌, ap}
use Rattle.std.proofs.lemmas.Result.{IfOk-weaker}
use Rattle.sw_rules.specs.Clients as rules
use Rattle.sw_state.specs.Hosted.{state_of}
use Rattle.sw_pages.proofs.open.open_at.Goals as goal

pub returns-in-Some-clause-gives : goal.returns-in-Some-clause-gives
returns-in-Some-clause-gives c =
    IfOk-weaker c.open_as.result _ _
    (λ worked is who. ap (rules.open_at (state_of c.args.host.now) c.args.client c.args.url) c.in-Some.is ∙ is who)
    c.open_as.ensures.gives
