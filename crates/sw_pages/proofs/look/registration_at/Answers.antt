use Rattle.std.proofs.Common.{◌∙◌, sym}
use Rattle.std.proofs.lemmas.Result.{IfOk-weaker}
use Rattle.sw_pages.proofs.Active.{looked_up}
use Rattle.sw_state.specs.Hosted.{state_of}
use Rattle.sw_pages.proofs.look.registration_at.Goals as goal

pub returns-in-Ok-clause-gives : goal.returns-in-Ok-clause-gives
returns-in-Ok-clause-gives c =
    IfOk-weaker c.matched_at.result _ _
    (λ worked is who. looked_up (state_of c.args.host.now) c.args.client c.in-Some.row.now c.args.url.now c.in-Ok.url (sym c.in-Some.ensures) c.in-Ok.ensures.ok ∙ is who)
    c.matched_at.ensures.gives
