use Rattle.std.proofs.Common.{◌∙◌, sym}
use Rattle.sw_pages.proofs.Opening.{opening}
use Rattle.sw_state.specs.Hosted.{state_of}
use Rattle.sw_pages.proofs.open.opening_controller.Goals as goal

pub returns-then-secure-clause-controller : goal.returns-then-secure-clause-controller
returns-then-secure-clause-controller c =
    opening (state_of c.args.host.now) c.args.key.now c.args.url.now _ c.active_at.result (sym c.if-secure.true ∙ c.requires) c.as_bytes.ensures c.active_at.ensures.found
