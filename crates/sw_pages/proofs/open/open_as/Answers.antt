use Rattle.std.proofs.Common.{◌∙◌, sym, ap}
use Rattle.sw_data.specs.declared.answers.Answer.{Answer}
use Rattle.sw_pages.proofs.Opening.{open_here, opened, outcome}
use Rattle.sw_state.specs.Hosted.{state_of}
use Rattle.sw_pages.proofs.open.open_as.Goals as goal

pub returns-clause-gives : goal.returns-clause-gives
returns-clause-gives c who =
    let state = state_of c.args.host.now in
    let found = c.opening_controller-controller.result in
    let row = opened c.args.client c.args.url c.args.key c.in_ok-secure.secure found in
    open_here state c.args.client c.args.key c.args.url c.in_ok-secure.secure found c.in_ok-secure.ensures c.opening_controller-controller.ensures.controller
    ∙ ap (λ (reply : Answer). outcome state reply row) (sym c.worker_or_none.ensures)
    ∙ ap (outcome state c.worker_or_none.result) (sym c.in-Ok.ensures.row)
