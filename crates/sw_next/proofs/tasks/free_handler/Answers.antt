use Rattle.std.proofs.Common.{arith, subst}
use Rattle.std.proofs.lemmas.Grind.{common_steps}
use Rattle.std.specs.Option.{option_copied}
use Rattle.sw_next.proofs.Handling.{free_found}
use Rattle.sw_state.specs.Hosted.{IsJoined}
use Rattle.sw_next.proofs.tasks.free_handler.Goals as goal

pub returns-in_err-row : goal.returns-in_err-row
returns-in_err-row c =
    let joined = subst IsJoined c.host.view_is c.host.invariant in
    let is = free_found c.args.host.now joined c.args.worker (option_copied c.row.result) in
    grind (arith, common_steps, is)

pub returns : goal.returns
returns c =
    let joined = subst IsJoined c.host.view_is c.host.invariant in
    let is = free_found c.args.host.now joined c.args.worker (option_copied c.row.result) in
    grind (arith, common_steps, is)
