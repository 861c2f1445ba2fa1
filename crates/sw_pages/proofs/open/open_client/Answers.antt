use Rattle.std.proofs.Common.{◌≡◌, ◌∙◌, false, is_some, option_copied, arith}
use Rattle.std.proofs.lemmas.Result.{IfOk-weaker}
use Rattle.sw_pages.proofs.Opening.{open_parsed}
use Rattle.sw_rules.specs.Rows.{client_row}
use Rattle.sw_state.specs.Hosted.{state_of}
use Rattle.sw_pages.proofs.open.open_client.Goals as goal

pub returns-in_ok-key-in-Ok-clause-gives : goal.returns-in_ok-key-in-Ok-clause-gives
returns-in_ok-key-in-Ok-clause-gives c =
    let state = state_of c.args.host.now in
    let free : is_some (client_row state c.args.client) ≡ false = grind (arith, c.client_row.ensures, c.if-is_some.false) in
    IfOk-weaker c.open_at.result _ _
    (λ worked is who. open_parsed state c.args.client c.args.url.now c.in-Ok.address (option_copied c.args.partition) c.in_ok-key-in-Ok.key c.in-Ok.ensures c.in_ok-key-in-Ok.ensures.key free ∙ is who)
    c.open_at.ensures.gives
