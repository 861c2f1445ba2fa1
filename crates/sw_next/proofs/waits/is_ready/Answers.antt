use Rattle.std.proofs.Common.{◌∙◌, ap}
use Rattle.std.specs.Prelude.{is_some}
use Rattle.sw_next.proofs.Boards.{some_mapped}
use Rattle.sw_rules.specs.Told.{answered}
use Rattle.sw_state.specs.Hosted.{state_of}
use Rattle.sw_next.proofs.waits.is_ready.Goals as goal

pub returns : goal.returns
returns c = c.is_some.ensures ∙ some_mapped (answered (state_of c.args.host.now)) c.ready_answer.result ∙ ap is_some c.ready_answer.ensures
