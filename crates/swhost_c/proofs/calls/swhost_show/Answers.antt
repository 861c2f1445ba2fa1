use Rattle.std.proofs.Common.{[]}
use Rattle.sw_host.specs.declared.command.Command.TheVariants as command
use Rattle.swhost_c.proofs.CallLemmas.{answers_text}
use Rattle.swhost_c.proofs.calls.swhost_show.Goals as goal

pub returns-in-Ok : goal.returns-in-Ok
returns-in-Ok c =
    answers_text command.Show [] _ c.in-Ok.disk c.show.new.disk c.in-Ok.ensures c.args.room.now c.hand_text.new.room c.hand_text.result c.show.result
    c.hand_text.new.count c.show.ensures.shows c.hand_text.ensures.out c.hand_text.ensures.nothing
