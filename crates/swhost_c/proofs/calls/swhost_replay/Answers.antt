use Rattle.sw_host.specs.declared.command.Command.TheVariants as command
use Rattle.swhost_c.proofs.CallLemmas.{answers}
use Rattle.swhost_c.proofs.calls.swhost_replay.Goals as goal

pub returns-in-Ok : goal.returns-in-Ok
returns-in-Ok c =
    let done = c.replay_alone-report.result in
    answers (command.Replay 1) c.args.recording.now _ c.in-Ok.disk done.1 c.in-Ok.ensures c.args.room.now c.hand_out.new.room c.hand_out.result done.0
    c.hand_out.new.lengths c.replay_alone-report.ensures.stands c.hand_out.ensures.out c.hand_out.ensures.nothing
