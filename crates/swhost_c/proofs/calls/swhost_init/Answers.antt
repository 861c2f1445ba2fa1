use Rattle.std.proofs.Common.{[]}
use Rattle.sw_disk.specs.Plain.{plain}
use Rattle.sw_host.specs.Stands.{Formats, LeavesOthers}
use Rattle.sw_host.specs.declared.command.Command.TheVariants as command
use Rattle.swhost_c.proofs.CallLemmas.{answers, ok_and}
use Rattle.swhost_c.proofs.calls.swhost_init.Goals as goal

pub returns-in-Ok : goal.returns-in-Ok
returns-in-Ok c =
    let old = c.in-Ok.disk in
    let new = c.format-report.new.disk in
    let report = c.format-report.result in
    let stands = ok_and report (λ r. Formats plain old new r.status r.text) (LeavesOthers plain old new) c.format-report.ensures.formats c.format-report.ensures.others in
    answers command.Init [] _ old new c.in-Ok.ensures c.args.room.now c.hand_out.new.room c.hand_out.result report c.hand_out.new.lengths stands
    c.hand_out.ensures.out c.hand_out.ensures.nothing
