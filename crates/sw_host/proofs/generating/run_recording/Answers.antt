-- The run began with nothing.
use Rattle.std.proofs.Common.{subst}
use Rattle.sw_disk.specs.Plain.{plain, plain_image}
use Rattle.sw_disk.specs.declared.plain.PlainDisk.{PlainDisk}
use Rattle.sw_host.proofs.GenLemmas.{began_with, generates, one_kept}
use Rattle.sw_host.proofs.generating.run_recording.Goals as goal
use Rattle.sw_pool.specs.Yards.{IsWorked, Origin}
use Rattle.sw_rules.specs.Storage.{nothing}

pub returns-in-Ok : goal.returns-in-Ok
returns-in-Ok c =
    let start = c.args.disk in
    let run = c.work_alone-disk.result in
    let from = c.in-Ok.ensures.origin in
    let worked =
    subst (λ (origin : Origin PlainDisk). IsWorked plain origin run.disk run.progress run.end) from.1 c.work_alone-disk.ensures in
    generates c.args.number c.args.size c.args.recording c.actions_in-actions.result run.progress run.end start run.disk from.0 c.report_of.result
    (one_kept from.0 nothing (plain_image start)
    (began_with c.args.recording run.progress.history.items start run.disk from.0 run.end worked.0.0) c.requires.kept)
    c.requires.recording c.actions_in-actions.ensures worked.0.0 worked.0.1 c.report_of.ensures.status c.report_of.ensures.text
