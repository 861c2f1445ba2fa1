use Rattle.std.proofs.Common.{◌∙◌, refl, ap, arith}
use Rattle.sw_data.specs.declared.rows.JobPhase.TheVariants as job_phase
use Rattle.sw_data.specs.declared.rows.JobRow.{JobRow}
use Rattle.sw_install.proofs.Noted.{noted_as}
use Rattle.sw_queue.specs.Tables.{Table}
use Rattle.sw_install.proofs.notes.note_install.Goals as goal

pub returns-in-Some-clause-rows : goal.returns-in-Some-clause-rows
returns-in-Some-clause-rows c =
    ap (λ (t : Table). t.rows) c.note.ensures.noted
    ∙ noted_as (λ (row : JobRow). record row { phase = job_phase.Installing; remembered = c.args.remembered }) _ c.args.job c.args.queues.now.rows c.in-Some.row.now
    c.requires.numbers (grind (arith, c.row.ensures, c.in-Some.is)) refl
