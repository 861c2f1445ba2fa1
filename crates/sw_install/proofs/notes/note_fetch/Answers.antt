use Rattle.std.proofs.Common.{◌∙◌, refl, ap, arith}
use Rattle.sw_install.proofs.Noted.{noted_as}
use Rattle.sw_install.specs.Runs.{fetches}
use Rattle.sw_queue.specs.Tables.{Table}
use Rattle.sw_install.proofs.notes.note_fetch.Goals as goal

pub returns-in-Some : goal.returns-in-Some
returns-in-Some c = record {
  rows =
      ap (λ (t : Table). t.rows) c.note.ensures.noted
      ∙ noted_as (fetches c.args.registration c.args.ordinal) _ c.args.job c.args.queues.now.rows c.in-Some.row.now
      c.requires.numbers (grind (arith, c.row.ensures, c.in-Some.is)) refl;
}
