use Rattle.std.proofs.Common.{List, ◌∙◌, slice_get, ap}
use Rattle.std.specs.List.{find}
use Rattle.sw_data.specs.declared.rows.JobRow.{JobRow}
use Rattle.sw_rules.specs.Rows.{is_job}
use Rattle.sw_queue.specs.Tables.{Table}
use Rattle.sw_queue.proofs.Reading.{got, row_found}
use Rattle.sw_queue.proofs.queues.Queues.row.Goals as goal

pub returns : goal.returns
returns c =
    got c.deref.result.now c.args.job c.get.result c.get.ensures.lookup.0 c.get.ensures.lookup.1
    ∙ ap (λ (rows : List JobRow). slice_get rows c.args.job) c.deref.ensures.value
    ∙ row_found _ _ _ c.self.invariant.kept c.args.job
    ∙ ap (λ (table : Table). find (is_job c.args.job) table.rows) c.self.view_is
