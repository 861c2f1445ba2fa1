use Rattle.std.proofs.Common.{◌∙◌, ◌&&◌, ap, bytes_eq}
use Rattle.std.specs.List.{list_any}
use Rattle.sw_rules.specs.Rows.{is_unfinished}
use Rattle.sw_queue.specs.Tables.{Table}
use Rattle.sw_queue.proofs.Tallying.{any_of}
use Rattle.sw_queue.proofs.queues.Queues.has_unfinished_of.Goals as goal

pub returns : goal.returns
returns c =
    c.has.ensures
    ∙ (any_of c.args.key.now c.self.inside.rows.items c.self.inside.keys c.self.invariant.tallied
    ∙ ap (λ (table : Table). list_any (λ row. is_unfinished row && bytes_eq row.job.key c.args.key.now) table.rows) c.self.view_is)
