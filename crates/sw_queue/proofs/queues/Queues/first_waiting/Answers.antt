use Rattle.std.proofs.Common.{◌∙◌, ◌&&◌, map, ap}
use Rattle.std.specs.List.{find}
use Rattle.sw_rules.specs.Rows.{is_in_phase, is_first, is_waiting}
use Rattle.sw_queue.specs.Tables.{Table}
use Rattle.sw_queue.proofs.Marking.{starting_told}
use Rattle.sw_queue.proofs.queues.Queues.first_waiting.Goals as goal

pub returns : goal.returns
returns c =
    let rows = c.self.inside.rows.items in
    let told = starting_told rows c.self.inside.followers.lists c.self.inside.index c.self.inside.ready c.self.invariant.kept c.self.invariant.marked in
    let same = c.deref.ensures.value in
    c.first_starting.ensures (λ row. is_in_phase is_waiting row && is_first rows row)
    (ap (map (λ row. is_in_phase is_waiting row && is_first rows row)) same ∙ told)
    ∙ (ap (find (λ row. is_in_phase is_waiting row && is_first rows row)) same
    ∙ ap (λ (table : Table). find (λ row. is_in_phase is_waiting row && is_first table.rows row) table.rows) c.self.view_is)
