use Rattle.std.proofs.Common.{◌∙◌, ◌<◌, ◌++◌, ◌∷◌, [], ap, arith, subst, sym}
use Rattle.sw_rules.specs.Rows.{is_promise, without}
use Rattle.sw_rules.specs.State.{Promise}
use Rattle.sw_ledgers.specs.Promised.{Table, rows_of}
use Rattle.sw_ledgers.proofs.Promising.{put_last}
use Rattle.sw_ledgers.proofs.Results.{on_ok}
use Rattle.sw_ledgers.proofs.promises.Promises.promise_put.Goals as goal

pub returns : goal.returns
returns c =
    let room = subst (λ (table : Table). 0 < table.spare) (sym c.self.view_is) c.requires in
    let kept = c.shift_remove.ensures.room.0 in
    let entries = on_ok c.insert.result c.insert.ensures.entries (c.insert.ensures.succeeds (omega (arith, room, kept))) in
    put_last c.row.inside.place c.row.inside.awaited c.self.inside.awaited.entries c.shift_remove.new.self.entries _
    c.len-many.ensures.unique c.shift_remove.ensures.entries entries
    ∙ (ap (λ (row : Promise). without (is_promise row.lane row.at) (rows_of c.self.inside.awaited.entries) ++ row ∷ []) c.row.view_is
    ∙ ap (λ (table : Table). without (is_promise c.args.row.lane c.args.row.at) table.rows ++ c.args.row ∷ []) c.self.view_is)
