use Rattle.std.proofs.Common.{◌∙◌, ◌<◌, sym, ap, subst, refl}
use Rattle.sw_ledgers.specs.Drawn.{Table, drawn_of, one_more}
use Rattle.sw_ledgers.proofs.Drawing.{drawn_once}
use Rattle.sw_ledgers.proofs.Results.{on_ok}
use Rattle.sw_ledgers.proofs.draws.Draws.put.Goals as goal

pub returns-clause-rows : goal.returns-clause-rows
returns-clause-rows c =
    let room = subst (λ (table : Table). 0 < table.spare) (sym c.self.view_is) c.requires.room in
    let entries = on_ok c.insert.result c.insert.ensures.entries (c.insert.ensures.succeeds room) in
    let number = c.drawn-number.ensures
    ∙ (ap (drawn_of c.args.self.now.rows) c.as_slice.ensures.value
    ∙ ap (λ (table : Table). drawn_of table.rows c.args.address.items) (sym c.self.view_is)) in
    drawn_once _ _ (λ x y. refl) c.args.address c.self.inside.numbers.entries _ _ c.len-many.ensures.unique number entries
    ∙ ap (λ (table : Table). one_more table.rows c.args.address.items) c.self.view_is
