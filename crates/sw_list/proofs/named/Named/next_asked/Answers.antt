use Rattle.std.proofs.Common.{◌∙◌, ◌+◌, ap, drop, position, sym}
use Rattle.std.specs.Prelude.{option_copied, option_map}
use Rattle.sw_list.specs.Named.{Listing, is_asked}
use Rattle.sw_list.proofs.RowLemmas.{asked_from, number_some}
use Rattle.sw_list.proofs.named.Named.next_asked.Goals as goal

pub overflow_sub-number : goal.overflow_sub-number
overflow_sub-number g c =
    let rows = c.self.inside.rows in
    number_some rows.rows c.in_ok-number.number c.args.from rows.next c.self.invariant.0.bounded (sym c.in_ok-number.ensures)

pub returns-clause-place : goal.returns-clause-place
returns-clause-place g c =
    let rows = c.self.inside.rows in
    let of = c.self.invariant.0 in
    let n = c.in_ok-number.number in
    let at = sym c.in_ok-number.ensures in
    let key = c.args.key.now in
    let name = option_copied c.args.name in
    c.first_asked.ensures
    ∙ (asked_from key name rows.rows rows.next of.rising of.bounded c.args.from n at (number_some rows.rows n c.args.from rows.next of.bounded at)
    ∙ ap (λ (l : Listing g.row.V.Denot). option_map (λ place. c.args.from + place) (position (is_asked key name) (drop c.args.from l.rows))) c.self.view_is)
