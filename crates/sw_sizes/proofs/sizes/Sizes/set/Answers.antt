use Rattle.std.proofs.Common.{refl, sym, subst, arith}
use Rattle.std.specs.List.{IsDistinct}
use Rattle.sw_list.specs.Named.{named_row, with_value}
use Rattle.sw_sizes.specs.Counted.{is_same}
use Rattle.sw_sizes.specs.Rows.{Row}
use Rattle.sw_sizes.proofs.CountedLemmas.{counted_set, held_within, row_within}
use Rattle.sw_sizes.proofs.RowLemmas.{same_keys}
use Rattle.sw_sizes.proofs.sizes.Sizes.set.Goals as goal

pub change-requires-clause-had : goal.change-requires-clause-had
change-requires-clause-had c =
    let row : Row = named_row c.row-row.result.now in
    let less = row_within c.self.inside.rows.rows c.args.at row c.row-row.ensures in
    let bytes = c.in_ok-before.ensures in
    let held = c.self.invariant.0.held c.row-row.result.now.key in
    omega (arith, less, bytes, held)

pub change-requires-clause-within : goal.change-requires-clause-within
change-requires-clause-within c = held_within c.self.inside.rows.rows c.self.inside.sums c.row-row.result.now.key c.self.invariant.0

pub invariant_of-self-2 : goal.invariant_of-self-2
invariant_of-self-2 c =
    let rows = c.self.inside.rows.rows in
    let row : Row = named_row c.row-row.result.now in (
      counted_set rows (with_value c.args.at c.args.parts rows) c.self.inside.sums c.change.new.self c.args.at row c.args.parts c.in_ok-before.before c.in_ok-after.after c.self.invariant.0 c.row-row.ensures refl c.in_ok-before.ensures c.in_ok-after.ensures c.in_ok-change.ensures.total c.in_ok-change.ensures.held,
      subst (IsDistinct is_same) (sym (same_keys rows c.args.at row c.args.parts c.row-row.ensures)) c.self.invariant.1,
    )
