use Rattle.std.proofs.Common.{◌≡◌, ◌∙◌, ◌+◌, ◌≤◌, ap, arith, subst, sym}
use Rattle.sw_list.specs.Named.{named_row}
use Rattle.sw_caches.specs.Sums.{at_key, held}
use Rattle.sw_caches.specs.Tables.{FitsTable, carried_rows}
use Rattle.sw_caches.proofs.CarryLemmas.{before_had, carried_on, counted_carried, has_room, has_some, held_within, key_after, low_after}
use Rattle.sw_caches.proofs.table.Caches.carry_out.Goals as goal

pub carry_row-before-requires : goal.carry_row-before-requires
carry_row-before-requires c = subst (λ table. FitsTable c.args.plan table.indexes) (sym c.self.view_is) c.requires

pub row-requires : goal.row-requires
row-requires c =
    let fits = subst (λ table. FitsTable c.args.plan table.indexes) (sym c.self.view_is) c.requires in
    low_after c.self.inside.rows.rows c.args.plan fits c.carry_row-before.new.rows.rows c.carry_row-before.ensures.rows

pub change-requires : goal.change-requires
change-requires c =
    let rows = c.self.inside.rows.rows in
    let plan = c.args.plan in
    let sums = c.self.inside.sums in
    let fits = subst (λ table. FitsTable plan table.indexes) (sym c.self.view_is) c.requires in
    let on = carried_on rows plan fits in
    let sizes = c.carry_row-before.ensures.bytes on.0 on.1 in
    let key = key_after rows plan fits c.carry_row-before.new.rows.rows c.carry_row-before.ensures.rows (named_row c.row.result.now) c.row.ensures in
    let before = c.carry_row-before.result.0 in
    let after = c.carry_row-before.result.1 in
    let some = has_some rows plan fits sums c.self.invariant before after sizes.0 sizes.1 in
    record {
      had = subst (λ k. before ≤ held sums k) (sym key) (before_had rows plan fits sums c.self.invariant before after sizes.0 sizes.1);
      stays = λ none. omega (arith, none, some);
      within = held_within rows sums c.row.result.now.key c.self.invariant;
      fits = has_room rows plan fits sums c.self.invariant before after sizes.0 sizes.1;
    }

pub invariant_of-self : goal.invariant_of-self
invariant_of-self c =
    let rows = c.self.inside.rows.rows in
    let plan = c.args.plan in
    let sums = c.self.inside.sums in
    let fits = subst (λ table. FitsTable plan table.indexes) (sym c.self.view_is) c.requires in
    let on = carried_on rows plan fits in
    let sizes = c.carry_row-before.ensures.bytes on.0 on.1 in
    let new = c.carry_row-before.new.rows.rows in
    let done = c.change.new.self in
    let key = key_after rows plan fits new c.carry_row-before.ensures.rows (named_row c.row.result.now) c.row.ensures in
    let before = c.carry_row-before.result.0 in
    let after = c.carry_row-before.result.1 in
    counted_carried rows plan fits sums c.self.invariant before after sizes.0 sizes.1 new done (c.carry_row-before.ensures.names c.self.invariant.names) c.carry_row-before.ensures.rows c.change.ensures.total
    (subst (λ k. (other : _) → held done other + at_key k other before ≡ held sums other + at_key k other after) key c.change.ensures.held)

pub returns : goal.returns
returns c = c.carry_row-before.ensures.rows ∙ ap (λ table. carried_rows c.args.plan table.rows) c.self.view_is
