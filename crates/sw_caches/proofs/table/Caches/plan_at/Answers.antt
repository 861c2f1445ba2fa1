use Rattle.std.proofs.Common.{◌≡◌, ◌∙◌, ap, map, subst, sym}
use Rattle.std.specs.Prelude.{slice_get, IfOk, IfErr, Ok, Some}
use Rattle.sw_data.specs.declared.storage.KeptCache.{KeptCache}
use Rattle.sw_rules.specs.Batch.{batch}
use Rattle.sw_list.specs.Named.{with_value}
use Rattle.sw_caches.specs.Bytes.{bytes_of}
use Rattle.sw_caches.specs.Plans.{IsThrown, carried}
use Rattle.sw_caches.specs.Tables.{kept_row}
use Rattle.sw_caches.proofs.CountedLemmas.{counted_kept, sizes_are}
use Rattle.sw_caches.proofs.TableLemmas.{fits_row, named_written, planned_row, same_row, thrown_row}
use Rattle.sw_caches.proofs.table.Caches.plan_at.Goals as goal

pub invariant_of-self : goal.invariant_of-self
invariant_of-self c =
    let rows = c.self.inside.rows.rows in
    let place = c.args.place in
    let cache = c.value_mut.result.now in
    let new = c.plan_pairs.new.cache in
    counted_kept rows (with_value place new rows) c.self.inside.sums c.self.invariant
    (named_written rows place cache c.value_mut.ensures.value new c.plan_pairs.ensures.names c.self.invariant.names)
    (same_row rows place cache c.value_mut.ensures.value new c.plan_pairs.ensures.same)

pub returns-clause-same : goal.returns-clause-same
returns-clause-same c =
    same_row c.self.inside.rows.rows c.args.place c.value_mut.result.now c.value_mut.ensures.value c.plan_pairs.new.cache c.plan_pairs.ensures.same
    ∙ ap (λ table. table.rows) c.self.view_is

pub returns-clause-fits : goal.returns-clause-fits
returns-clause-fits c =
    let rows = c.self.inside.rows.rows in
    let place = c.args.place in
    let cache = c.value_mut.result.now in
    let new = c.plan_pairs.new.cache in
    let named = named_written rows place cache c.value_mut.ensures.value new c.plan_pairs.ensures.names c.self.invariant.names in
    let total = sizes_are (with_value place new rows) named ∙ (ap bytes_of (same_row rows place cache c.value_mut.ensures.value new c.plan_pairs.ensures.same) ∙ sym c.self.invariant.total) in
    fits_row rows place cache c.value_mut.ensures.value new c.self.inside.sums.total c.plan_pairs.result c.plan_pairs.ensures.place c.plan_pairs.ensures.fits
    c.plan_pairs.ensures.names c.plan_pairs.ensures.bytes total c.plan_pairs.ensures.room

pub returns-clause-ok : goal.returns-clause-ok
returns-clause-ok c =
    let rows : map kept_row c.self.inside.rows.rows ≡ c.args.self.now.rows = ap (λ table. table.rows) c.self.view_is in
    subst (λ list. IfOk c.plan_pairs.result (λ plan. (kept : KeptCache) → slice_get list c.args.place ≡ Some kept → batch kept.pairs c.args.ops.items ≡ Ok (carried plan.change kept.pairs))) rows
    (planned_row c.self.inside.rows.rows c.args.place c.value_mut.result.now c.value_mut.ensures.value c.args.ops.items c.plan_pairs.result c.plan_pairs.ensures.ok)

pub returns-clause-err : goal.returns-clause-err
returns-clause-err c =
    let rows : map kept_row c.self.inside.rows.rows ≡ c.args.self.now.rows = ap (λ table. table.rows) c.self.view_is in
    subst (λ list. IfErr c.plan_pairs.result (λ why. (kept : KeptCache) → slice_get list c.args.place ≡ Some kept → IsThrown why (batch kept.pairs c.args.ops.items))) rows
    (thrown_row c.self.inside.rows.rows c.args.place c.value_mut.result.now c.value_mut.ensures.value c.args.ops.items c.plan_pairs.result c.plan_pairs.ensures.err)
