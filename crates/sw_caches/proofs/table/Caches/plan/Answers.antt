use Rattle.std.proofs.Common.{◌≡◌, ◌∙◌, None, ap, map, refl, subst, sym}
use Rattle.std.specs.Prelude.{slice_get, IfOk, IfErr, Ok, Some}
use Rattle.sw_data.specs.declared.storage.KeptCache.{KeptCache}
use Rattle.sw_rules.specs.Batch.{batch}
use Rattle.sw_rules.specs.Caching.{pairs_of}
use Rattle.sw_caches.specs.declared.fault.BatchFault.TheVariants as fault
use Rattle.sw_caches.specs.Plans.{IsThrown, carried}
use Rattle.sw_caches.specs.Tables.{IsBatch, IsRefused, IsRefusedOf, carried_rows, kept_row}
use Rattle.sw_caches.proofs.TableLemmas.{none_at, place_at, planned_at, thrown_at}
use Rattle.sw_caches.proofs.table.Caches.plan.Goals as goal

pub returns-in-Some-clause-ok : goal.returns-in-Some-clause-ok
returns-in-Some-clause-ok c =
    let key = c.args.key.now in
    let name = c.args.name.now in
    let ops = c.args.ops.items in
    let inside = c.self.inside.rows.rows in
    let place = c.in-Some.place in
    let rows : map kept_row inside ≡ c.args.self.now.rows = ap (λ table. table.rows) c.self.view_is in
    subst (λ list. IfOk c.plan_at.result (λ plan. IsBatch key name ops list (carried_rows plan list))) rows
    (planned_at key name ops inside place (place_at key name inside place c.in-Some.ensures) c.plan_at.result c.plan_at.ensures.place
    (subst (λ list. IfOk c.plan_at.result (λ plan. (row : KeptCache) → slice_get list place ≡ Some row → batch row.pairs ops ≡ Ok (carried plan.change row.pairs))) (sym rows) c.plan_at.ensures.ok))

pub returns-in-Some-clause-err : goal.returns-in-Some-clause-err
returns-in-Some-clause-err c =
    let key = c.args.key.now in
    let name = c.args.name.now in
    let ops = c.args.ops.items in
    let inside = c.self.inside.rows.rows in
    let place = c.in-Some.place in
    let rows : map kept_row inside ≡ c.args.self.now.rows = ap (λ table. table.rows) c.self.view_is in
    subst (λ list. IfErr c.plan_at.result (IsRefused key name ops list)) rows
    (thrown_at key name ops inside place (place_at key name inside place c.in-Some.ensures) c.plan_at.result
    (subst (λ list. IfErr c.plan_at.result (λ why. (row : KeptCache) → slice_get list place ≡ Some row → IsThrown why (batch row.pairs ops))) (sym rows) c.plan_at.ensures.err))

pub returns-in-None-clause-err : goal.returns-in-None-clause-err
returns-in-None-clause-err c =
    let gone : None ≡ pairs_of c.args.key.now c.args.name.now c.args.self.now.rows =
    none_at c.args.key.now c.args.name.now c.self.inside.rows.rows c.in-None.ensures ∙ ap (λ table. pairs_of c.args.key.now c.args.name.now table.rows) c.self.view_is in
    subst (λ found. IsRefusedOf found c.args.ops.items fault.CacheGone) gone refl
