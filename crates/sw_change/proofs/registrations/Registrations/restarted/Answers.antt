use Rattle.std.proofs.Common.{◌≡◌, ◌∙◌, ◌<◌, Some, length, map, sym, ap, subst, arith}
use Rattle.std.specs.Prelude.{slice_get}
use Rattle.std.specs.List.{IsDistinct}
use Rattle.std.specs.Map.{keys_of}
use Rattle.sw_rules.specs.Storage.{promoted}
use Rattle.sw_list.specs.Named.{values, with_value}
use Rattle.sw_change.specs.Table.{is_same, kept_rows}
use Rattle.sw_change.proofs.Entries.{Entries, all_promoted, one_promoted, promoted_keys, promoted_to}
use Rattle.sw_change.proofs.registrations.Registrations.restarted.Goals as goal

pub invariant_of-self : goal.invariant_of-self
invariant_of-self c =
    let is = c.loop-place.invariant.2 in
    subst (IsDistinct is_same) (sym (ap keys_of is ∙ promoted_keys c.self.inside.rows.rows c.loop-place.place)) c.self.invariant

pub loop-place-preserved : goal.loop-place-preserved
loop-place-preserved c =
    let was = c.self.inside.rows.rows in
    let place = c.loop-place.place in
    let held = c.loop-place.invariant in
    let end = held.0 in
    let more = c.loop-place-test.true in
    let low : place < length was = omega (arith, more, end) in
    let value : slice_get (values (promoted_to place was)) place ≡ Some c.value_mut.result.now = ap (λ (rows : Entries). slice_get (values rows) place) (sym held.2) ∙ c.value_mut.ensures.value in (
      end,
      omega (arith, low, end),
      (λ i. with_value place (c.promote.ensures i) (held.2 i)) ∙ one_promoted was place c.value_mut.result.now low value,
    )

pub returns : goal.returns
returns c =
    let was = c.self.inside.rows.rows in
    let held = c.loop-place.invariant in
    let end = held.0 in
    let below = held.1 in
    let done = c.loop-place-test.false in
    let all : c.loop-place.place ≡ length was = omega (arith, end, below, done) in
    ap kept_rows (held.2 ∙ ap (λ n. promoted_to n was) all) ∙ all_promoted was ∙ ap (map promoted) c.self.view_is
