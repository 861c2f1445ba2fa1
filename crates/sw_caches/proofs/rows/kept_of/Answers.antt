use Rattle.std.proofs.Common.{◌≡◌, ◌∙◌, ◌++◌, ◌∷◌, [], ap, map, sym, take}
use Rattle.std.proofs.lemmas.List.{map_more}
use Rattle.std.proofs.lemmas.Option.{get_or_from_slice_get, slice_get_within}
use Rattle.sw_data.specs.declared.storage.KeptCache.{KeptCache}
use Rattle.sw_list.specs.Named.{named_row}
use Rattle.sw_caches.specs.Tables.{Row, kept_row}
use Rattle.sw_caches.proofs.rows.kept_of.Goals as goal

pub loop-place-preserved : goal.loop-place-preserved
loop-place-preserved c =
    let rows = c.args.rows.now.rows in
    let place = c.loop-place.place in
    let row : Row = named_row c.row-row.result.now in
    let cache : KeptCache = record { key = c.in_ok-copy.field-0; name = c.in_ok-copy-2.field-0; pairs = c.in_ok-to_items.field-0 } in
    let is : cache ≡ kept_row row = (λ i. record { key = c.in_ok-copy.ensures i; name = c.in_ok-copy-2.ensures i; pairs = c.in_ok-to_items.ensures i }) in
    c.in_ok-push.ensures.items
    ∙ ((λ i. c.loop-place.invariant i ++ is i ∷ [])
    ∙ sym (map_more kept_row rows place row (slice_get_within rows place row c.row-row.ensures)
    ∙ ap (λ (last : Row). map kept_row (take place rows) ++ kept_row last ∷ []) (get_or_from_slice_get rows place row row c.row-row.ensures)))
