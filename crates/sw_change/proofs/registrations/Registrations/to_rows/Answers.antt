use Rattle.std.proofs.Common.{◌∙◌, ◌++◌, ◌∷◌, [], ap, sym, take}
use Rattle.std.proofs.lemmas.List.{map_more}
use Rattle.std.proofs.lemmas.Option.{get_or_from_slice_get, slice_get_within}
use Rattle.sw_list.specs.Named.{named_row}
use Rattle.sw_change.specs.declared.registration.Registration.{Registration}
use Rattle.sw_change.specs.Table.{Place, kept_row, kept_rows}
use Rattle.sw_change.proofs.registrations.Registrations.to_rows.Goals as goal

pub loop-place-preserved : goal.loop-place-preserved
loop-place-preserved c =
    let rows = c.self.inside.rows.rows in
    let place = c.loop-place.place in
    let row : Place × Registration = named_row c.row-row.result.now in
    c.in_ok-push.ensures.items
    ∙ ((λ i. c.loop-place.invariant i ++ c.in_ok-to_row.ensures i ∷ [])
    ∙ sym (map_more kept_row rows place row (slice_get_within rows place row c.row-row.ensures)
    ∙ ap (λ (last : Place × Registration). kept_rows (take place rows) ++ kept_row last ∷ []) (get_or_from_slice_get rows place row row c.row-row.ensures)))
