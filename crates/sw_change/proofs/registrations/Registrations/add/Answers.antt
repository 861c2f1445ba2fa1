use Rattle.std.proofs.Common.{◌≡◌, ◌∙◌, ◌++◌, ◌∷◌, [], ap, sym, subst}
use Rattle.std.specs.List.{IsDistinct, list_any}
use Rattle.std.specs.Map.{keys_of}
use Rattle.sw_rules.specs.Storage.{is_registration}
use Rattle.sw_change.specs.Table.{is_same}
use Rattle.sw_change.proofs.Entries.{Entries, added_apart}
use Rattle.sw_change.proofs.registrations.Registrations.add.Goals as goal

pub invariant_of-self-2 : goal.invariant_of-self-2
invariant_of-self-2 c =
    let place = c.args.place in
    let row = c.args.row in
    let was = c.self.inside.rows.rows in
    let made = c.in_ok-new.ensures in
    let added : c.put.new.self.rows ≡ was ++ (place, row) ∷ [] = c.put.ensures ∙ (λ i. made.same i ++ ((made.key i, made.name i), row) ∷ []) in
    subst (λ (entries : Entries). IsDistinct is_same (keys_of entries)) (sym added)
    (added_apart place row was c.self.invariant (ap (list_any (is_registration place.0 place.1)) c.self.view_is ∙ c.requires))
