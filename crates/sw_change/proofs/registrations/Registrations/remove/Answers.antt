use Rattle.std.proofs.Common.{Bool, List, ◌∙◌, not, filter, ap, sym, subst}
use Rattle.std.specs.List.{IsDistinct}
use Rattle.std.specs.Map.{keys_of}
use Rattle.std.proofs.lemmas.Map.Made.{IsDistinct-keys_filter}
use Rattle.sw_data.specs.declared.storage.KeptRegistration.{KeptRegistration}
use Rattle.sw_rules.specs.Storage.{is_registration}
use Rattle.sw_list.specs.Named.{is_at}
use Rattle.sw_change.specs.Table.{is_same, kept_rows}
use Rattle.sw_change.proofs.Entries.{Entries, filtered}
use Rattle.sw_change.proofs.registrations.Registrations.remove.Goals as goal

pub invariant_of-self : goal.invariant_of-self
invariant_of-self c =
    let place = c.args.place.now in
    subst (λ (entries : Entries). IsDistinct is_same (keys_of entries)) (sym c.remove_named.ensures)
    (IsDistinct-keys_filter is_same (λ row. not (is_at place.0 place.1 row)) c.self.inside.rows.rows c.self.invariant)

pub returns : goal.returns
returns c =
    let place = c.args.place.now in
    let kept : KeptRegistration → Bool = λ row. not (is_registration place.0 place.1 row) in
    ap kept_rows c.remove_named.ensures ∙ filtered kept c.self.inside.rows.rows
    ∙ ap (λ (rows : List KeptRegistration). filter kept rows) c.self.view_is
