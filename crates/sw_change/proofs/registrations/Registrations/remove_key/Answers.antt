use Rattle.std.proofs.Common.{Bool, List, ◌∙◌, not, filter, ap, sym, subst}
use Rattle.std.specs.Prelude.{bytes_eq}
use Rattle.std.specs.List.{IsDistinct}
use Rattle.std.specs.Map.{keys_of}
use Rattle.std.proofs.lemmas.Map.Made.{IsDistinct-keys_filter}
use Rattle.sw_data.specs.declared.storage.KeptRegistration.{KeptRegistration}
use Rattle.sw_list.specs.Named.{is_of}
use Rattle.sw_change.specs.Table.{is_same, kept_rows}
use Rattle.sw_change.proofs.Entries.{Entries, filtered}
use Rattle.sw_change.proofs.registrations.Registrations.remove_key.Goals as goal

pub invariant_of-self : goal.invariant_of-self
invariant_of-self c =
    subst (λ (entries : Entries). IsDistinct is_same (keys_of entries)) (sym c.remove_key.ensures)
    (IsDistinct-keys_filter is_same (λ row. not (is_of c.args.key.now row)) c.self.inside.rows.rows c.self.invariant)

pub returns : goal.returns
returns c =
    let kept : KeptRegistration → Bool = λ row. not (bytes_eq row.key c.args.key.now) in
    ap kept_rows c.remove_key.ensures ∙ filtered kept c.self.inside.rows.rows
    ∙ ap (λ (rows : List KeptRegistration). filter kept rows) c.self.view_is
