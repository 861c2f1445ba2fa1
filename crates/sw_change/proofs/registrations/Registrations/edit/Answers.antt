use Rattle.std.proofs.Common.{◌∙◌, sym, ap, subst}
use Rattle.std.specs.List.{IsDistinct}
use Rattle.sw_rules.specs.Storage.{with_registration}
use Rattle.sw_change.specs.Table.{edited, is_same}
use Rattle.sw_change.proofs.Entries.{edited_rows, found, same_keys, same_rows}
use Rattle.sw_change.proofs.registrations.Registrations.edit.Goals as goal

pub invariant_of-self : goal.invariant_of-self
invariant_of-self c = subst (IsDistinct is_same) (sym (same_keys c.self.inside.rows.rows c.in-Some.at c.edit.new.self)) c.self.invariant

pub returns-in-Some : goal.returns-in-Some
returns-in-Some c =
    let place = c.args.place.now in
    let was = c.self.inside.rows.rows in
    let here = found place was c.in-Some.at (sym c.place.ensures ∙ c.in-Some.is) in
    edited_rows place (edited c.args.edit) was c.in-Some.at c.value_mut.result.now c.edit.new.self c.self.invariant here.0 here.1 c.value_mut.ensures.value c.edit.ensures
    ∙ ap (with_registration place.0 place.1 (edited c.args.edit)) c.self.view_is

pub returns-in_default : goal.returns-in_default
returns-in_default c =
    let place = c.args.place.now in
    rw (← c.self.view_is) (sym (same_rows place (edited c.args.edit) c.self.inside.rows.rows (sym c.in_default.is ∙ c.place.ensures)))
