use Rattle.std.proofs.Common.{◌∙◌, ap, nat_eq, position, subst, sym}
use Rattle.std.specs.List.{IsDistinct}
use Rattle.std.specs.Map.{keys_of, lookup, remove_entry}
use Rattle.sw_list.specs.Stamped.{IsStamped, marks_of}
use Rattle.sw_list.specs.Sequence.{Sequence}
use Rattle.sw_list.proofs.StampMarks.{none_removed}
use Rattle.sw_list.proofs.StampRows.{apart_entries, removed_entries, removed_kept, removed_value, value_none}
use Rattle.sw_list.proofs.ordered.Ordered.remove.Goals as goal

pub invariant_of-self : goal.invariant_of-self
invariant_of-self g c =
    let at = c.in-Some.ensures ∙ ap (λ (o : Sequence g.row.V.Denot). position (nat_eq c.args.number) (keys_of o.entries)) (sym c.self.view_is) in
    subst (IsStamped (marks_of c.remove-value.new.self.rows) c.swap_remove.new.self.entries) (sym c.remove-value.ensures.next)
    (removed_kept c.self.inside.rows.rows c.remove-value.new.self.rows c.self.inside.stamps.entries c.swap_remove.new.self.entries c.args.number c.in-Some.place c.self.inside.rows.next c.self.invariant at
    c.swap_remove.ensures.updates.0 c.remove-value.ensures.rows)

pub returns-in-Some-clause-value : goal.returns-in-Some-clause-value
returns-in-Some-clause-value g c =
    let at = c.in-Some.ensures ∙ ap (λ (o : Sequence g.row.V.Denot). position (nat_eq c.args.number) (keys_of o.entries)) (sym c.self.view_is) in
    removed_value c.self.inside.rows.rows c.args.number c.in-Some.place c.remove-value.result at c.remove-value.ensures.value
    ∙ ap (λ (o : Sequence g.row.V.Denot). lookup (nat_eq c.args.number) o.entries) c.self.view_is

pub returns-in-Some-clause-entries : goal.returns-in-Some-clause-entries
returns-in-Some-clause-entries g c =
    let at = c.in-Some.ensures ∙ ap (λ (o : Sequence g.row.V.Denot). position (nat_eq c.args.number) (keys_of o.entries)) (sym c.self.view_is) in
    removed_entries c.self.inside.rows.rows c.remove-value.new.self.rows c.args.number c.in-Some.place at c.remove-value.ensures.rows
    ∙ ap (λ (o : Sequence g.row.V.Denot). remove_entry (nat_eq c.args.number) o.entries) c.self.view_is

pub returns-in-Some-clause-apart : goal.returns-in-Some-clause-apart
returns-in-Some-clause-apart g c = apart_entries c.remove-value.new.self.rows c.swap_remove.new.self.entries c.remove-value.new.self.next (invariant_of-self g c)

pub returns-in-None-clause-value : goal.returns-in-None-clause-value
returns-in-None-clause-value g c = sym (value_none c.args.self.now.entries c.args.number c.in-None.ensures)

pub returns-in-None-clause-entries : goal.returns-in-None-clause-entries
returns-in-None-clause-entries g c = sym (none_removed c.args.self.now.entries c.args.number (value_none c.args.self.now.entries c.args.number c.in-None.ensures))

pub returns-in-None-clause-apart : goal.returns-in-None-clause-apart
returns-in-None-clause-apart g c =
    subst (λ (o : Sequence g.row.V.Denot). IsDistinct nat_eq (keys_of o.entries)) c.self.view_is
    (apart_entries c.self.inside.rows.rows c.self.inside.stamps.entries c.self.inside.rows.next c.self.invariant)
