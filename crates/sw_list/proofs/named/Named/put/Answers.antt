use Rattle.std.proofs.Common.{◌≡◌, ◌∙◌, ◌∷◌, ◌+◌, ℕ, [], List, Some, ap, arith, length, subst, sym}
use Rattle.std.proofs.lemmas.List.{length-map, length_push, map-append}
use Rattle.sw_list.specs.declared.row.Row.{Row}
use Rattle.sw_list.specs.Names.{Label, Mark}
use Rattle.sw_list.specs.Named.{Finds, HasLate, Listing, entry_row, made_marks, mark_of, marks_of}
use Rattle.sw_list.proofs.MarkLemmas.{found_more, late_more}
use Rattle.sw_list.proofs.named.Named.put.Goals as goal

pub invariant_of-self : goal.invariant_of-self
invariant_of-self g c =
    let was = c.self.inside in
    let label : Label = (c.new.inside.key, c.new.inside.name) in
    let ahead : was.ahead ≡ Some (record { key = c.new.inside.key; name = c.new.inside.name }) =
    ap (λ (l : Listing g.row.V.Denot). l.ahead) c.self.view_is ∙ (c.requires.ahead ∙ ap Some (sym c.new.view_is)) in
    let late : HasLate was.rows.next ((was.rows.next, label) ∷ []) was.keys.entries =
    subst (λ made. HasLate was.rows.next (made_marks was.rows.next made) was.keys.entries) ahead c.self.invariant.3 in
    let count : length was.rows.rows ≡ length c.args.self.now.rows = sym (length-map was.rows.rows entry_row) ∙ ap (λ (l : Listing g.row.V.Denot). length l.rows) c.self.view_is in
    let few = c.requires.few in
    let entry : ℕ × Row g.row.V.Denot = (was.rows.next, record { key = c.new.inside.key; name = c.new.inside.name; value = c.args.value }) in
    rw (c.add.ensures.rows, c.add.ensures.next) (
      subst (λ (marks : List Mark). Finds marks was.keys.entries (was.rows.next + 1)) (sym (map-append mark_of was.rows.rows (entry ∷ [])))
          (found_more (marks_of was.rows.rows) was.keys.entries was.rows.next label c.self.invariant.0 c.self.invariant.1 late),
      omega arith,
      omega (arith, length_push was.rows.rows entry, count, few),
      late_more was.keys.entries was.rows.next label late,
      c.self.invariant.4,
    )
