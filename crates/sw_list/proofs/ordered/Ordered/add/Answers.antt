use Rattle.std.proofs.Common.{◌≡◌, ◌∙◌, ◌<◌, None, ap, arith, nat_eq, subst, sym}
use Rattle.std.specs.Map.{lookup}
use Rattle.indexmap.specs.IndexMap.{spare}
use Rattle.sw_list.specs.Stamped.{IsStamped, entries_of, marks_of}
use Rattle.sw_list.specs.Sequence.{Sequence}
use Rattle.sw_list.proofs.StampRows.{added_kept, apart_entries, on_ok}
use Rattle.sw_list.proofs.ordered.Ordered.add.Goals as goal

pub invariant_of-self : goal.invariant_of-self
invariant_of-self g c =
    let rows = c.self.inside.rows.rows in
    let fresh : lookup (nat_eq c.args.number) (entries_of rows) ≡ None = ap (λ (o : Sequence g.row.V.Denot). lookup (nat_eq c.args.number) o.entries) c.self.view_is ∙ c.requires.fresh in
    let room : 0 < spare c.self.inside.stamps = (let seen = ap (λ (o : Sequence g.row.V.Denot). o.spare) c.self.view_is in omega (arith, c.requires.room)) in
    subst (IsStamped (marks_of c.add.new.self.rows) c.insert.new.self.entries) (sym c.add.ensures.next)
    (added_kept rows c.add.new.self.rows c.self.inside.stamps.entries c.insert.new.self.entries c.args.number c.self.inside.rows.next c.args.value c.self.invariant fresh
    (rw c.next.ensures at (on_ok c.insert.result c.insert.ensures.updates (c.insert.ensures.succeeds room)).0) c.add.ensures.rows)

pub returns-clause-apart : goal.returns-clause-apart
returns-clause-apart g c = apart_entries c.add.new.self.rows c.insert.new.self.entries c.add.new.self.next (invariant_of-self g c)
