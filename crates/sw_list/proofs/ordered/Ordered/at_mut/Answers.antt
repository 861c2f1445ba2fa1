use Rattle.std.proofs.Common.{◌≡◌, ◌∙◌, ℕ, List, ap, refl, slice_get, subst, sym}
use Rattle.std.specs.Map.{values_of}
use Rattle.sw_list.specs.Numbers as list
use Rattle.sw_list.specs.Stamped.{IsStamped, entries_of}
use Rattle.sw_list.specs.Sequence.{Sequence, with_value_at}
use Rattle.sw_list.proofs.StampRows.{entries_written, marks_written, value_at}
use Rattle.sw_list.proofs.ordered.Ordered.at_mut.Goals as goal

pub invariant_of-self-lent : goal.invariant_of-self-lent
invariant_of-self-lent g c w =
    subst (λ (marks : List (ℕ × ℕ)). IsStamped marks c.self.inside.stamps.entries c.self.inside.rows.next)
    (sym (marks_written c.self.inside.rows.rows c.args.place c.at_mut-row.result.now w c.at_mut-row.ensures.value)) c.self.invariant

pub returns : goal.returns
returns g c =
    let rows = c.self.inside.rows.rows in
    let row = c.at_mut-row.result.now in (
      (
        refl,
        λ w.
            let seen : entries_of (list.with_value_at rows c.args.place (record row { value = w })) ≡ with_value_at c.args.self.now.entries c.args.place w =
            entries_written rows c.args.place row w c.at_mut-row.ensures.value ∙ ap (λ (o : Sequence g.row.V.Denot). with_value_at o.entries c.args.place w) c.self.view_is in
            let spare = ap (λ (o : Sequence g.row.V.Denot). o.spare) c.self.view_is in
            λ i. record { entries = seen i; spare = spare i },
      ),
      record {
        writes_back = tt;
        value = ap (λ (o : Sequence g.row.V.Denot). slice_get (values_of o.entries) c.args.place) (sym c.self.view_is) ∙ value_at rows c.args.place row c.at_mut-row.ensures.value;
      },
    )
