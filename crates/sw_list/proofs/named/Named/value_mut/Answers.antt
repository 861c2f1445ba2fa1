use Rattle.std.proofs.Common.{◌≡◌, ◌∙◌, List, ap, arith, length, refl, slice_get, subst, sym}
use Rattle.std.proofs.lemmas.List.{length-map}
use Rattle.sw_list.specs.Numbers.{with_value_at}
use Rattle.sw_list.specs.Names.{Mark}
use Rattle.sw_list.specs.Named.{Finds, Listing, entry_rows, mark_of, marks_of, values, with_value}
use Rattle.sw_list.proofs.RowLemmas.{marks_written, row_written, value_at, value_set}
use Rattle.sw_list.proofs.named.Named.value_mut.Goals as goal

pub invariant_of-self-lent : goal.invariant_of-self-lent
invariant_of-self-lent g c w =
    let was = c.self.inside.rows in
    let row = c.at_mut-row.result.now in
    let new = with_value_at was.rows c.args.place (record row { value = w }) in
    let same : marks_of new ≡ marks_of was.rows = marks_written was.rows c.args.place row w c.at_mut-row.ensures.value in (
      subst (λ (marks : List Mark). Finds marks c.self.inside.keys.entries was.next) (sym same) c.self.invariant.0,
      c.self.invariant.1,
      (let few = c.self.invariant.2 in let size = ap length same in omega (arith, few, size, length-map new (mark_of {V = g.row.V.Denot}), length-map was.rows (mark_of {V = g.row.V.Denot}))),
      c.self.invariant.3,
      c.self.invariant.4,
    )

pub returns : goal.returns
returns g c =
    let was = c.self.inside.rows.rows in
    let place = c.args.place in
    let row = c.at_mut-row.result.now in (
      (
        refl,
        λ w.
            let written = row_written was place row (record row { value = w }) c.at_mut-row.ensures.value in
            let seen : entry_rows (with_value_at was place (record row { value = w })) ≡ with_value place w c.args.self.now.rows =
            ap entry_rows written.2 ∙ (value_set was written.0 place row w written.1 ∙ ap (λ (l : Listing g.row.V.Denot). with_value place w l.rows) c.self.view_is) in
            let ahead = ap (λ (l : Listing g.row.V.Denot). l.ahead) c.self.view_is in
            let spare = ap (λ (l : Listing g.row.V.Denot). l.spare) c.self.view_is in
            λ i. record { rows = seen i; ahead = ahead i; spare = spare i },
      ),
      record {
        writes_back = tt;
        value = ap (λ (l : Listing g.row.V.Denot). slice_get (values l.rows) place) (sym c.self.view_is) ∙ value_at was place row c.at_mut-row.ensures.value;
      },
    )
