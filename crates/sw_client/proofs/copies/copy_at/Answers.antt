use Rattle.std.proofs.Common.{◌≡◌, ◌∙◌, ◌++◌, ◌∷◌, [], ℕ, List, nat_eq, slice_get, Some, None, sym, ap, subst, arith}
use Rattle.std.specs.Map.{lookup, values_of}
use Rattle.sw_client.specs.declared.OpenClient.{OpenClient}
use Rattle.sw_list.proofs.Copying.{fresh_at, one_more}
use Rattle.sw_client.proofs.Copied.{key_at, there_at}
use Rattle.sw_client.proofs.copies.copy_at.Goals as goal

pub add-requires-clause-fresh : goal.add-requires-clause-fresh
add-requires-clause-fresh c =
    let entries = c.args.rows.now.entries in
    let copy : OpenClient = c.in_ok-row-in-Some.row in
    let same : copy ≡ c.in-Some.row.now = c.in_ok-row-in-Some.ensures in
    let at : slice_get (values_of entries) c.args.place ≡ Some c.in-Some.row.now = grind (arith, c.at.ensures, c.in-Some.is) in
    let value : slice_get (values_of entries) c.args.place ≡ Some copy = at ∙ ap (λ (row : OpenClient). Some row) (sym same) in
    let key = key_at (λ (row : OpenClient). row.client.number) entries c.args.place copy c.requires.keyed value in
    subst (λ (before : List (ℕ × OpenClient)). lookup (nat_eq copy.client.number) before ≡ None) (sym c.requires.before)
    (fresh_at entries c.args.place copy.client.number c.requires.keyed.apart key)

pub returns-in_ok-row-in-Some : goal.returns-in_ok-row-in-Some
returns-in_ok-row-in-Some c =
    let entries = c.args.rows.now.entries in
    let copy : OpenClient = c.in_ok-row-in-Some.row in
    let same : copy ≡ c.in-Some.row.now = c.in_ok-row-in-Some.ensures in
    let at : slice_get (values_of entries) c.args.place ≡ Some c.in-Some.row.now = grind (arith, c.at.ensures, c.in-Some.is) in
    let value : slice_get (values_of entries) c.args.place ≡ Some copy = at ∙ ap (λ (row : OpenClient). Some row) (sym same) in
    let key = key_at (λ (row : OpenClient). row.client.number) entries c.args.place copy c.requires.keyed value in
    c.add.ensures.entries
    ∙ (ap (λ (before : List (ℕ × OpenClient)). before ++ (copy.client.number, copy) ∷ []) c.requires.before
    ∙ one_more entries c.args.place copy.client.number copy key value)

pub returns-in-None : goal.returns-in-None
returns-in-None c =
    let entries = c.args.rows.now.entries in
    let none : slice_get (values_of entries) c.args.place ≡ None = grind (arith, c.at.ensures, c.in-None.is) in
    absurd (there_at entries c.args.place c.requires.place none)
