use Rattle.std.proofs.Common.{◌≡◌, ◌∙◌, ap}
use Rattle.std.specs.Map.{values_of}
use Rattle.std.proofs.lemmas.Result.{IfOk-weaker}
use Rattle.sw_list.specs.Named.{Listing, named_rows}
use Rattle.sw_list.proofs.RowLemmas.{rows_listed}
use Rattle.sw_list.proofs.named.Named.into_rows.Goals as goal

pub returns : goal.returns
returns g c =
    let entries = c.self.inside.rows.rows in
    IfOk-weaker c.into_values.result (λ rows. rows.items ≡ values_of entries) (λ rows. named_rows rows.items ≡ c.args.self.rows)
    (λ rows is. ap named_rows is ∙ (rows_listed entries ∙ ap (λ (l : Listing g.row.V.Denot). l.rows) c.self.view_is)) c.into_values.ensures
