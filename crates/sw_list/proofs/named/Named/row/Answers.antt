use Rattle.std.proofs.Common.{◌∙◌, ap, slice_get, sym}
use Rattle.std.specs.Prelude.{option_copied}
use Rattle.sw_list.specs.Named.{Listing}
use Rattle.sw_list.proofs.RowLemmas.{row_at}
use Rattle.sw_list.proofs.named.Named.row.Goals as goal

pub returns : goal.returns
returns g c =
    ap (λ (l : Listing g.row.V.Denot). slice_get l.rows c.args.place) (sym c.self.view_is)
    ∙ row_at c.self.inside.rows.rows c.args.place c.unwrap.result.now (sym c.at.ensures ∙ ap option_copied c.unwrap.ensures)
