use Rattle.std.proofs.Common.{◌∙◌, ap, filter}
use Rattle.std.specs.Prelude.{not}
use Rattle.sw_list.specs.Named.{Listing, is_at}
use Rattle.sw_list.proofs.named.Named.remove_named.Goals as goal

pub returns : goal.returns
returns g c = c.drop_asked.ensures.rows ∙ ap (λ (l : Listing g.row.V.Denot). filter (λ row. not (is_at c.args.key.now c.args.name.now row)) l.rows) c.self.view_is
