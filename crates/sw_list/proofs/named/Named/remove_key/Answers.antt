use Rattle.std.proofs.Common.{◌∙◌, ap, filter}
use Rattle.std.specs.Prelude.{not}
use Rattle.sw_list.specs.Named.{Listing, is_of}
use Rattle.sw_list.proofs.named.Named.remove_key.Goals as goal

pub returns : goal.returns
returns g c = c.drop_asked.ensures.rows ∙ ap (λ (l : Listing g.row.V.Denot). filter (λ row. not (is_of c.args.key.now row)) l.rows) c.self.view_is
