use Rattle.std.proofs.Common.{◌∙◌, ap, bytes_eq}
use Rattle.std.specs.List.{list_any}
use Rattle.sw_client.specs.Table.{Table, clients_of}
use Rattle.sw_client.proofs.Tallying.{any_of}
use Rattle.sw_client.proofs.Clients.has_of.Goals as goal

pub returns : goal.returns
returns c =
    c.has.ensures
    ∙ (any_of c.args.key.now c.self.inside.rows.entries c.self.inside.keys c.self.invariant.tallied
    ∙ ap (λ (table : Table). list_any (λ row. bytes_eq row.key c.args.key.now) (clients_of table)) c.self.view_is)
