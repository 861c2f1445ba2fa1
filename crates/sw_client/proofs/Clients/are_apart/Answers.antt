use Rattle.std.proofs.Common.{map, nat_eq, subst}
use Rattle.std.specs.List.{IsDistinct}
use Rattle.sw_data.specs.declared.rows.ClientRow.{ClientRow}
use Rattle.sw_client.specs.Table.{Table, clients_of}
use Rattle.sw_client.proofs.OfClients.{numbers_apart}
use Rattle.sw_client.proofs.Clients.are_apart.Goals as goal

pub returns : goal.returns
returns c =
    subst (λ (table : Table). IsDistinct nat_eq (map (λ (row : ClientRow). row.number) (clients_of table))) c.self.view_is
    (numbers_apart c.self.inside.rows.entries c.self.invariant.counted.keyed)
