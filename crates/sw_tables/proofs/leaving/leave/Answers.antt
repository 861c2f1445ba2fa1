use Rattle.std.proofs.Common.{◌∙◌, List, ap, sym, subst}
use Rattle.sw_client.specs.Table as clients
use Rattle.sw_client.specs.Table.{clients_of}
use Rattle.sw_data.specs.declared.rows.ClientRow.{ClientRow}
use Rattle.sw_tables.proofs.OfClients.{left_linked, left_rows}
use Rattle.sw_tables.specs.Lent.{lent}
use Rattle.sw_tables.specs.Linked.{Linked}
use Rattle.sw_tables.proofs.leaving.leave.Goals as goal

pub returns-clause-state : goal.returns-clause-state
returns-clause-state c = λ scopes of_workers of_registrations rest.
    ap (λ (rows : List ClientRow). record (lent scopes of_workers of_registrations c.args.clients.now rest) { clients = rows })
    (ap (λ (t : clients.Table). clients_of t) c.unset_controller.ensures.rows ∙ left_rows c.args.client c.args.clients.now.rows)

pub returns-clause-linked : goal.returns-clause-linked
returns-clause-linked c = λ scopes of_workers of_registrations linked.
    subst (λ (t : clients.Table). Linked scopes of_workers of_registrations t) (sym c.unset_controller.ensures.rows)
    (left_linked c.args.client scopes of_workers of_registrations c.args.clients.now linked)
