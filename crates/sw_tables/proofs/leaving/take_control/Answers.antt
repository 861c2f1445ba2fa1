use Rattle.std.proofs.Common.{◌∙◌, List, ap, sym, subst}
use Rattle.sw_client.specs.Table as clients
use Rattle.sw_client.specs.Table.{clients_of}
use Rattle.sw_data.specs.declared.rows.ClientRow.{ClientRow}
use Rattle.sw_rules.specs.Clients as rules
use Rattle.sw_tables.proofs.OfClients.{given, given_linked, given_rows}
use Rattle.sw_tables.specs.Lent.{lent}
use Rattle.sw_tables.specs.Linked.{Linked}
use Rattle.sw_tables.proofs.leaving.take_control.Goals as goal

pub returns-clause-did : goal.returns-clause-did
unfolding rules.take_control
returns-clause-did c = λ scopes of_workers of_registrations rest.
    let e = c.set_controller.ensures in
    let is = given c.args.client c.args.worker c.args.registration c.set_controller.result c.args.clients.now c.set_controller.new.self e.none e.err e.rows in
    record {
      state =
          ap (λ (rows : List ClientRow). record (lent scopes of_workers of_registrations c.args.clients.now rest) { clients = rows })
          (ap (λ (t : clients.Table). clients_of t) is ∙ given_rows c.args.client c.args.worker c.args.registration c.args.clients.now.rows);
      notices = c.push.ensures.rows;
    }

pub returns-clause-linked : goal.returns-clause-linked
returns-clause-linked c = λ scopes of_workers of_registrations of_it linked.
    let e = c.set_controller.ensures in
    let is = given c.args.client c.args.worker c.args.registration c.set_controller.result c.args.clients.now c.set_controller.new.self e.none e.err e.rows in
    subst (λ (t : clients.Table). Linked scopes of_workers of_registrations t) (sym is)
    (given_linked c.args.client c.args.worker c.args.registration scopes of_workers of_registrations c.args.clients.now of_it linked)

pub returns-clause-known : goal.returns-clause-known
returns-clause-known c =
    let e = c.set_controller.ensures in
    ap (λ (t : clients.Table). t.known)
    (given c.args.client c.args.worker c.args.registration c.set_controller.result c.args.clients.now c.set_controller.new.self e.none e.err e.rows)
