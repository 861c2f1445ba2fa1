use Rattle.std.proofs.Common.{◌∙◌, List, map, ap}
use Rattle.sw_client.specs.declared.OpenClient.{OpenClient}
use Rattle.sw_data.specs.declared.rows.ClientRow.{ClientRow}
use Rattle.sw_rules.specs.Clients as rules
use Rattle.sw_tables.proofs.OfClients.{gone, gone_linked, gone_rows}
use Rattle.sw_tables.specs.Lent.{lent}
use Rattle.sw_tables.proofs.leaving.remove.Goals as goal

pub returns-clause-state : goal.returns-clause-state
unfolding rules.remove_client
returns-clause-state c = λ scopes of_workers of_registrations rest.
    let e = c.remove.ensures in
    let is = gone c.args.client c.remove.result c.args.clients.now c.remove.new.self e.none e.err e.rows in
    ap (λ (rows : List ClientRow). record (lent scopes of_workers of_registrations c.args.clients.now rest) { clients = rows })
    (ap (λ (rows : List OpenClient). map (λ row. row.client) rows) is ∙ gone_rows c.args.client c.args.clients.now.rows)

pub returns-clause-linked : goal.returns-clause-linked
returns-clause-linked c = λ scopes of_workers of_registrations linked.
    let e = c.remove.ensures in
    let is = gone c.args.client c.remove.result c.args.clients.now c.remove.new.self e.none e.err e.rows in
    gone_linked c.args.client scopes of_workers of_registrations c.args.clients.now c.remove.new.self is e.known linked
