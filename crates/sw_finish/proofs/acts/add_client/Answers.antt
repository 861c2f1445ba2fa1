use Rattle.std.proofs.Common.{◌≡◌, subst}
use Rattle.sw_state.specs.contracts.tables.HostTables.{the_view}
use Rattle.sw_rules.specs.Clients.{add_client}
use Rattle.sw_state.specs.Hosted.{Hosted, rest_of, state_of}
use Rattle.sw_finish.proofs.acts.add_client.Goals as goal

pub returns-clause-state : goal.returns-clause-state
returns-clause-state c =
    let inside : Hosted = the_view c.host.inside in
    subst (λ (h : Hosted). state_of (record inside { clients = c.add.new.clients }) ≡ (add_client (state_of h) c.args.new.client).state) c.host.view_is
    (c.add.ensures.state inside.scopes inside.workers inside.registrations (rest_of inside))
