use Rattle.std.proofs.Common.{◌≡◌, subst}
use Rattle.sw_rules.specs.Rows.{matched_registration_number}
use Rattle.sw_state.specs.contracts.tables.HostTables.{the_view}
use Rattle.sw_state.specs.Hosted.{Hosted, rest_of, state_of}
use Rattle.sw_state.proofs.tables.HostTables.matched.Goals as goal

pub returns : goal.returns
returns c =
    let host = the_view c.self.inside in
    subst (λ (h : Hosted). c.matched.result ≡ matched_registration_number (state_of h) c.args.key.now c.args.address.now) c.self.view_is
    (c.matched.ensures host.workers host.clients (rest_of host))
