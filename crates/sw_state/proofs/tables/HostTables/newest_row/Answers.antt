use Rattle.std.proofs.Common.{◌≡◌, option_map, option_copied, subst}
use Rattle.sw_rules.specs.Rows.{newest_worker}
use Rattle.sw_state.specs.contracts.tables.HostTables.{the_view}
use Rattle.sw_state.specs.Hosted.{Hosted, rest_of, state_of}
use Rattle.sw_tables.specs.Lent.{shown_worker}
use Rattle.sw_state.proofs.tables.HostTables.newest_row.Goals as goal

pub returns : goal.returns
returns c =
    let host = the_view c.self.inside in
    subst (λ (h : Hosted). option_map shown_worker (option_copied c.newest_row.result) ≡ newest_worker (state_of h) c.args.registration) c.self.view_is
    (c.newest_row.ensures host.scopes host.clients (rest_of host))
