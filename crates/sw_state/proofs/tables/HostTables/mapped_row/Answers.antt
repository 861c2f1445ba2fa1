use Rattle.std.proofs.Common.{◌≡◌, true, IfSome, option_map, option_copied, subst}
use Rattle.sw_reg.specs.Table.{is_there}
use Rattle.sw_rules.specs.Rows.{mapped_registration}
use Rattle.sw_state.proofs.There.{mapped_there}
use Rattle.sw_state.specs.contracts.tables.HostTables.{the_view}
use Rattle.sw_state.specs.Hosted.{Hosted, rest_of, shown_of, state_of}
use Rattle.sw_state.proofs.tables.HostTables.mapped_row.Goals as goal

pub returns-clause-row : goal.returns-clause-row
returns-clause-row c =
    let host = the_view c.self.inside in
    subst (λ (h : Hosted). option_map (shown_of h) (option_copied c.mapped_row.result) ≡ mapped_registration (state_of h) c.args.key.now c.args.scope.now) c.self.view_is
    (c.mapped_row.ensures.row host.workers host.clients (rest_of host))

pub returns-clause-there : goal.returns-clause-there
returns-clause-there c =
    subst (λ (h : Hosted). IfSome c.mapped_row.result (λ row. is_there row.now.number h.registrations.rows ≡ true)) c.self.view_is
    (mapped_there (the_view c.self.inside) c.self.invariant c.args.key.now c.args.scope.now c.mapped_row.result c.mapped_row.ensures.number)
