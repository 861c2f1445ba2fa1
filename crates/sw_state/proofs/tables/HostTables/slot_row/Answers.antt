use Rattle.std.proofs.Common.{◌≡◌, Some, IfSome, option_map, option_copied, subst}
use Rattle.sw_rules.specs.Rows.{slot_worker}
use Rattle.sw_state.proofs.There.{slot_owned, slot_there}
use Rattle.sw_state.specs.contracts.tables.HostTables.{the_view}
use Rattle.sw_state.specs.Hosted.{Hosted, IsOwned, rest_of, state_of}
use Rattle.sw_tables.specs.Lent.{shown_worker}
use Rattle.sw_worker.specs.Table.{worker_at}
use Rattle.sw_state.proofs.tables.HostTables.slot_row.Goals as goal

pub returns-clause-row : goal.returns-clause-row
returns-clause-row c =
    let host = the_view c.self.inside in
    subst (λ (h : Hosted). option_map shown_worker (option_copied c.slot_row.result) ≡ slot_worker (state_of h) c.args.place c.args.registration) c.self.view_is
    (c.slot_row.ensures.row host.scopes host.clients (rest_of host))

pub returns-clause-there : goal.returns-clause-there
returns-clause-there c =
    let host = the_view c.self.inside in
    subst (λ (h : Hosted). IfSome c.slot_row.result (λ row. option_map shown_worker (worker_at row.now.number h.workers.rows) ≡ Some (shown_worker row.now))) c.self.view_is
    (slot_there host c.self.invariant c.args.place c.args.registration c.slot_row.result (c.slot_row.ensures.row host.scopes host.clients (rest_of host)) c.slot_row.ensures.number)

pub returns-clause-owner : goal.returns-clause-owner
returns-clause-owner c =
    subst (λ (h : Hosted). IfSome c.slot_row.result (λ row. IsOwned h (row.now.number, c.args.registration))) c.self.view_is
    (slot_owned (the_view c.self.inside) c.self.invariant c.args.place c.args.registration c.slot_row.result c.slot_row.ensures.number)
