use Rattle.std.proofs.Common.{◌≡◌, sym, subst, true}
use Rattle.sw_finish.proofs.Doing.{event_added, event_joined}
use Rattle.sw_state.specs.contracts.tables.HostTables.{the_view}
use Rattle.sw_rules.specs.Clients.{add_event}
use Rattle.sw_state.specs.Hosted.{Hosted, state_of}
use Rattle.sw_worker.specs.Table.{has_worker, is_activated}
use Rattle.sw_finish.proofs.acts.begin_event.Goals as goal

pub invariant_of-host : goal.invariant_of-host
invariant_of-host c =
    event_joined (the_view c.host.inside) c.begin_put.new.self c.args.new _ c.begin_put.ensures.put
    (subst (λ (h : Hosted). has_worker is_activated c.args.new.worker h.workers.rows ≡ true) (sym c.host.view_is) c.requires.worker) c.host.invariant

pub returns-clause-state : goal.returns-clause-state
returns-clause-state c =
    let inside : Hosted = the_view c.host.inside in
    subst (λ (h : Hosted). state_of (record inside { workers = c.begin_put.new.self }) ≡ (add_event (state_of h) c.args.new.number c.args.new.worker).state) c.host.view_is
    (event_added inside c.begin_put.new.self c.args.new _ c.begin_put.ensures.put)
