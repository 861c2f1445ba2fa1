-- The addAll and the handler that made it go on together.
use Rattle.std.proofs.Common.{◌≡◌, true, is_none, sym, ap, subst}
use Rattle.std.specs.Prelude.{IfSome}
use Rattle.sw_cachestorage.proofs.Settling.{settled_joined, settled_state, unsettled_counted}
use Rattle.sw_ledgers.specs.Tasks.{Table, has_task}
use Rattle.sw_rules.specs.Caching.{settle_task}
use Rattle.sw_state.specs.contracts.tables.HostTables.{the_view}
use Rattle.sw_state.specs.Hosted.{Hosted, state_of}
use Rattle.sw_worker.specs.Table.{has_unsettled, has_worker}
use Rattle.sw_cachestorage.proofs.ended.settle_added.Goals as goal

pub settle-requires : goal.settle-requires
settle-requires c =
    subst (λ (h : Hosted). has_task (λ row. is_none row.settled) c.args.task h.tasks.rows ≡ true) (sym c.host.view_is) c.requires

pub note_settled-requires : goal.note_settled-requires
note_settled-requires c =
    let inside : Hosted = the_view c.host.inside in
    subst (λ maker. IfSome maker (λ number. has_worker has_unsettled number inside.workers.rows ≡ true)) (sym c.maker_of-maker.ensures)
    (unsettled_counted inside.workers inside.tasks.rows c.args.task
    (subst (λ (h : Hosted). has_task (λ row. is_none row.settled) c.args.task h.tasks.rows ≡ true) (sym c.host.view_is) c.requires) c.host.invariant.counts)

pub invariant_of-host : goal.invariant_of-host
invariant_of-host c =
    settled_joined c.args.task c.args.value c.args.faulted c.maker_of-maker.result (the_view c.host.inside) c.note_settled.new.workers c.settle.new.self
    c.maker_of-maker.ensures (ap (λ (table : Table). table.rows) c.settle.ensures.rows) c.note_settled.ensures c.settle.ensures.places
    (subst (λ (h : Hosted). has_task (λ row. is_none row.settled) c.args.task h.tasks.rows ≡ true) (sym c.host.view_is) c.requires) c.host.invariant

pub returns-clause-state : goal.returns-clause-state
returns-clause-state c =
    let inside : Hosted = the_view c.host.inside in
    subst (λ (h : Hosted). state_of (record inside { workers = c.note_settled.new.workers; tasks = c.settle.new.self }) ≡ (settle_task (state_of h) c.args.task c.args.value c.args.faulted).state) c.host.view_is
    (settled_state c.args.task c.args.value c.args.faulted c.maker_of-maker.result inside c.note_settled.new.workers c.settle.new.self
    c.maker_of-maker.ensures (ap (λ (table : Table). table.rows) c.settle.ensures.rows) c.note_settled.ensures)

pub returns-clause-others : goal.returns-clause-others
returns-clause-others c = ap (λ (h : Hosted). record h { workers = c.note_settled.new.workers; tasks = c.settle.new.self }) c.host.view_is
