use Rattle.std.proofs.Common.{Some, None, sym}
use Rattle.std.proofs.lemmas.Result.{IfErr-at_err, IfOk-at_ok}
use Rattle.sw_pages.proofs.Named.{by_worker, slot_by}
use Rattle.sw_pages.specs.Named.{NamesNone, NamesRow}
use Rattle.sw_rules.specs.Rows.{slot_worker}
use Rattle.sw_state.specs.Hosted.{shown_of, state_of}
use Rattle.sw_tables.specs.Lent.{shown_worker}
use Rattle.sw_pages.proofs.slots.slotted.Goals as goal

pub returns-in-Some-clause-found : goal.returns-in-Some-clause-found
returns-in-Some-clause-found c act =
    let host = c.args.host.now in
    let named = IfOk-at_ok (λ row. NamesRow c.args.of.now row.now host) c.in-Ok.is c.in_ok-row.ensures.found in
    slot_by (state_of host) c.args.of.now c.args.place act (shown_of host c.in-Ok.row.now) (Some (shown_worker c.in-Some.row.now))
    (named (λ row. by_worker (state_of host) c.args.of.now c.args.place act (slot_worker (state_of host) c.args.place row.number)))
    (sym c.in-Some.ensures.row)

pub returns-in-None-clause-none : goal.returns-in-None-clause-none
returns-in-None-clause-none c act =
    let host = c.args.host.now in
    let named = IfOk-at_ok (λ row. NamesRow c.args.of.now row.now host) c.in-Ok.is c.in_ok-row.ensures.found in
    slot_by (state_of host) c.args.of.now c.args.place act (shown_of host c.in-Ok.row.now) None
    (named (λ row. by_worker (state_of host) c.args.of.now c.args.place act (slot_worker (state_of host) c.args.place row.number)))
    (sym c.in-None.ensures.row)

pub returns-in-Err-clause-none : goal.returns-in-Err-clause-none
returns-in-Err-clause-none c act =
    let host = c.args.host.now in
    let none = IfErr-at_err (λ reply. NamesNone c.args.of.now reply host) c.in-Err.is c.in_ok-row.ensures.none in
    none (λ row. by_worker (state_of host) c.args.of.now c.args.place act (slot_worker (state_of host) c.args.place row.number))
