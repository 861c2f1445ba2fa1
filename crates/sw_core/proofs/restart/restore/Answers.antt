use Rattle.std.proofs.Common.{◌≡◌, Result, Ok, Err, Some, length, refl}
use Rattle.std.specs.Prelude.{OnOk}
use Rattle.sw_core.proofs.Adding.{added}
use Rattle.sw_core.proofs.LastRows.{new_empty}
use Rattle.sw_core.proofs.restart.restore.Goals as goal

on_both : {T E : Type 0} (r : Result T E) (P Q R : Type 0) → OnOk r P → OnOk r Q → (P → Q → R) → OnOk r R
on_both (Ok x) P Q R p q both = both p q
on_both (Err e) P Q R p q both = p

pub restore_worker-requires-clause-empty : goal.restore_worker-requires-clause-empty
restore_worker-requires-clause-empty c =
    let old = c.args.tables.now.registrations.rows in
    let row = c.args.row in
    new_empty old c.add_registration.new.registrations.rows c.in_ok-number.number (length old) row.key row.scope row.mode
    c.requires.registrations refl c.in_ok-number.ensures.number c.in_ok-number.ensures.made

pub returns-clause-added : goal.returns-clause-added
returns-clause-added c =
    on_both c.restore_worker.result _ _ _ c.restore_worker.ensures.workers c.restore_worker.ensures.registrations
    (λ of_workers set worker is.
    let kept : c.or.result ≡ Some worker = cc (c.or.ensures, is) in
    added c.args.row worker c.in_ok-number.number c.stays_activated-activated.result c.args.tables.now _ c.add_registration.new.registrations
    c.in_ok-number.ensures.number c.stays_activated-activated.ensures c.requires.registrations c.in_ok-number.ensures.scopes
    (of_workers worker kept) c.in_ok-number.ensures.made (set worker kept) c.in_ok-number.ensures.clients c.in_ok-number.ensures.known
    c.in_ok-set_preload.ensures.flag c.in_ok-set_preload.ensures.value)
