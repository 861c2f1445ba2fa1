use Rattle.std.proofs.Common.{is_none, refl, arith}
use Rattle.sw_install.proofs.Parts.{did_if, did_else}
use Rattle.sw_rules.specs.Registrations as rules
use Rattle.sw_rules.specs.Rows.{newest_worker}
use Rattle.sw_rules.specs.State.{State}
use Rattle.sw_rules.specs.Told.{quiet}
use Rattle.sw_tables.proofs.Chain.{did_quietly}
use Rattle.sw_tables.specs.Lent.{lent}
use Rattle.sw_install.proofs.dropping.drop_registration.Goals as goal

pub returns-then-is_none-clause-did : goal.returns-then-is_none-clause-did
unfolding rules.drop_registration
returns-then-is_none-clause-did c = λ rest.
    let state : State = lent c.args.map.now c.args.workers.now c.args.registrations.now c.args.clients.now rest in
    let newest = c.newest_row.ensures c.args.map.now c.args.clients.now rest in
    did_if (is_none (newest_worker state c.args.registration)) (rules.unmap state c.args.registration) (quiet state) c.args.notices.now c.unmap.new.notices
    (lent c.unmap.new.map c.args.workers.now c.args.registrations.now c.args.clients.now rest)
    (grind (arith, newest, c.is_none.ensures, c.if-is_none.true))
    (c.unmap.ensures.did c.args.workers.now c.args.clients.now rest)

pub returns-else-is_none-clause-did : goal.returns-else-is_none-clause-did
unfolding rules.drop_registration
returns-else-is_none-clause-did c = λ rest.
    let state : State = lent c.args.map.now c.args.workers.now c.args.registrations.now c.args.clients.now rest in
    let newest = c.newest_row.ensures c.args.map.now c.args.clients.now rest in
    did_else (is_none (newest_worker state c.args.registration)) (rules.unmap state c.args.registration) (quiet state) c.args.notices.now c.args.notices.now state
    (grind (arith, newest, c.is_none.ensures, c.if-is_none.false))
    (did_quietly (quiet state) c.args.notices.now state refl refl)
