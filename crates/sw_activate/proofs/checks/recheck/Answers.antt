use Rattle.sw_rules.specs.Registrations as rules
use Rattle.sw_rules.specs.Rows.{is_mapped}
use Rattle.sw_rules.specs.State.{State}
use Rattle.sw_rules.specs.Told.{quiet}
use Rattle.sw_activate.proofs.Names.{kept, empty_rest, then_keeps, try_activate_alike}
use Rattle.sw_tables.proofs.Chain.{did_then}
use Rattle.sw_tables.specs.Lent.{lent}
use Rattle.std.proofs.Common.{if◌then◌else◌}
use Rattle.sw_activate.proofs.checks.recheck.Goals as goal

pub returns-clause-did : goal.returns-clause-did
unfolding rules.recheck
returns-clause-did c = λ rest.
    let before : State = lent c.args.map.now c.args.workers.now c.args.registrations.now c.args.clients.now rest in
    let middle : State = lent c.args.map.now c.clear_unmapped.new.workers c.clear_unmapped.new.registrations c.args.clients.now rest in
    let after : State = lent c.args.map.now c.try_activate.new.workers c.try_activate.new.registrations c.try_activate.new.clients rest in
    did_then (if is_mapped before c.args.registration then quiet before else rules.try_clear before c.args.registration)
    (λ cleared. rules.try_activate cleared c.args.registration)
    c.args.notices.now c.clear_unmapped.new.notices c.try_activate.new.notices middle after
    (c.clear_unmapped.ensures.did rest)
    (c.try_activate.ensures.did c.args.map.now rest)

pub returns-clause-names : goal.returns-clause-names
returns-clause-names c =
    then_keeps c.args.workers.now c.clear_unmapped.new.workers c.try_activate.new.workers
    c.args.registrations.now c.clear_unmapped.new.registrations c.try_activate.new.registrations
    c.args.clients.now c.args.clients.now c.try_activate.new.clients
    c.clear_unmapped.ensures.names
    (kept c.args.map.now c.clear_unmapped.new.workers c.try_activate.new.workers
    c.clear_unmapped.new.registrations c.try_activate.new.registrations c.args.clients.now c.try_activate.new.clients
    (try_activate_alike (lent c.args.map.now c.clear_unmapped.new.workers c.clear_unmapped.new.registrations c.args.clients.now empty_rest) c.args.registration)
    (c.try_activate.ensures.did c.args.map.now empty_rest).state)

pub returns-clause-linked : goal.returns-clause-linked
returns-clause-linked c = c.try_activate.ensures.linked c.args.map.now c.clear_unmapped.ensures.linked
