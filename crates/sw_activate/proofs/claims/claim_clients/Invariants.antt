use Rattle.std.proofs.Common.{◌≤◌, ◌+◌, ◌*◌, take}
use Rattle.sw_rules.specs.Clients as rules
use Rattle.sw_rules.specs.Noticing.{Did}
use Rattle.sw_tables.specs.Happened.{KeepCounts}
use Rattle.sw_tables.specs.Lent.{Rest, lent}
use Rattle.sw_tables.specs.Linked.{Linked}
use Rattle.sw_activate.specs.Names.{KeepNames, numbers_of}
use Rattle.sw_activate.proofs.claims.claim_clients.Given as goal

abbrev pub invariant-loop-place : goal.invariant-loop-place
invariant-loop-place l =
    ((rest : Rest) → Did (rules.claim_clients (lent l.map l.initial.workers l.initial.registrations l.initial.clients rest) l.worker l.registration
    (take l.place (numbers_of l.initial.clients))) l.initial.notices l.notices (lent l.map l.workers l.registrations l.clients rest))
    × Linked l.map l.workers l.registrations l.clients
    × KeepNames l.initial.workers l.initial.registrations l.initial.clients l.workers l.registrations l.clients
    × (l.initial.notices.spare ≤ l.notices.spare + 6 * l.place)
    × KeepCounts l.initial.workers l.workers
