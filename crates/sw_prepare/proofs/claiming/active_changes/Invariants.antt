use Rattle.std.proofs.Common.{◌≡◌, take}
use Rattle.std.specs.List.{flat_map}
use Rattle.sw_activate.specs.Claiming.{activation_change}
use Rattle.sw_client.specs.Table as clients
use Rattle.sw_tables.specs.Lent.{Rest, lent}
use Rattle.sw_tables.specs.Linked.{HasSlots}
use Rattle.sw_worker.specs.Table as workers
use Rattle.sw_prepare.proofs.claiming.active_changes.Given as goal

abbrev pub invariant-loop-number : goal.invariant-loop-number
invariant-loop-number l =
    (of_workers : workers.Table) (of_clients : clients.Table) (rest : Rest) → HasSlots of_workers l.registrations
    → l.changes.items ≡ flat_map (activation_change (lent l.map of_workers l.registrations of_clients rest)) (take l.number-index l.numbers)
