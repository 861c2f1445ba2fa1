use Rattle.std.proofs.Common.{◌≡◌, take}
use Rattle.sw_client.specs.Table as clients
use Rattle.sw_reg.specs.Table as registrations
use Rattle.sw_scope.specs.Scopes.{Scopes}
use Rattle.sw_tables.specs.Lent.{Rest, lent}
use Rattle.sw_activate.specs.Claiming.{activated_in}
use Rattle.sw_activate.proofs.claiming.activated_in.Given as goal

abbrev pub invariant-loop-notice : goal.invariant-loop-notice
invariant-loop-notice l =
    (scopes : Scopes) (of_registrations : registrations.Table) (of_clients : clients.Table) (rest : Rest)
    → l.numbers.items ≡ activated_in (lent scopes l.workers of_registrations of_clients rest) (take l.notice-index l.notices)
