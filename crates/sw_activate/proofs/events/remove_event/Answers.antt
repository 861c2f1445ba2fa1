use Rattle.std.proofs.Common.{ap, sym, subst}
use Rattle.sw_rules.specs.Clients as rules
use Rattle.sw_tables.specs.Lent.{lent}
use Rattle.sw_tables.specs.Linked.{Linked}
use Rattle.sw_worker.specs.Table as workers
use Rattle.sw_activate.proofs.Pending.{linked_less}
use Rattle.sw_activate.proofs.events.remove_event.Goals as goal

pub returns-clause-state : goal.returns-clause-state
unfolding rules.remove_event
returns-clause-state c = λ scopes of_clients rest.
    ap (λ (t : workers.Table). lent scopes t c.args.registrations.now of_clients rest) c.end.ensures.ended

pub returns-clause-linked : goal.returns-clause-linked
returns-clause-linked c = λ scopes of_clients linked.
    subst (λ (t : workers.Table). Linked scopes t c.args.registrations.now of_clients) (sym c.end.ensures.ended)
    (linked_less c.args.event c.end.new.self.spare_events c.args.workers.now c.args.registrations.now scopes of_clients linked)
