use Rattle.std.proofs.Common.{sym, subst, ap}
use Rattle.sw_install.proofs.Added.{added_linked}
use Rattle.sw_tables.proofs.Counting.{more_keeps}
use Rattle.sw_tables.specs.Linked.{Linked}
use Rattle.sw_worker.specs.Table as workers
use Rattle.sw_install.proofs.fetching.add_worker.Goals as goal

pub returns-clause-linked : goal.returns-clause-linked
returns-clause-linked c = λ scopes of_clients linked.
    subst (λ (t : workers.Table). Linked scopes t c.args.registrations.now of_clients) (sym c.make_put.ensures.put)
    (added_linked c.args.new _ c.args.workers.now c.args.registrations.now c.requires scopes of_clients linked)

pub returns-clause-counts : goal.returns-clause-counts
returns-clause-counts c =
    more_keeps c.args.workers.now c.make_put.new.self c.args.new c.requires.handler (ap (λ (t : workers.Table). t.rows) c.make_put.ensures.put)
