use Rattle.std.proofs.Common.{◌∙◌}
use Rattle.sw_tables.proofs.Pending.{pending_worker}
use Rattle.sw_tables.proofs.activation.has_pending_worker.Goals as goal

pub returns-clause-pending : goal.returns-clause-pending
returns-clause-pending c scopes of_clients rest =
    c.is_pending_in_some.ensures ∙ pending_worker c.args.workers.now c.args.registrations.now c.requires.slots c.args.registration scopes of_clients rest
