use Rattle.std.proofs.Common.{◌∙◌}
use Rattle.sw_tables.proofs.Trying.{picked_chosen}
use Rattle.sw_tables.proofs.activation.chosen.Goals as goal

pub returns-clause-chosen : goal.returns-clause-chosen
returns-clause-chosen c scopes rest has noted =
    c.pick.ensures ∙ picked_chosen c.args.workers.now c.args.registrations.now c.args.clients.now c.args.registration has noted scopes rest
