use Rattle.sw_tables.specs.Parts.{is_installing}
use Rattle.sw_install.proofs.ending.end_install.Goals as goal

pub returns-clause-worker : goal.returns-clause-worker
returns-clause-worker c = c.end_handler.ensures.rests is_installing c.args.registration c.requires.worker
