use Rattle.sw_audit.proofs.auditing.audit.Goals as goal

pub returns-in-Ok : goal.returns-in-Ok
returns-in-Ok c = c.said.ensures c.args.base c.args.recording c.requires c.in-Ok.ensures
