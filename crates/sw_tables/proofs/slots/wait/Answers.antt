use Rattle.sw_tables.proofs.Waiting.{still_there, waits_then}
use Rattle.sw_tables.proofs.slots.wait.Goals as goal

pub owe-requires : goal.owe-requires
owe-requires c = still_there c.args.registration _ c.args.registrations.now c.to_waiting.new.self c.requires c.to_waiting.ensures

pub returns : goal.returns
returns c = waits_then c.args.registration _ c.args.registrations.now c.to_waiting.new.self c.owe.new.self c.to_waiting.ensures c.owe.ensures
