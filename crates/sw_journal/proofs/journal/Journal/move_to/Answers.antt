use Rattle.sw_journal.proofs.WholeParts.{end_is, stands_in}
use Rattle.sw_journal.proofs.journal.Journal.move_to.Goals as goal

pub returns-clause-end : goal.returns-clause-end
returns-clause-end c payloads is = end_is payloads c.args.contents.now is c.end_of_records-gate.result.0 c.end_of_records-gate.result.1 c.end_of_records-gate.ensures.end

pub returns-clause-stands : goal.returns-clause-stands
returns-clause-stands c = stands_in c.requires.whole.0 c.args.contents.now c.requires.whole.1 c.end_of_records-gate.result.0 c.end_of_records-gate.result.1 c.end_of_records-gate.ensures.end
