use Rattle.std.proofs.Common.{None, refl}
use Rattle.sw_rules.specs.Installing.{end_handler}
use Rattle.sw_tables.proofs.OneMoves.{ended_puts, ended_rests, put_linked, put_slots}
use Rattle.sw_tables.proofs.Shown.{one_shown}
use Rattle.sw_worker.specs.Edits.{ended}
use Rattle.sw_worker.specs.Table.{is_running}
use Rattle.sw_tables.proofs.Counting.{counts_nothing}
use Rattle.sw_tables.proofs.slots.end_handler.Goals as goal

pub returns-clause-state : goal.returns-clause-state
unfolding end_handler
returns-clause-state c scopes of_clients rest =
    one_shown c.args.worker ended (λ row. record row { handler = None }) (λ row. refl) c.args.workers.now c.end_handler.new.self
    c.args.registrations.now c.args.registrations.now scopes of_clients rest refl c.end_handler.ensures

pub returns-clause-slots : goal.returns-clause-slots
returns-clause-slots c =
    put_slots is_running c.args.worker ended c.args.workers.now c.end_handler.new.self c.args.registrations.now ended_puts
    c.requires.slots c.requires.running c.end_handler.ensures

pub returns-clause-linked : goal.returns-clause-linked
returns-clause-linked c =
    put_linked is_running c.args.worker ended c.args.workers.now c.end_handler.new.self c.args.registrations.now ended_puts
    c.requires.slots c.requires.running c.end_handler.ensures

pub returns-clause-rests : goal.returns-clause-rests
returns-clause-rests c = λ test registration.
    ended_rests test registration c.args.worker c.args.workers.now c.end_handler.new.self c.end_handler.ensures

pub returns-clause-counts : goal.returns-clause-counts
returns-clause-counts c =
    counts_nothing c.args.worker ended (λ x. refl) (λ x. refl) c.args.workers.now c.end_handler.new.self c.end_handler.ensures
