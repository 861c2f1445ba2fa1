use Rattle.std.proofs.Common.{◌∙◌, option_map, refl, ap}
use Rattle.sw_rules.specs.Calls.{counted_call, note_call}
use Rattle.sw_tables.proofs.OneMoves.{call_puts, put_linked, put_slots}
use Rattle.sw_tables.proofs.Shown.{call_shown, one_shown}
use Rattle.sw_worker.specs.Edits.{call_counted, with_handler}
use Rattle.sw_worker.specs.Table.{has_calls_left}
use Rattle.sw_tables.proofs.Counting.{called_counts}
use Rattle.sw_tables.specs.Happened.{unsettled_of}
use Rattle.sw_worker.specs.Table as workers
use Rattle.sw_tables.proofs.slots.note_call.Goals as goal

pub returns-clause-state : goal.returns-clause-state
unfolding note_call
returns-clause-state c scopes of_clients rest =
    one_shown c.args.worker (with_handler (call_counted c.args.fault c.args.task))
    (λ row. record row { handler = option_map (counted_call c.args.fault) row.handler }) (call_shown c.args.fault c.args.task)
    c.args.workers.now c.call_made.new.self c.args.registrations.now c.args.registrations.now scopes of_clients rest refl c.call_made.ensures

pub returns-clause-slots : goal.returns-clause-slots
returns-clause-slots c =
    put_slots has_calls_left c.args.worker (with_handler (call_counted c.args.fault c.args.task)) c.args.workers.now c.call_made.new.self
    c.args.registrations.now (call_puts c.args.fault c.args.task) c.requires.slots c.requires.calls c.call_made.ensures

pub returns-clause-linked : goal.returns-clause-linked
returns-clause-linked c =
    put_linked has_calls_left c.args.worker (with_handler (call_counted c.args.fault c.args.task)) c.args.workers.now c.call_made.new.self
    c.args.registrations.now (call_puts c.args.fault c.args.task) c.requires.slots c.requires.calls c.call_made.ensures

pub returns-clause-counts : goal.returns-clause-counts
returns-clause-counts c number =
    ap (λ (t : workers.Table). unsettled_of number t.rows) c.call_made.ensures
    ∙ called_counts c.args.worker c.args.fault c.args.task c.args.workers.now.rows c.requires.calls number
