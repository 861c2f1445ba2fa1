use Rattle.std.proofs.Common.{true, refl}
use Rattle.sw_tables.proofs.OneMoves.{is_there_passes, put_linked, put_slots, skipping_puts}
use Rattle.sw_tables.proofs.Shown.{one_shown}
use Rattle.sw_worker.specs.Edits.{skipping}
use Rattle.sw_worker.specs.Table.{is_worker, worker_at}
use Rattle.sw_tables.proofs.Counting.{plainly}
use Rattle.sw_tables.proofs.slots.set_skip.Goals as goal

pub returns-clause-state : goal.returns-clause-state
returns-clause-state c scopes of_clients rest =
    one_shown c.args.worker skipping (λ row. record row { skip_waiting = true }) (λ row. refl) c.args.workers.now c.set_skip.new.self
    c.args.registrations.now c.args.registrations.now scopes of_clients rest refl c.set_skip.ensures

pub returns-clause-slots : goal.returns-clause-slots
returns-clause-slots c =
    put_slots (λ row. true) c.args.worker skipping c.args.workers.now c.set_skip.new.self c.args.registrations.now skipping_puts
    c.requires.slots (is_there_passes (worker_at c.args.worker c.args.workers.now.rows) c.requires.there) c.set_skip.ensures

pub returns-clause-linked : goal.returns-clause-linked
returns-clause-linked c =
    put_linked (λ row. true) c.args.worker skipping c.args.workers.now c.set_skip.new.self c.args.registrations.now skipping_puts
    c.requires.slots (is_there_passes (worker_at c.args.worker c.args.workers.now.rows) c.requires.there) c.set_skip.ensures

pub returns-clause-counts : goal.returns-clause-counts
returns-clause-counts c =
    plainly (is_worker c.args.worker) skipping (λ x. refl) c.args.workers.now c.set_skip.new.self c.set_skip.ensures (λ x. refl)
