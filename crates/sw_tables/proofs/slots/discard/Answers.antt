use Rattle.std.proofs.Common.{refl}
use Rattle.sw_data.specs.declared.workers.WorkerState.TheVariants as worker_state
use Rattle.sw_rules.specs.Registrations.{become}
use Rattle.sw_tables.proofs.Lives.{discard_move, discarded_shown, rests}
use Rattle.sw_tables.proofs.OneMoves.{one_linked, one_moved}
use Rattle.sw_tables.proofs.Shown.{one_shown}
use Rattle.sw_tables.specs.Parts.{is_young}
use Rattle.sw_worker.specs.Edits.{advanced}
use Rattle.sw_tables.proofs.Counting.{plainly}
use Rattle.sw_worker.specs.Table.{is_worker}
use Rattle.sw_tables.proofs.slots.discard.Goals as goal

pub returns-clause-did : goal.returns-clause-did
unfolding become
returns-clause-did c scopes of_clients rest = record {
  state = one_shown c.args.worker (advanced worker_state.Redundant) (λ row. record row { state = worker_state.Redundant }) (λ row. refl)
      c.args.workers.now c.tell_state.new.workers c.args.registrations.now c.leave_installing.new.registrations scopes of_clients rest
      (discarded_shown c.args.registration c.args.worker c.args.registrations.now c.leave_installing.new.registrations scopes rest c.leave_installing.ensures)
      c.tell_state.ensures.rows;
  notices = c.tell_state.ensures.told;
}

pub returns-clause-slots : goal.returns-clause-slots
returns-clause-slots c =
    let known = rests is_young c.args.registration c.args.worker c.args.workers.now c.requires.worker in
    let move = discard_move c.args.registration c.args.worker known.0 c.args.workers.now c.tell_state.new.workers c.args.registrations.now
    c.leave_installing.new.registrations c.requires.slots known.1 c.tell_state.ensures.rows c.leave_installing.ensures in
    one_moved c.args.registration c.args.worker known.0 (advanced worker_state.Redundant) move.0 _ _ _ _ move.1 c.requires.slots

pub returns-clause-linked : goal.returns-clause-linked
returns-clause-linked c =
    let known = rests is_young c.args.registration c.args.worker c.args.workers.now c.requires.worker in
    let move = discard_move c.args.registration c.args.worker known.0 c.args.workers.now c.tell_state.new.workers c.args.registrations.now
    c.leave_installing.new.registrations c.requires.slots known.1 c.tell_state.ensures.rows c.leave_installing.ensures in
    one_linked c.args.registration c.args.worker known.0 (advanced worker_state.Redundant) move.0 _ _ _ _ move.1 c.requires.slots

pub returns-clause-counts : goal.returns-clause-counts
returns-clause-counts c =
    plainly (is_worker c.args.worker) (advanced worker_state.Redundant) (λ x. refl) c.args.workers.now c.tell_state.new.workers
    c.tell_state.ensures.rows (λ x. refl)
