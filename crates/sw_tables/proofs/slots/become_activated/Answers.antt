use Rattle.std.proofs.Common.{refl}
use Rattle.sw_data.specs.declared.workers.WorkerState.TheVariants as worker_state
use Rattle.sw_rules.specs.Activating.{become_activated}
use Rattle.sw_rules.specs.Registrations.{become}
use Rattle.sw_rules.specs.Told.{followed, keep}
use Rattle.sw_tables.proofs.Lives.{activated_move, rests}
use Rattle.sw_tables.proofs.OneMoves.{one_linked, one_moved}
use Rattle.sw_tables.proofs.Shown.{one_shown}
use Rattle.sw_tables.specs.Parts.{is_activating}
use Rattle.sw_worker.specs.Edits.{advanced}
use Rattle.sw_tables.proofs.Counting.{plainly}
use Rattle.sw_worker.specs.Table.{is_worker}
use Rattle.sw_tables.proofs.slots.become_activated.Goals as goal

pub returns-clause-did : goal.returns-clause-did
unfolding become_activated followed keep become
returns-clause-did c scopes of_clients rest = record {
  state = one_shown c.args.worker (advanced worker_state.Activated) (λ row. record row { state = worker_state.Activated }) (λ row. refl)
      c.args.workers.now c.tell_state.new.workers c.args.registrations.now c.args.registrations.now scopes of_clients rest refl
      c.tell_state.ensures.rows;
  notices = c.tell_state.ensures.told;
}

pub returns-clause-slots : goal.returns-clause-slots
returns-clause-slots c =
    let known = rests is_activating c.args.registration c.args.worker c.args.workers.now c.requires.worker in
    one_moved c.args.registration c.args.worker known.0 (advanced worker_state.Activated) _ _ _ _ _
    (activated_move c.args.registration c.args.worker known.0 c.args.workers.now c.tell_state.new.workers c.args.registrations.now
    c.requires.slots known.1 c.tell_state.ensures.rows) c.requires.slots

pub returns-clause-linked : goal.returns-clause-linked
returns-clause-linked c =
    let known = rests is_activating c.args.registration c.args.worker c.args.workers.now c.requires.worker in
    one_linked c.args.registration c.args.worker known.0 (advanced worker_state.Activated) _ _ _ _ _
    (activated_move c.args.registration c.args.worker known.0 c.args.workers.now c.tell_state.new.workers c.args.registrations.now
    c.requires.slots known.1 c.tell_state.ensures.rows) c.requires.slots

pub returns-clause-counts : goal.returns-clause-counts
returns-clause-counts c =
    plainly (is_worker c.args.worker) (advanced worker_state.Activated) (λ x. refl) c.args.workers.now c.tell_state.new.workers
    c.tell_state.ensures.rows (λ x. refl)
