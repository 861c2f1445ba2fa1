use Rattle.std.proofs.Common.{◌∙◌, refl, sym, ap}
use Rattle.sw_data.specs.declared.workers.WorkerState.TheVariants as worker_state
use Rattle.sw_reg.specs.Table as registrations
use Rattle.sw_tables.proofs.Counting.{plainly}
use Rattle.sw_tables.proofs.Lives.{rests}
use Rattle.sw_tables.proofs.Waiting.{has_installing, may_wait, still_rests, waiting_did, waiting_linked, waiting_quiet, waiting_slots}
use Rattle.sw_tables.specs.Parts.{is_installing}
use Rattle.sw_worker.specs.Edits.{advanced}
use Rattle.sw_worker.specs.Table.{is_worker}
use Rattle.sw_tables.proofs.slots.become_waiting.Goals as goal

pub retire-requires-clause-there : goal.retire-requires-clause-there
retire-requires-clause-there c =
    let known = rests is_installing c.args.registration c.args.worker c.args.workers.now c.requires.worker in
    ap (λ q. registrations.is_there q c.args.registrations.now.rows) (sym known.1.of) ∙ (c.requires.slots.rows c.args.worker known.0 known.1.here).owner

pub retire-requires-clause-quiet : goal.retire-requires-clause-quiet
retire-requires-clause-quiet c = waiting_quiet c.args.registration c.args.workers.now c.args.registrations.now c.requires.slots

pub wait-requires : goal.wait-requires
wait-requires c =
    let known = rests is_installing c.args.registration c.args.worker c.args.workers.now c.requires.worker in
    let now = still_rests c.args.registration c.args.worker known.0 _ _ _ _ c.requires.slots c.retire.ensures.vacates known.1 in
    has_installing c.args.registration c.args.worker known.0 c.retire.new.workers c.retire.new.registrations c.retire.ensures.slots now c.retire.ensures.vacates.empty

pub tell_state-requires-clause-follows : goal.tell_state-requires-clause-follows
tell_state-requires-clause-follows c =
    let known = rests is_installing c.args.registration c.args.worker c.args.workers.now c.requires.worker in
    let now = still_rests c.args.registration c.args.worker known.0 _ _ _ _ c.requires.slots c.retire.ensures.vacates known.1 in
    may_wait c.args.registration c.args.worker known.0 c.retire.new.workers c.retire.new.registrations c.retire.ensures.slots now c.retire.ensures.vacates.empty

pub returns-clause-did : goal.returns-clause-did
returns-clause-did c row number =
    waiting_did c.args.registration c.args.worker c.args.workers.now c.retire.new.workers c.tell_state.new.workers
    c.args.registrations.now c.retire.new.registrations c.wait.new.registrations c.args.notices.now c.retire.new.notices c.tell_state.new.notices
    c.retire.ensures.did c.wait.ensures c.tell_state.ensures.rows c.tell_state.ensures.told row number

pub returns-clause-slots : goal.returns-clause-slots
returns-clause-slots c =
    let known = rests is_installing c.args.registration c.args.worker c.args.workers.now c.requires.worker in
    let now = still_rests c.args.registration c.args.worker known.0 _ _ _ _ c.requires.slots c.retire.ensures.vacates known.1 in
    waiting_slots c.args.registration c.args.worker known.0 c.retire.new.workers c.retire.new.registrations c.retire.ensures.slots now c.retire.ensures.vacates.empty
    _ c.tell_state.new.workers c.wait.new.registrations c.wait.ensures c.tell_state.ensures.rows

pub returns-clause-linked : goal.returns-clause-linked
returns-clause-linked c scopes of_clients linked =
    let known = rests is_installing c.args.registration c.args.worker c.args.workers.now c.requires.worker in
    let now = still_rests c.args.registration c.args.worker known.0 _ _ _ _ c.requires.slots c.retire.ensures.vacates known.1 in
    waiting_linked c.args.registration c.args.worker known.0 c.retire.new.workers c.retire.new.registrations c.retire.ensures.slots now c.retire.ensures.vacates.empty
    _ c.tell_state.new.workers c.wait.new.registrations c.wait.ensures c.tell_state.ensures.rows scopes of_clients (c.retire.ensures.linked scopes of_clients linked)

pub returns-clause-counts : goal.returns-clause-counts
returns-clause-counts c number =
    plainly (is_worker c.args.worker) (advanced worker_state.Installed) (λ x. refl) c.retire.new.workers c.tell_state.new.workers
    c.tell_state.ensures.rows (λ x. refl) number
    ∙ c.retire.ensures.counts number
