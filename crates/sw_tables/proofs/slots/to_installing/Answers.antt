use Rattle.std.proofs.Common.{◌∙◌, Some, map, refl, sym, ap}
use Rattle.sw_data.specs.declared.workers.WorkerState.TheVariants as worker_state
use Rattle.sw_reg.specs.Edits.{with_installing}
use Rattle.sw_reg.specs.Table as registrations
use Rattle.sw_reg.specs.Table.{is_registration, registration_at}
use Rattle.sw_data.specs.declared.workers.Phase.TheVariants as phase
use Rattle.sw_rules.specs.Registrations.{become, new_handler, start_handler}
use Rattle.sw_rules.specs.Rows as rules
use Rattle.sw_tables.proofs.Lives.{begins, begun, install_move, is_idle_still, rests, slot_empty}
use Rattle.sw_tables.proofs.OneMoves.{one_linked, one_moved}
use Rattle.sw_tables.proofs.Shown.{changed_twice, one_shown, unseen_changed}
use Rattle.sw_tables.specs.Lent.{lent, shown_registration}
use Rattle.sw_tables.specs.Parts.{is_parsed}
use Rattle.sw_tables.proofs.Counting.{counts_nothing, rest_counts}
use Rattle.sw_tables.proofs.slots.to_installing.Goals as goal

pub start_handler-requires : goal.start_handler-requires
start_handler-requires c =
    let known = rests is_parsed c.args.registration c.args.worker c.args.workers.now c.requires.worker in
    is_idle_still c.args.registration c.args.worker known.0 c.args.workers.now c.advance.new.workers worker_state.Installing known.1 c.advance.ensures

pub to_installing-requires : goal.to_installing-requires
to_installing-requires c =
    let known = rests is_parsed c.args.registration c.args.worker c.args.workers.now c.requires.worker in
    slot_empty (registration_at c.args.registration c.args.registrations.now.rows)
    (ap (λ q. registrations.is_there q c.args.registrations.now.rows) (sym known.1.of)
    ∙ (c.requires.slots.rows c.args.worker known.0 known.1.here).owner)
    c.requires.empty

pub returns-clause-state : goal.returns-clause-state
unfolding become start_handler
returns-clause-state c scopes of_clients rest =
    let state = lent scopes c.args.workers.now c.args.registrations.now of_clients rest in
    one_shown c.args.worker begun (λ row. record row { state = worker_state.Installing; handler = Some (new_handler phase.Install) }) (λ row. refl) c.args.workers.now c.start_handler.new.self c.args.registrations.now
    c.to_installing.new.self scopes of_clients rest
    (ap (λ (t : registrations.Table). map (shown_registration scopes rest) t.rows) c.to_installing.ensures
    ∙ unseen_changed (shown_registration scopes rest) (is_registration c.args.registration) (with_installing c.args.worker) (λ row. refl)
    c.args.registrations.now.rows)
    (begins c.args.worker c.args.workers.now c.advance.new.workers c.start_handler.new.self c.advance.ensures c.start_handler.ensures)
    ∙ ap (λ rows. record state { workers = rows }) (sym (changed_twice (rules.is_worker c.args.worker) (λ row. record row { handler = Some (new_handler phase.Install) }) (λ row. record row { state = worker_state.Installing }) (λ row. refl) state.workers))

pub returns-clause-slots : goal.returns-clause-slots
returns-clause-slots c =
    let known = rests is_parsed c.args.registration c.args.worker c.args.workers.now c.requires.worker in
    one_moved c.args.registration c.args.worker known.0 begun _ _ _ _ _
    (install_move c.args.registration c.args.worker known.0 c.args.workers.now c.start_handler.new.self c.args.registrations.now
    c.to_installing.new.self c.requires.slots known.1 c.requires.empty
    (begins c.args.worker c.args.workers.now c.advance.new.workers c.start_handler.new.self c.advance.ensures c.start_handler.ensures)
    c.to_installing.ensures) c.requires.slots

pub returns-clause-linked : goal.returns-clause-linked
returns-clause-linked c =
    let known = rests is_parsed c.args.registration c.args.worker c.args.workers.now c.requires.worker in
    one_linked c.args.registration c.args.worker known.0 begun _ _ _ _ _
    (install_move c.args.registration c.args.worker known.0 c.args.workers.now c.start_handler.new.self c.args.registrations.now
    c.to_installing.new.self c.requires.slots known.1 c.requires.empty
    (begins c.args.worker c.args.workers.now c.advance.new.workers c.start_handler.new.self c.advance.ensures c.start_handler.ensures)
    c.to_installing.ensures) c.requires.slots

pub returns-clause-counts : goal.returns-clause-counts
returns-clause-counts c =
    let known = rests is_parsed c.args.registration c.args.worker c.args.workers.now c.requires.worker in
    counts_nothing c.args.worker begun (λ x. refl) (λ x. refl) c.args.workers.now c.start_handler.new.self
    (begins c.args.worker c.args.workers.now c.advance.new.workers c.start_handler.new.self c.advance.ensures c.start_handler.ensures)
    (rest_counts is_parsed c.args.registration c.args.worker known.0 c.args.workers.now known.1)
