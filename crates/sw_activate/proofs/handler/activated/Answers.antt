use Rattle.std.proofs.Common.{◌≡◌, ◌∙◌, Option, Some, None, option_map, refl, sym, ap, subst, arith}
use Rattle.sw_data.specs.declared.answers.Answer.TheVariants as answer
use Rattle.sw_data.specs.declared.rows.WorkerRow.{WorkerRow}
use Rattle.sw_data.specs.declared.workers.Phase.TheVariants as phase
use Rattle.sw_rules.specs.Rows.{is_worker}
use Rattle.sw_rules.specs.State.{State}
use Rattle.sw_rules.specs.Told.{Outcome}
use Rattle.sw_tables.proofs.Counting.{settled_counts}
use Rattle.sw_tables.proofs.Rows.{find_map, found_number}
use Rattle.sw_tables.specs.Happened.{Happened}
use Rattle.sw_tables.specs.Lent.{lent, shown_handler, shown_worker}
use Rattle.sw_worker.specs.Table.{worker_at}
use Rattle.sw_activate.proofs.Ended.{comes_to, no_worker, not_ended}
use Rattle.sw_activate.proofs.handler.activated.Goals as goal

pub returns-in_default-clause-did : goal.returns-in_default-clause-did
returns-in_default-clause-did c = λ rest counts.
    let worker = c.args.worker in
    let rows = c.args.workers.now.rows in
    let old : State = lent c.args.map.now c.args.workers.now c.args.registrations.now c.args.clients.now rest in
    let none : worker_at worker rows ≡ None = grind (arith, c.row.ensures, c.in_default.is) in
    let absent = no_worker old worker (find_map (is_worker worker) shown_worker rows ∙ ap (option_map shown_worker) none) in
    subst (λ (o : Option Outcome). Happened o None c.args.notices.now c.args.notices.now old old) (sym absent) (refl, refl, refl)

pub returns-in_default-ended_handler-clause-did : goal.returns-in_default-ended_handler-clause-did
returns-in_default-ended_handler-clause-did c = λ rest counts.
    let worker = c.args.worker in
    let rows = c.args.workers.now.rows in
    let row = c.in-Some.row.now in
    let old : State = lent c.args.map.now c.args.workers.now c.args.registrations.now c.args.clients.now rest in
    let here : worker_at worker rows ≡ Some row = grind (arith, c.row.ensures, c.in-Some.is) in
    let own = found_number (λ (r : WorkerRow). r.number) worker rows row here in
    let ended = c.ended_handler.ensures.ended c.args.map.now c.args.workers.now c.args.registrations.now c.args.clients.now rest (cc (own, here)) counts in
    let runs_on = not_ended old worker (shown_worker row) (find_map (is_worker worker) shown_worker rows ∙ ap (option_map shown_worker) here)
    (sym ended ∙ ap (option_map shown_handler) c.in_default-ended_handler.is) in
    subst (λ (o : Option Outcome). Happened o None c.args.notices.now c.args.notices.now old old) (sym runs_on) (refl, refl, refl)

pub returns-clause-did : goal.returns-clause-did
returns-clause-did c = λ rest counts.
    let worker = c.args.worker in
    let rows = c.args.workers.now.rows in
    let row = c.in-Some.row.now in
    let old : State = lent c.args.map.now c.args.workers.now c.args.registrations.now c.args.clients.now rest in
    let new : State = lent c.args.map.now c.finish_activate.new.workers c.finish_activate.new.registrations c.finish_activate.new.clients rest in
    let here : worker_at worker rows ≡ Some row = grind (arith, c.row.ensures, c.in-Some.is) in
    let own = found_number (λ (r : WorkerRow). r.number) worker rows row here in
    let ended = c.ended_handler.ensures.ended c.args.map.now c.args.workers.now c.args.registrations.now c.args.clients.now rest (cc (own, here)) counts in
    let is = comes_to old worker (shown_worker row) (shown_handler c.in-Some-ended_handler.field-0)
    (find_map (is_worker worker) shown_worker rows ∙ ap (option_map shown_worker) here) own
    (sym ended ∙ ap (option_map shown_handler) c.in-Some-ended_handler.is) in
    subst (λ (o : Option Outcome). Happened o (Some answer.Ok) c.args.notices.now c.finish_activate.new.notices old new) (sym is)
    (refl, c.finish_activate.ensures.did rest)

pub returns-clause-counts : goal.returns-clause-counts
returns-clause-counts c =
    let here : worker_at c.args.worker c.args.workers.now.rows ≡ Some c.in-Some.row.now = grind (arith, c.row.ensures, c.in-Some.is) in
    c.finish_activate.ensures.counts
    (settled_counts phase.Activate c.args.worker c.args.workers.now.rows c.in-Some.row.now c.ended_handler.result c.in-Some-ended_handler.field-0
    here c.in-Some-ended_handler.is c.ended_handler.ensures.runs c.ended_handler.ensures.settled)
