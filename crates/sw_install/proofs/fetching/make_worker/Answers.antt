use Rattle.std.proofs.Common.{◌≡◌, ◌∙◌, ℕ, List, [], ◌∷◌, ◌++◌, Some, map, length, sym, ap}
use Rattle.std.proofs.lemmas.List.{length-map, map-append}
use Rattle.sw_data.specs.declared.answers.Notice.TheVariants as notice
use Rattle.sw_data.specs.declared.rows.JobPhase.TheVariants as job_phase
use Rattle.sw_data.specs.declared.rows.JobRow.{JobRow}
use Rattle.sw_data.specs.declared.workers.WorkerState.TheVariants as worker_state
use Rattle.sw_rules.specs.Installing as rules
use Rattle.sw_rules.specs.Rows.{changed, is_job}
use Rattle.sw_rules.specs.State.{State, FetchEvent, Worker}
use Rattle.sw_tables.specs.Happened.{with_jobs}
use Rattle.sw_tables.specs.Lent.{lent, shown_worker}
use Rattle.sw_install.proofs.fetching.make_worker.Goals as goal

pub returns-clause-did : goal.returns-clause-did
unfolding rules.make_worker
returns-clause-did c = λ scopes of_clients rest row registration fetched number made.
    let old = c.args.queues.now.rows in
    let state : State = lent scopes c.args.workers.now c.args.registrations.now of_clients (with_jobs old rest) in
    let rows = c.args.workers.now.rows in
    let shown : map shown_worker c.add_worker-worker.new.workers.rows ≡ map shown_worker rows ++ rules.made_worker state row registration fetched ∷ [] =
    ap (map shown_worker) c.add_worker-worker.ensures.rows
    ∙ (map-append shown_worker rows (c.args.new ∷ [])
    ∙ ap (λ (w : Worker). map shown_worker rows ++ w ∷ []) made) in
    let worker : c.add_worker-worker.result ≡ length (map shown_worker rows) =
    c.add_worker-worker.ensures.number ∙ sym (length-map rows shown_worker) in
    let begun : ℕ → ℕ → List JobRow = λ job n. changed (is_job job) (λ r. record r { phase = job_phase.Evaluating; worker = Some n }) old in
    let jobs : c.note_worker.new.queues.rows ≡ begun row.job.number (length (map shown_worker rows)) =
    c.note_worker.ensures.rows
    ∙ (ap (λ (n : ℕ). begun c.args.job n) worker ∙ ap (λ (job : ℕ). begun job (length (map shown_worker rows))) (sym number)) in
    let with : List Worker → List JobRow → List FetchEvent → State = λ workers jobs events.
    record state { workers = workers; jobs = jobs; fetch_events = events } in
    record {
      state =
          ap (λ (events : List FetchEvent). with (map shown_worker c.add_worker-worker.new.workers.rows) c.note_worker.new.queues.rows events) c.add_worker-worker.ensures.events
          ∙ (ap (λ (of : List Worker). with of c.note_worker.new.queues.rows c.args.workers.now.events) shown
          ∙ ap (λ (of : List JobRow). with (map shown_worker rows ++ rules.made_worker state row registration fetched ∷ []) of c.args.workers.now.events) jobs);
      notices = c.push.ensures.rows ∙ ap (λ (n : ℕ). c.args.notices.now.rows ++ notice.Worker n worker_state.Parsed ∷ []) worker;
    }
