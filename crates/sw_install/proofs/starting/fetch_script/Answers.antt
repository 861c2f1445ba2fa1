use Rattle.std.proofs.Common.{◌∙◌, ℕ, List, refl, sym, ap, subst}
use Rattle.sw_data.specs.declared.rows.JobPhase.TheVariants as job_phase
use Rattle.sw_data.specs.declared.rows.JobRow.{JobRow}
use Rattle.sw_install.proofs.Ready.{still_places, twice}
use Rattle.sw_install.specs.Runs.{drawn, fetches}
use Rattle.sw_queue.specs.Tables.{with_phase}
use Rattle.sw_rules.specs.Jobs.{next_draw}
use Rattle.sw_rules.specs.Registering as rules
use Rattle.sw_rules.specs.Rows.{changed, is_job}
use Rattle.sw_rules.specs.State.{State}
use Rattle.sw_tables.proofs.Chain.{did_quietly}
use Rattle.sw_tables.specs.Happened.{with_jobs}
use Rattle.sw_tables.specs.Lent.{lent}
use Rattle.sw_tables.specs.Linked.{ArePlaces}
use Rattle.sw_install.proofs.starting.fetch_script.Goals as goal

pub note_fetch-requires-clause-numbers : goal.note_fetch-requires-clause-numbers
note_fetch-requires-clause-numbers c =
    subst (λ (rows : List JobRow). ArePlaces (λ (row : JobRow). row.job.number) rows) (sym c.start.ensures.rows)
    (still_places (with_phase job_phase.Fetching) c.args.job (λ row. refl) c.args.queues.now.rows c.requires.numbers)

pub returns-clause-rows : goal.returns-clause-rows
returns-clause-rows c =
    c.note_fetch.ensures.rows
    ∙ (ap (λ (rows : List JobRow). changed (is_job c.args.job) (fetches c.args.registration c.args.ordinal) rows) c.start.ensures.rows
    ∙ twice c.args.registration c.args.ordinal c.args.job c.args.queues.now.rows)

pub returns-clause-did : goal.returns-clause-did
unfolding rules.fetch_script
returns-clause-did c = λ scopes of_workers of_clients rest of_job list number ordinal.
    let old = c.args.queues.now.rows in
    let after : List JobRow → State = λ jobs.
    lent scopes of_workers c.args.registrations.now of_clients (drawn of_job.script (with_jobs jobs rest)) in
    let run : ℕ → ℕ → List JobRow = λ job n. changed (is_job job) (fetches c.args.registration n) old in
    did_quietly (rules.fetch_script (lent scopes of_workers c.args.registrations.now of_clients (with_jobs old rest)) of_job c.args.registration) list (after c.note_fetch.new.queues.rows) refl
    (ap after (returns-clause-rows c ∙ (ap (λ (n : ℕ). run c.args.job n) ordinal ∙ ap (λ (job : ℕ). run job (next_draw rest.draws of_job.script)) (sym number))))
