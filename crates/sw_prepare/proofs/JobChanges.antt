-- The durable changes of the events of jobs.
use Rattle.std.proofs.Common.{◌≡◌, ◌∙◌, ℕ, Bool, true, false, ◌&&◌, ◌||◌, List, [], ◌∷◌, ◌++◌, Option, Some, None, option_map, option_and_then, find, is_some, is_none, refl, sym, ap, if◌then◌else◌}
use Rattle.std.specs.Prelude.{IfSome}
use Rattle.std.specs.Option.{option_map_or, option_or}
use Rattle.std.proofs.lemmas.List.{append-nil}
use Rattle.sw_activate.specs.Answers.{unregister_refusal}
use Rattle.sw_client.specs.Table as clients
use Rattle.sw_data.specs.declared.answers.Fault.{Fault}
use Rattle.sw_data.specs.declared.answers.Answer.TheVariants as answer
use Rattle.sw_data.specs.declared.answers.Fault.TheVariants as fault
use Rattle.sw_data.specs.declared.answers.SecurityCause.TheVariants as security
use Rattle.sw_data.specs.declared.answers.Settlement.{Settlement}
use Rattle.sw_data.specs.declared.answers.Settlement.TheVariants as settlement
use Rattle.sw_data.specs.declared.recordings.FetchLine.{FetchLine}
use Rattle.sw_data.specs.declared.recordings.Fetched.{Fetched}
use Rattle.sw_data.specs.declared.rows.Job.{Job}
use Rattle.sw_data.specs.declared.rows.JobKind.{JobKind}
use Rattle.sw_data.specs.declared.rows.JobKind.TheVariants as job_kind
use Rattle.sw_data.specs.declared.rows.JobRow.{JobRow}
use Rattle.sw_data.specs.declared.rows.RegistrationRow.{RegistrationRow}
use Rattle.sw_data.specs.declared.rows.WorkerRow.{WorkerRow}
use Rattle.sw_data.specs.declared.storage.Change.{Change}
use Rattle.sw_data.specs.declared.storage.Change.TheVariants as change
use Rattle.sw_data.specs.declared.workers.Slot.TheVariants as slot
use Rattle.sw_data.specs.Addresses.{same_origin}
use Rattle.sw_prepare.specs.OfJobs.{evaluation_changes, fetch_changes, gone_changes, mode_changes, new_mode, unregister_changes, unregistered, worker_of_job}
use Rattle.sw_prepare.specs.Telling.{HasChanges}
use Rattle.sw_prepare.proofs.ActivationChanges.{clears_quietly}
use Rattle.sw_install.proofs.Enabled.{if_some, some_if}
use Rattle.sw_install.proofs.FetchEnds.{rejected, script_changed, unchanged}
use Rattle.sw_install.specs.Fetches.{ComesTo, IsOutcome, fetch_outcome}
use Rattle.sw_install.specs.declared.calls.FetchOutcome.{FetchOutcome}
use Rattle.sw_install.specs.declared.calls.FetchOutcome.TheVariants as outcome
use Rattle.sw_reg.specs.Table as registrations
use Rattle.sw_reg.specs.Table.{registration_at}
use Rattle.sw_rules.specs.Installing.{begin_install, evaluated, evaluated_worker, fetch_ended, fetched, fetched_of, install, job_worker, keep_script, make_worker, reject_and_drop, remember, tell_update, throw}
use Rattle.sw_rules.specs.Jobs.{finish, resolve_and_finish, settle}
use Rattle.sw_rules.specs.Registering.{finished, may_run, run, run_job, run_register, run_unregister, run_update, unregister_mapped}
use Rattle.sw_rules.specs.Registrations.{become, drop_registration, set_mode, start_handler, unmap}
use Rattle.sw_rules.specs.Rows.{is_in_phase, is_evaluating, is_fetching, is_job, job_row, mapped_registration, registration_row, slot_worker, worker_row}
use Rattle.sw_rules.specs.State.{State, Registration, Worker}
use Rattle.sw_rules.specs.Told.{Outcome, followed, is_kept, quiet}
use Rattle.sw_scope.specs.Scopes.{Scopes, maps}
use Rattle.sw_tables.proofs.Lookups.{mapped_number, mapped_shown, worker_shown}
use Rattle.sw_tables.proofs.Rows.{found_number}
use Rattle.sw_tables.specs.Happened.{with_jobs}
use Rattle.sw_tables.specs.Lent.{Rest, lent, shown_registration, shown_worker}
use Rattle.sw_tables.specs.Linked.{ArePlaces, HasScopes}
use Rattle.sw_worker.specs.Table as workers
use Rattle.sw_worker.specs.Table.{worker_at}

-- ---- parts that change nothing durable

pub settled_quietly : (state : State) (job : ℕ) (value : Settlement) → (resolve_and_finish state job value).changes ≡ []
unfolding resolve_and_finish settle finish followed
settled_quietly state job value = refl

-- a registration without a worker isn't kept
none_kept : (state : State) (n : ℕ) → slot_worker state slot.Waiting n ≡ None → slot_worker state slot.Active n ≡ None → gone_changes state n ≡ []
none_kept state n waiting active = by (registration_row state n) refl
  where
    still : (b : Bool) → (b && (false || false)) ≡ false
    still true = refl
    still false = refl

    isnt : (row : Registration) → row.number ≡ n → is_kept state row ≡ false
    isnt row own =
        ap (λ (m : ℕ). row.mapped && (is_some (slot_worker state slot.Waiting m) || is_some (slot_worker state slot.Active m))) own
        ∙ (ap (λ (o : Option Worker). row.mapped && (is_some o || is_some (slot_worker state slot.Active n))) waiting
        ∙ (ap (λ (o : Option Worker). row.mapped && (false || is_some o)) active ∙ still row.mapped))

    by : (o : Option Registration) → registration_row state n ≡ o
        → option_map_or (λ (row : Registration). if is_kept state row then change.Gone row.key row.scope ∷ [] else []) o [] ≡ []
    by None is = refl
    by (Some row) is =
        ap (λ (b : Bool). if b then change.Gone row.key row.scope ∷ [] else [])
        (isnt row (found_number (λ (r : Registration). r.number) n state.registrations row is))

dropped_quietly : (state : State) (n : ℕ) → (drop_registration state n).changes ≡ []
unfolding drop_registration unmap
dropped_quietly state n = by (slot_worker state slot.Installing n) (slot_worker state slot.Waiting n) (slot_worker state slot.Active n) refl refl
  where
    by : (i w a : Option Worker) → slot_worker state slot.Waiting n ≡ w → slot_worker state slot.Active n ≡ a
        → (if is_none (option_or i (option_or w a)) then unmap state n else quiet state).changes ≡ []
    by (Some x) w a waiting active = refl
    by None (Some x) a waiting active = refl
    by None None (Some x) waiting active = refl
    by None None None waiting active = none_kept state n waiting active

rejected_quietly : (state : State) (job n : ℕ) (why : Fault) → (reject_and_drop state job n why).changes ≡ []
unfolding reject_and_drop settle finish followed
rejected_quietly state job n why = ap (λ (list : List Change). list ++ []) (dropped_quietly _ n)

-- ---- the run of an unregister job

unmapped_told : (state : State) (job : Job) (n : ℕ) → (unregister_mapped state job n).changes ≡ gone_changes state n
unfolding unregister_mapped unmap settle finish followed
unmapped_told state job n =
    ap (λ (list : List Change). gone_changes state n ++ (list ++ [])) (clears_quietly _ n) ∙ append-nil (gone_changes state n)

unregister_told : (state : State) (job : Job) → (run_unregister state job).told.changes
    ≡ (if same_origin job.scope job.referrer then option_map_or (λ (row : Registration). gone_changes state row.number) (mapped_registration state job.key job.scope) [] else [])
unfolding run_unregister
unregister_told state job = by (same_origin job.scope job.referrer) (mapped_registration state job.key job.scope)
  where
    comes_to : Bool → Option Registration → Outcome
    comes_to b o =
        if b
        then
        elim o [
          | None ↦ finished (resolve_and_finish state job.number (settlement.Truth false))
          | Some row ↦ finished (unregister_mapped state job row.number)
        ]
        else finished (resolve_and_finish state job.number (settlement.Fault (fault.SecurityError security.ScopeOrigin)))

    by : (b : Bool) (o : Option Registration) → (comes_to b o).told.changes
        ≡ (if b then option_map_or (λ (row : Registration). gone_changes state row.number) o [] else [])
    by true None = settled_quietly state job.number _
    by true (Some row) = unmapped_told state job row.number
    by false o = settled_quietly state job.number _

module _ (scopes : Scopes) (of_workers : workers.Table) (of : registrations.Table) (of_clients : clients.Table) (jobs : List JobRow) (rest : Rest) where
  abbrev lent_state : State
  lent_state = lent scopes of_workers of of_clients (with_jobs jobs rest)

  module _ (are : ArePlaces (λ (row : RegistrationRow). row.number) of.rows) (has : HasScopes scopes of) where
    -- the number of the mapped registration is what the map has
    mapped_known : (key scope : List ℕ) → option_map (λ (row : Registration). row.number) (mapped_registration lent_state key scope) ≡ maps scopes key scope
    mapped_known key scope =
        ap (option_map (λ (row : Registration). row.number)) (mapped_shown scopes of are has key scope of_workers of_clients (with_jobs jobs rest))
        ∙ (by (option_and_then (λ n. registration_at n of.rows) (maps scopes key scope)) ∙ mapped_number scopes of are has key scope)
      where
        by : (o : Option RegistrationRow) → option_map (λ (row : Registration). row.number) (option_map (shown_registration scopes (with_jobs jobs rest)) o)
            ≡ option_map (λ (row : RegistrationRow). row.number) o
        by None = refl
        by (Some row) = refl

    numbered : (o : Option Registration) → option_map_or (λ (row : Registration). gone_changes lent_state row.number) o []
        ≡ option_map_or (gone_changes lent_state) (option_map (λ (row : Registration). row.number) o) []
    numbered None = refl
    numbered (Some row) = refl

    pub run_told : (job : ℕ) (refusal : Option Fault) → IfSome (find (is_job job) jobs) (λ (row : JobRow). (row.job.what ≡ job_kind.Unregister) × (refusal ≡ unregister_refusal row.job))
        → HasChanges (run lent_state job) (unregister_changes lent_state (unregistered refusal job scopes jobs))
    run_told job refusal = by (find (is_job job) jobs)
      where
        is_of : (row : JobRow) → row.job.what ≡ job_kind.Unregister → run_job lent_state row.job ≡ run_unregister lent_state row.job
        is_of row what =
            ap (λ (kind : JobKind). elim kind [ job_kind.Register ↦ run_register lent_state row.job | job_kind.Update ↦ run_update lent_state row.job | job_kind.Unregister ↦ run_unregister lent_state row.job ]) what

        refuses : (job : Job) (b : Bool) (why : Fault) → refusal ≡ (if b then None else Some why)
            → unregister_changes lent_state (if is_some refusal then None else maps scopes job.key job.scope)
            ≡ (if b then option_map_or (λ (row : Registration). gone_changes lent_state row.number) (mapped_registration lent_state job.key job.scope) [] else [])
        refuses job true why is =
            ap (λ (o : Option Fault). unregister_changes lent_state (if is_some o then None else maps scopes job.key job.scope)) is
            ∙ (ap (unregister_changes lent_state) (sym (mapped_known job.key job.scope))
            ∙ sym (numbered (mapped_registration lent_state job.key job.scope)))
        refuses job false why is =
            ap (λ (o : Option Fault). unregister_changes lent_state (if is_some o then None else maps scopes job.key job.scope)) is

        by : (o : Option JobRow) → IfSome o (λ (row : JobRow). (row.job.what ≡ job_kind.Unregister) × (refusal ≡ unregister_refusal row.job))
            → HasChanges (elim o [ None ↦ None | Some row ↦ if may_run lent_state row then Some (run_job lent_state row.job) else None ])
            (unregister_changes lent_state (if is_some refusal then None else option_and_then (λ (row : JobRow). maps scopes row.job.key row.job.scope) o))
        by None asked = tt
        by (Some row) asked = runs (may_run lent_state row)
          where
            runs : (b : Bool) → HasChanges (if b then Some (run_job lent_state row.job) else None)
                (unregister_changes lent_state (if is_some refusal then None else maps scopes row.job.key row.job.scope))
            runs false = tt
            runs true =
                refuses row.job (same_origin row.job.scope row.job.referrer) _ asked.1
                ∙ (sym (unregister_told lent_state row.job) ∙ ap (λ (o : Outcome). o.told.changes) (sym (is_of row asked.0)))

-- ---- the end of a fetch

kept_quietly : (state : State) (job : Job) (n : ℕ) → (keep_script state job n).changes ≡ (set_mode state n job.mode).changes
unfolding keep_script followed
kept_quietly state job n =
    ap (λ (list : List Change). (set_mode state n job.mode).changes ++ list) (settled_quietly _ job.number _) ∙ append-nil (set_mode state n job.mode).changes

made_quietly : (state : State) (row : JobRow) (n : ℕ) (fetched : Fetched) → (make_worker state row n fetched).changes ≡ []
unfolding make_worker
made_quietly state row n fetched = refl

-- the mode of a job that was found
mode_of : (state : State) (job n : ℕ) (row : JobRow) → job_row state job ≡ Some row → row.registration ≡ Some n
    → mode_changes state (new_mode job state.jobs) ≡ (set_mode state n row.job.mode).changes
mode_of state job n row is of =
    ap (λ (o : Option JobRow). mode_changes state (option_and_then (λ (r : JobRow). option_map (λ registration. (registration, r.job.mode)) r.registration) o)) is
    ∙ ap (λ (o : Option ℕ). mode_changes state (option_map (λ registration. (registration, row.job.mode)) o)) of

pub fetch_told : (state : State) (job : ℕ) (line : Option FetchLine) (given : FetchOutcome) (made : Option WorkerRow) → ComesTo given made state job line
    → HasChanges (fetched state job line) (fetch_changes given state job)
fetch_told state job line given made = by (job_row state job) refl
  where
    IsSo : Option JobRow → Type 0
    IsSo o = IfSome (option_and_then (λ (row : JobRow). if is_in_phase is_fetching row then Some row else None) o) (λ (row : JobRow). IfSome row.registration (IsOutcome given made state row (fetched_of line)))

    comes_to : (row : JobRow) (n : ℕ) → job_row state job ≡ Some row → is_in_phase is_fetching row ≡ true → row.registration ≡ Some n → (g : FetchOutcome)
        → g ≡ fetch_outcome state row n (fetched_of line) → HasChanges (fetched state job line) (fetch_changes g state job)
    comes_to row n is fetches of (outcome.Rejected why) comes =
        some_if (λ (o : Outcome). [] ≡ o.told.changes) (fetched state job line) _ (rejected state job n row line is fetches of why comes) (sym (rejected_quietly state job n why))
    comes_to row n is fetches of outcome.Unchanged comes =
        some_if (λ (o : Outcome). mode_changes state (new_mode job state.jobs) ≡ o.told.changes) (fetched state job line) _ (unchanged state job n row line is fetches of comes)
        (mode_of state job n row is of ∙ sym (kept_quietly state row.job n))
    comes_to row n is fetches of outcome.Changed comes =
        let new = script_changed state job n row line is fetches of comes in
        some_if (λ (o : Outcome). [] ≡ o.told.changes) (fetched state job line) _ new.2 (sym (made_quietly state row n new.0))

    registered : (row : JobRow) → job_row state job ≡ Some row → is_in_phase is_fetching row ≡ true → (r : Option ℕ) → row.registration ≡ r
        → IfSome r (IsOutcome given made state row (fetched_of line)) → HasChanges (option_map (fetch_ended state row (fetched_of line)) r) (fetch_changes given state job)
    registered row is fetches None of comes = tt
    registered row is fetches (Some n) of comes = said
      where
        whole : fetched state job line ≡ Some (fetch_ended state row (fetched_of line) n)
        whole =
            ap (λ (o : Option JobRow). option_and_then (λ (r : JobRow). option_map (fetch_ended state r (fetched_of line)) r.registration) (option_and_then (λ (r : JobRow). if is_in_phase is_fetching r then Some r else None) o)) is
            ∙ (ap (λ (b : Bool). option_and_then (λ (r : JobRow). option_map (fetch_ended state r (fetched_of line)) r.registration) (if b then Some row else None)) fetches
            ∙ ap (option_map (fetch_ended state row (fetched_of line))) of)

        said : fetch_changes given state job ≡ (fetch_ended state row (fetched_of line) n).told.changes
        said = if_some (λ (o : Outcome). fetch_changes given state job ≡ o.told.changes) (fetched state job line) (fetch_ended state row (fetched_of line) n) whole (comes_to row n is fetches of given comes.comes)

    fetching : (row : JobRow) → job_row state job ≡ Some row → (b : Bool) → is_in_phase is_fetching row ≡ b → IfSome (if b then Some row else None) (λ (r : JobRow). IfSome r.registration (IsOutcome given made state r (fetched_of line)))
        → HasChanges (option_and_then (λ (r : JobRow). option_map (fetch_ended state r (fetched_of line)) r.registration) (if b then Some row else None)) (fetch_changes given state job)
    fetching row is false fetches comes = tt
    fetching row is true fetches comes = registered row is fetches row.registration refl comes

    by : (o : Option JobRow) → job_row state job ≡ o → IsSo o
        → HasChanges (option_and_then (λ (row : JobRow). option_map (fetch_ended state row (fetched_of line)) row.registration) (option_and_then (λ (row : JobRow). if is_in_phase is_fetching row then Some row else None) o)) (fetch_changes given state job)
    by None is comes = tt
    by (Some row) is comes = fetching row is (is_in_phase is_fetching row) refl comes

-- ---- the evaluation

thrown_quietly : (state : State) (job n worker : ℕ) → (throw state job n worker).changes ≡ []
unfolding throw become followed
thrown_quietly state job n worker = rejected_quietly _ job n _

install_told : (state : State) (job : Job) (n worker : ℕ) → (install state job n worker).changes ≡ (set_mode state n job.mode).changes
unfolding install begin_install remember become start_handler settle tell_update followed
install_told state job n worker = append-nil (set_mode state n job.mode).changes

pub evaluation_told : (state : State) (job : ℕ) → HasChanges (evaluated state job) (evaluation_changes state job)
evaluation_told state job = by (job_row state job) refl
  where
    comes_to : JobRow → ℕ → Worker → Bool → Outcome
    comes_to row n worker b =
        if b then record { answer = answer.Threw; told = throw state row.job.number n worker.number }
        else record { answer = answer.Installing; told = install state row.job n worker.number }

    thrown : (row : JobRow) (n : ℕ) (worker : Worker) (b : Bool) → job_row state job ≡ Some row → row.registration ≡ Some n
        → (if b then [] else mode_changes state (new_mode job state.jobs)) ≡ (comes_to row n worker b).told.changes
    thrown row n worker true is of = sym (thrown_quietly state row.job.number n worker.number)
    thrown row n worker false is of = mode_of state job n row is of ∙ sym (install_told state row.job n worker.number)

    made : (row : JobRow) (n : ℕ) → job_row state job ≡ Some row → row.registration ≡ Some n → (w : Option Worker) → job_worker state row ≡ w
        → HasChanges (option_map (evaluated_worker state row.job n) w) (evaluation_changes state job)
    made row n is of None by = tt
    made row n is of (Some worker) by =
        ap (λ (o : Option JobRow). if option_map_or (λ (w : Worker). w.handlers.throws) (option_and_then (job_worker state) o) false then [] else mode_changes state (new_mode job state.jobs)) is
        ∙ (ap (λ (o : Option Worker). if option_map_or (λ (w : Worker). w.handlers.throws) o false then [] else mode_changes state (new_mode job state.jobs)) by
        ∙ thrown row n worker worker.handlers.throws is of)

    registered : (row : JobRow) → job_row state job ≡ Some row → (r : Option ℕ) → row.registration ≡ r
        → HasChanges (option_and_then (λ n. option_map (evaluated_worker state row.job n) (job_worker state row)) r) (evaluation_changes state job)
    registered row is None of = tt
    registered row is (Some n) of = made row n is of (job_worker state row) refl

    evaluating : (row : JobRow) → job_row state job ≡ Some row → (b : Bool)
        → HasChanges (option_and_then (λ (r : JobRow). option_and_then (λ n. option_map (evaluated_worker state r.job n) (job_worker state r)) r.registration) (if b then Some row else None)) (evaluation_changes state job)
    evaluating row is false = tt
    evaluating row is true = registered row is row.registration refl

    by : (o : Option JobRow) → job_row state job ≡ o
        → HasChanges (option_and_then (λ (r : JobRow). option_and_then (λ n. option_map (evaluated_worker state r.job n) (job_worker state r)) r.registration) (option_and_then (λ (r : JobRow). if is_in_phase is_evaluating r then Some r else None) o)) (evaluation_changes state job)
    by None is = tt
    by (Some row) is = evaluating row is (is_in_phase is_evaluating row)

-- the worker of a job, as a row of the state
pub made_shown : (scopes : Scopes) (of_workers : workers.Table) (of : registrations.Table) (of_clients : clients.Table) (jobs : List JobRow) (rest : Rest) (job : ℕ)
    → worker_of_job (lent scopes of_workers of of_clients (with_jobs jobs rest)) job
    ≡ option_map shown_worker (option_and_then (λ n. worker_at n of_workers.rows) (option_and_then (λ (row : JobRow). row.worker) (find (is_job job) jobs)))
made_shown scopes of_workers of of_clients jobs rest job = by (find (is_job job) jobs)
  where
    state : State
    state = lent scopes of_workers of of_clients (with_jobs jobs rest)

    numbered : (w : Option ℕ) → option_and_then (worker_row state) w ≡ option_map shown_worker (option_and_then (λ n. worker_at n of_workers.rows) w)
    numbered None = refl
    numbered (Some n) = worker_shown n of_workers.rows

    by : (o : Option JobRow) → option_and_then (job_worker state) o ≡ option_map shown_worker (option_and_then (λ n. worker_at n of_workers.rows) (option_and_then (λ (row : JobRow). row.worker) o))
    by None = refl
    by (Some row) = numbered row.worker

pub throws_shown : (o : Option WorkerRow) → option_map_or (λ (row : WorkerRow). row.handlers.throws) o false ≡ option_map_or (λ (worker : Worker). worker.handlers.throws) (option_map shown_worker o) false
throws_shown None = refl
throws_shown (Some row) = refl
