-- The ready tasks of a host: the first of each kind is the first row that passes.
use Rattle.std.proofs.Common.{◌≡◌, ◌∙◌, ℕ, Bool, List, map, filter, Option, Some, None, option_map, slice_get, refl, ap}
use Rattle.std.specs.Prelude.{find}
use Rattle.std.proofs.lemmas.Option.{slice_get-map}
use Rattle.sw_data.specs.declared.histories.Task.{Task}
use Rattle.sw_data.specs.declared.histories.Task.TheVariants as task
use Rattle.sw_data.specs.declared.rows.JobRow.{JobRow}
use Rattle.sw_data.specs.declared.rows.RegistrationRow.{RegistrationRow}
use Rattle.sw_data.specs.declared.rows.WorkerRow.{WorkerRow}
use Rattle.sw_ledgers.specs.declared.tasks.TaskRow.{TaskRow}
use Rattle.sw_ledgers.specs.Tasks.{row_of}
use Rattle.sw_queue.proofs.Places.{find-filter}
use Rattle.sw_rules.specs.Registering.{may_run}
use Rattle.sw_rules.specs.Rows.{is_in_phase, is_evaluating}
use Rattle.sw_rules.specs.State.{AddAll, Registration, Worker}
use Rattle.sw_rules.specs.Tasks.{activates, evaluations, installs, may_activate, may_install, runs, try_activates}
use Rattle.sw_tables.proofs.Rows.{find_map}
use Rattle.sw_tables.specs.Lent.{shown_registration, shown_worker}
use Rattle.sw_state.specs.Hosted.{Hosted, rest_of, state_of}

-- ---- the first of each kind

pub twice : {X Y Z : Type 0} (f : Y → Z) (g : X → Y) (o : Option X) → option_map f (option_map g o) ≡ option_map (λ x. f (g x)) o
twice f g None = refl
twice f g (Some x) = refl

first_of : {X Y : Type 0} (f : X → Y) (test : X → Bool) (xs : List X) → slice_get (map f (filter test xs)) 0 ≡ option_map f (find test xs)
first_of f test xs = slice_get-map f (filter test xs) 0 ∙ ap (option_map f) (find-filter test xs)

abbrev number : JobRow → ℕ
number row = row.job.number

first_job : (f : ℕ → Task) (test : JobRow → Bool) (rows : List JobRow)
    → slice_get (map f (map number (filter test rows))) 0 ≡ option_map (λ (row : JobRow). f row.job.number) (find test rows)
first_job f test rows =
    slice_get-map f (map number (filter test rows)) 0
    ∙ (ap (option_map f) (first_of number test rows) ∙ twice f number (find test rows))

-- the first that passes of rows that are shown
first_shown : {X Y : Type 0} (f : Y → Task) (test : Y → Bool) (show : X → Y) (xs : List X)
    → slice_get (map f (filter test (map show xs))) 0 ≡ option_map (λ x. f (show x)) (find (λ x. test (show x)) xs)
first_shown f test show xs =
    first_of f test (map show xs)
    ∙ (ap (option_map f) (find_map test show xs) ∙ twice f show (find (λ x. test (show x)) xs))

pub first_run : (host : Hosted) → slice_get (runs (state_of host)) 0
    ≡ option_map (λ (row : JobRow). task.Run row.job.number) (find (λ row. may_run (state_of host) row) host.queues.rows)
first_run host = first_job task.Run (may_run (state_of host)) host.queues.rows

pub first_evaluate : (host : Hosted) → slice_get (evaluations (state_of host)) 0
    ≡ option_map (λ (row : JobRow). task.Evaluate row.job.number) (find (is_in_phase is_evaluating) host.queues.rows)
first_evaluate host = first_job task.Evaluate (is_in_phase is_evaluating) host.queues.rows

pub first_install : (host : Hosted) → slice_get (installs (state_of host)) 0
    ≡ option_map (λ (row : JobRow). task.Install row.job.number) (find (λ row. may_install (state_of host) row) host.queues.rows)
first_install host = first_job task.Install (may_install (state_of host)) host.queues.rows

pub first_try_activate : (host : Hosted) → slice_get (try_activates (state_of host)) 0
    ≡ option_map (λ (row : RegistrationRow). task.TryActivate row.number) (find (λ (row : RegistrationRow). row.owed) host.registrations.rows)
first_try_activate host =
    first_shown (λ (row : Registration). task.TryActivate row.number) (λ (row : Registration). row.owed)
    (shown_registration host.scopes (rest_of host)) host.registrations.rows

pub first_activate : (host : Hosted) → slice_get (activates (state_of host)) 0
    ≡ option_map (λ (row : WorkerRow). task.Activate row.number) (find (λ (row : WorkerRow). may_activate (state_of host) (shown_worker row)) host.workers.rows)
first_activate host =
    first_shown (λ (row : Worker). task.Activate row.number) (may_activate (state_of host)) shown_worker host.workers.rows

-- ---- addAlls, by the rows of their table

pub number_behind : (rows : List TaskRow) (place : ℕ) → option_map (λ (row : AddAll). row.number) (slice_get (map row_of rows) place)
    ≡ option_map (λ (row : TaskRow). row.number) (slice_get rows place)
number_behind rows place =
    ap (option_map (λ (row : AddAll). row.number)) (slice_get-map row_of rows place)
    ∙ twice (λ (row : AddAll). row.number) row_of (slice_get rows place)
