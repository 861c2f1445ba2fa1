-- Ready tasks: the first one, and that no lane makes their events.
use Rattle.std.proofs.Common.{◌≡◌, ◌∙◌, ℕ, Bool, true, false, not, ◌||◌, List, [], ◌∷◌, slice_get, Option, Some, None, option_map, option_and_then, refl, sym, ap, subst, arith}
use Rattle.std.specs.List.{find, list_any}
use Rattle.std.proofs.lemmas.Bool.Decides.{nat_tests}
use Rattle.sw_data.specs.declared.events.Event.{Event}
use Rattle.sw_data.specs.declared.events.Event.TheVariants as event
use Rattle.sw_data.specs.declared.events.Who.TheVariants as who
use Rattle.sw_data.specs.declared.histories.Task.{Task}
use Rattle.sw_data.specs.declared.histories.Task.TheVariants as task
use Rattle.sw_data.specs.declared.recordings.Call.{Call}
use Rattle.sw_data.specs.declared.recordings.Recording.{Recording}
use Rattle.sw_data.specs.declared.rows.JobRow.{JobRow}
use Rattle.sw_data.specs.Events.{is_lane, who_of}
use Rattle.sw_lane.specs.Picked.{is_task, task_left}
use Rattle.sw_rules.specs.Rows.{free_handler, job_row, task_row}
use Rattle.sw_rules.specs.State.{State, AddAll, Handler}
use Rattle.sw_rules.specs.Tasks.{add_all_lines, call_or, event_of, handler_event, job_line, next_call, ready_tasks}

-- ---- the first ready task

first_found : (all : List Task) → find (λ ready. not (list_any (is_task ready) [])) all ≡ slice_get all 0
first_found [] = refl
first_found (ready ∷ rest) = refl

-- with nothing in flight the first ready task is the first
pub first_ready : (state : State) (ready : Task) → task_left state [] ≡ Some ready → slice_get (ready_tasks state) 0 ≡ Some ready
first_ready state ready is = sym (first_found (ready_tasks state)) ∙ is

none_found : (all : List Task) → slice_get all 0 ≡ None → all ≡ []
none_found [] is = refl
none_found (ready ∷ rest) is = absurd cc

pub none_ready : (state : State) → task_left state [] ≡ None → ready_tasks state ≡ []
none_ready state is = none_found (ready_tasks state) (sym (first_found (ready_tasks state)) ∙ is)

one_task : (ready : Task) → is_task ready ready ≡ true
one_task (task.Run job) = grind (arith, nat_tests)
one_task (task.Fetch job) = grind (arith, nat_tests)
one_task (task.FetchAll number) = grind (arith, nat_tests)
one_task (task.Evaluate job) = grind (arith, nat_tests)
one_task (task.Install job) = grind (arith, nat_tests)
one_task (task.TryActivate registration) = grind (arith, nat_tests)
one_task (task.Activate worker) = grind (arith, nat_tests)

first_any : (all : List Task) (ready : Task) → slice_get all 0 ≡ Some ready → list_any (is_task ready) all ≡ true
first_any [] ready is = absurd cc
first_any (first ∷ rest) ready is =
    let same : first ≡ ready = cc in
    ap (λ (b : Bool). b || list_any (is_task ready) rest) (subst (λ (one : Task). is_task ready one ≡ true) (sym same) (one_task ready))

-- the first one is ready
pub is_ready : (state : State) (ready : Task) → task_left state [] ≡ Some ready → list_any (is_task ready) (ready_tasks state) ≡ true
is_ready state ready is = first_any (ready_tasks state) ready (first_ready state ready is)

-- ---- makers

abbrev IsFree : Event → Type 0
IsFree happened = is_lane (who_of happened) ≡ false

given : (made happened : Event) → Some made ≡ Some happened → IsFree made → IsFree happened
given made happened is free = let same : made ≡ happened = cc in subst IsFree same free

module _ (recording : Recording) (state : State) where
  handled : (end happened : Event) (worker : ℕ) (row : Option Handler) → IsFree end → option_map (call_or state end worker) row ≡ Some happened → IsFree happened
  unfolding who_of
  handled end happened worker None free is = absurd cc
  handled end happened worker (Some row) free is = given (call_or state end worker row) happened is (by (next_call state worker row))
    where
      by : (next : Option Call) → IsFree (elim next [ Some called ↦ event.Call (who.Handler worker row.phase row.made) called | None ↦ end ])
      by None = free
      by (Some called) = refl

  fetched_free : (job : ℕ) (happened : Event) (row : Option JobRow) → option_map (λ of_job. event.Fetched who.Host job (job_line recording of_job)) row ≡ Some happened → IsFree happened
  unfolding who_of
  fetched_free job happened None is = absurd cc
  fetched_free job happened (Some row) is = given (event.Fetched who.Host job (job_line recording row)) happened is refl

  added_free : (number : ℕ) (happened : Event) (row : Option AddAll) → option_map (λ of. event.Added who.Host number (add_all_lines recording of)) row ≡ Some happened → IsFree happened
  unfolding who_of
  added_free number happened None is = absurd cc
  added_free number happened (Some row) is = given (event.Added who.Host number (add_all_lines recording row)) happened is refl

  installed_free : (job : ℕ) (happened : Event) (made : Option ℕ) → option_and_then (handler_event state (event.Installed who.Host job)) made ≡ Some happened → IsFree happened
  unfolding who_of
  installed_free job happened None is = absurd cc
  installed_free job happened (Some worker) is = handled (event.Installed who.Host job) happened worker (free_handler state worker) refl is

  -- no lane makes the event of a task
  pub task_free : (ready : Task) (happened : Event) → event_of recording state ready ≡ Some happened → is_lane (who_of happened) ≡ false
  unfolding who_of
  task_free (task.Run job) happened is = given (event.Run who.Host job) happened is refl
  task_free (task.Fetch job) happened is = fetched_free job happened (job_row state job) is
  task_free (task.FetchAll number) happened is = added_free number happened (task_row state number) is
  task_free (task.Evaluate job) happened is = given (event.Evaluated who.Host job) happened is refl
  task_free (task.Install job) happened is = installed_free job happened (option_and_then (λ (row : JobRow). row.worker) (job_row state job)) is
  task_free (task.TryActivate registration) happened is = given (event.TryActivate who.Host registration) happened is refl
  task_free (task.Activate worker) happened is = handled (event.Activated who.Host worker) happened worker (free_handler state worker) refl is
