-- What a plan does to the state of a host, and what it needs of the host's tables.
use Rattle.std.specs.Prelude.{◌≡◌, ◌<◌, ◌+◌, ◌*◌, ℕ, Bool, true, false, nat_lt, List, [], ◌∷◌, ◌++◌, codes, find, length, is_none, Option, Some, None, IfSome}
use Rattle.std.specs.Option.{option_map_or}
use Rattle.sw_cachestorage.specs.Acts.{FitsAct, acted}
use Rattle.sw_cachestorage.specs.Added.{IsAdded}
use Rattle.sw_cachestorage.specs.Adding.{FitsNew, added_by}
use Rattle.sw_cachestorage.specs.declared.act.CacheAct.{CacheAct}
use Rattle.sw_cachestorage.specs.declared.adding.NewAddAll.{NewAddAll}
use Rattle.sw_cachestorage.specs.declared.ended.AddedStep.{AddedStep}
use Rattle.sw_cachestorage.specs.Forgetting.{has_pending_of, mapped_of}
use Rattle.sw_client.specs.Table.{users_of}
use Rattle.sw_data.specs.declared.answers.Answer.{Answer}
use Rattle.sw_data.specs.declared.answers.Fault.{Fault}
use Rattle.sw_data.specs.declared.recordings.FetchLine.{FetchLine}
use Rattle.sw_data.specs.declared.rows.JobKind.TheVariants as job_kind
use Rattle.sw_data.specs.declared.rows.JobRow.{JobRow}
use Rattle.sw_data.specs.declared.storage.Change.{Change}
use Rattle.sw_data.specs.Addresses.{without_fragment}
use Rattle.sw_activate.specs.Answers.{unregister_refusal}
use Rattle.sw_install.specs.Fetches.{ComesTo, HasNewWorker}
use Rattle.sw_install.specs.Runs.{HasWhatItMaps, IsNextDraw, IsOfKind, IsRefusal, script_of}
use Rattle.sw_install.specs.declared.calls.FetchOutcome.{FetchOutcome}
use Rattle.sw_install.specs.declared.calls.FetchOutcome.TheVariants as outcome
use Rattle.sw_install.specs.declared.calls.Rows.{Rows}
use Rattle.sw_ledgers.specs.Drawn.{FitsDraw}
use Rattle.sw_ledgers.specs.Preloaded.{PreloadRow}
use Rattle.sw_ledgers.specs.Tasks.{has_task}
use Rattle.sw_pages.specs.Acts.{told_by}
use Rattle.sw_pages.specs.Fits.{FitsPage}
use Rattle.sw_pages.specs.declared.worked.PageAct.{PageAct}
use Rattle.sw_pages.specs.declared.worked.PageAct.TheVariants as page
use Rattle.sw_queue.specs.Kept.{followers_of}
use Rattle.sw_rules.specs.Activating as activating
use Rattle.sw_rules.specs.Calls.{note_call}
use Rattle.sw_rules.specs.Forgetting.{forget_key}
use Rattle.sw_rules.specs.Installing as installing
use Rattle.sw_rules.specs.Installing.{calls_of}
use Rattle.sw_rules.specs.Noticing.{Did, NoticeList}
use Rattle.sw_rules.specs.Preloading.{set_preload}
use Rattle.sw_rules.specs.Registering as registering
use Rattle.sw_rules.specs.Rows.{is_job, is_promise, maker_worker, without, worker_row}
use Rattle.sw_rules.specs.State.{State, Promise}
use Rattle.sw_rules.specs.Told.{Told, Outcome, followed, quiet}
use Rattle.sw_state.specs.Hosted.{Hosted, state_of}
use Rattle.sw_work.specs.declared.plan.Act.{Act}
use Rattle.sw_work.specs.declared.plan.Act.TheVariants as act
use Rattle.sw_work.specs.declared.plan.Asked.{Asked}
use Rattle.sw_work.specs.declared.plan.NewFetch.{NewFetch}
use Rattle.sw_work.specs.declared.plan.Then.{Then}
use Rattle.sw_work.specs.declared.plan.Then.TheVariants as then
use Rattle.sw_work.specs.declared.plan.Work.{Work}
use Rattle.sw_work.specs.declared.plan.Work.TheVariants as work
use Rattle.sw_worker.specs.Table.{worker_at}

-- ---- what an action or a call does

-- own: an act on caches, which has these durable changes and tells nothing else
abbrev pub told_by_caches : CacheAct → List Change → State → Told
told_by_caches act changes state = record {
  state = record state { caches = acted act state.caches };
  notices = [];
  changes = changes;
}

-- own: what an act tells, and the state that it leaves
abbrev pub told_by_act : Act → State → Told
told_by_act (act.Page act) state = told_by act state
told_by_act (act.Preload row) state = set_preload state row.registration row.on row.value
told_by_act (act.Caches act changes) state = told_by_caches act changes state
told_by_act (act.Forget key) state = forget_key state key

-- own: a promise in the place of an earlier one of its lane and position
abbrev pub with_promise : Promise → State → State
with_promise row state =
    record state { promises = without (is_promise row.lane row.at) state.promises ++ row ∷ [] }

-- own: what follows
abbrev pub told_then : Then → Told → Told
told_then then.Nothing told = told
told_then (then.Promise row) told = followed told (λ after. quiet (with_promise row after))
told_then (then.Called worker fault) told = followed told (λ after. note_call after worker fault)

-- own: an action or a call that was worked out comes to this in a state
abbrev pub outcome_of : Asked → State → Outcome
outcome_of asked state = record {
  answer = asked.answer;
  told = told_then asked.then (told_by_act asked.act state);
}

-- own: an addAll that was worked out comes to this in a state
abbrev pub started_outcome : Answer → NewAddAll → Then → State → Outcome
started_outcome reply new then state = record { answer = reply; told = told_then then (added_by new state) }

-- own: both answer the same, tell the same, and leave the same state
pub record Agree (one other : Outcome) : Type 0 where
  pub answer : one.answer ≡ other.answer
  pub state : one.told.state ≡ other.told.state
  pub notices : one.told.notices ≡ other.told.notices

-- own: an outcome in a state is that of an action or a call that was worked out
pub record IsAsked (outcome : Outcome) (asked : Asked) (state : State) : Type 0 where
  pub same : Agree outcome (outcome_of asked state)
  pub changes : outcome.told.changes ≡ (outcome_of asked state).told.changes

-- own: an outcome in a state is that of an addAll that goes on to its fetches, which has no durable changes
pub record IsStarted (outcome : Outcome) (reply : Answer) (new : NewAddAll) (then : Then) (state : State) : Type 0 where
  pub same : Agree outcome (started_outcome reply new then state)
  pub changes : outcome.told.changes ≡ []

-- ---- what a work comes to

-- own: a work, done on a host, comes to this outcome
abbrev pub Means : Work → Hosted → Outcome → Type 0
Means (work.Asked asked) host outcome = IsAsked outcome asked (state_of host)
Means (work.Start answer new then) host outcome = IsStarted outcome answer new then (state_of host)
Means (work.Register job refusal fetch preload rows) host outcome = registering.run (state_of host) job ≡ Some outcome
Means (work.Update job fetch) host outcome = registering.run (state_of host) job ≡ Some outcome
Means (work.Unregister job refusal) host outcome = registering.run (state_of host) job ≡ Some outcome
Means (work.Fetched job given rows) host outcome =
    (line : Option FetchLine)
    × (installing.fetched (state_of host) job line ≡ Some outcome)
    × ComesTo given rows.worker (state_of host) job line
Means (work.Added task step) host outcome = IsAdded outcome (state_of host) task step
Means (work.Evaluated job) host outcome = installing.evaluated (state_of host) job ≡ Some outcome
Means (work.Installed job) host outcome = installing.installed (state_of host) job ≡ Some outcome
Means (work.TryActivate registration) host outcome = activating.tryactivate (state_of host) registration ≡ Some outcome
Means (work.Activated worker) host outcome = activating.activated (state_of host) worker ≡ Some outcome

-- own: an answer was given, and what was told stands behind the notices before
pub record Goes (outcome : Outcome) (reply : Option Answer) (before after : NoticeList) (new : State) : Type 0 where
  pub answer : reply ≡ Some outcome.answer
  pub did : Did outcome.told before after new

-- ---- what a work needs

-- the handler of a worker has calls left
abbrev pub has_calls_left : ℕ → State → Bool
has_calls_left worker state =
    option_map_or
    (λ row. option_map_or (λ handler. nat_lt handler.made (length (calls_of row handler.phase))) row.handler false)
    (worker_row state worker) false

-- own: how many notices an act of a page may tell
abbrev pub page_room : PageAct → Hosted → ℕ
page_room (page.Close client) host = 5
page_room (page.SkipWaiting registration worker) host = 2 + users_of registration host.clients.rows
page_room (page.Claim registration worker) host = 6 * length host.clients.rows
page_room (page.End event registration) host = 5 + users_of registration host.clients.rows
page_room _ host = 0

-- own: how many notices an act may tell
abbrev pub act_room : Act → Hosted → ℕ
act_room (act.Page act) host = page_room act host
act_room (act.Forget key) host = 4 * length (mapped_of key (state_of host))
act_room _ host = 0

-- own: an act of a page may be done; its preload has an act of its own
abbrev pub FitsPageAct : PageAct → Hosted → Type 0
FitsPageAct (page.Preload registration on text) host = ⊥
FitsPageAct act host = FitsPage act host.workers host.registrations host.clients host.queues

-- own: an act may be done without memory
abbrev pub FitsTheAct : Act → Hosted → Type 0
FitsTheAct (act.Page act) host = FitsPageAct act host
FitsTheAct (act.Preload row) host = 0 < host.preloads.spare
FitsTheAct (act.Caches act changes) host = FitsAct act host.caches
FitsTheAct (act.Forget key) host = has_pending_of key (state_of host) ≡ false

-- own: the worker whose handler made a call
abbrev pub caller_of : Then → Option ℕ
caller_of (then.Called worker fault) = Some worker
caller_of _ = None

-- own: what follows may be done without memory, in a state
abbrev pub FitsThen : Then → State → Hosted → Type 0
FitsThen then.Nothing state host = Unit {0}
FitsThen (then.Promise row) state host = 0 < host.promises.spare
FitsThen (then.Called worker fault) state host = has_calls_left worker state ≡ true

-- own: an action or a call may be done without memory
pub record FitsAsked (asked : Asked) (host : Hosted) : Type 0 where
  pub act : FitsTheAct asked.act host
  pub then : FitsThen asked.then (told_by_act asked.act (state_of host)).state host

-- own: an addAll may go on to its fetches without memory: a lane made it, or the handler that made the call
pub record FitsStart (begun : NewAddAll) (next : Then) (host : Hosted) : Type 0 where
  pub new : FitsNew begun host
  pub then : FitsThen next (state_of host) host
  pub maker : maker_worker begun.row.maker ≡ caller_of next

-- own: a fetch of a job's script may be drawn, and this is its number
pub record FitsFetch (fetch : NewFetch) (job : ℕ) (host : Hosted) : Type 0 where
  pub number : IsNextDraw fetch.ordinal host.draws.rows job host.queues.rows
  pub address : without_fragment (script_of job host.queues.rows) ≡ fetch.draw
  pub room : FitsDraw fetch.draw host.draws

-- own: the navigation preload that a new registration has
abbrev pub first_preload : ℕ → PreloadRow
first_preload registration = record { registration = registration; on = false; value = codes "true" }

-- own: the next registration gets its first navigation preload without memory
pub record FitsPreload (row : PreloadRow) (host : Hosted) : Type 0 where
  pub first : row ≡ first_preload (length host.registrations.rows)
  pub room : 0 < host.preloads.spare

-- own: how many notices a job's event may tell
abbrev pub job_room : ℕ → Hosted → ℕ
job_room job host = length (followers_of job host.queues.rows) + 5

-- own: a register job may run without memory
pub record FitsRegister (job : ℕ) (why : Option Fault) (draw : NewFetch) (first : PreloadRow) (rows : Rows) (host : Hosted) : Type 0 where
  pub kind : IsOfKind job_kind.Register job host.queues.rows
  pub refusal : IsRefusal why job host.queues.rows
  pub new : HasWhatItMaps why rows.registration rows.scope job host.queues.rows host.scopes host.registrations host.clients
  pub fetch : FitsFetch draw job host
  pub preload : FitsPreload first host

-- own: an update job may run without memory
pub record FitsUpdate (job : ℕ) (draw : NewFetch) (host : Hosted) : Type 0 where
  pub kind : IsOfKind job_kind.Update job host.queues.rows
  pub fetch : FitsFetch draw job host

-- own: the job is one of unregistering, and this is its security fault
abbrev pub IsUnregister : ℕ → Option Fault → List JobRow → Type 0
IsUnregister job refusal jobs =
    IfSome (find (is_job job) jobs) (λ row. (row.job.what ≡ job_kind.Unregister) × (refusal ≡ unregister_refusal row.job))

-- own: the fetch of a job's script may end without memory
abbrev pub FitsFetched : FetchOutcome → Rows → Hosted → Type 0
FitsFetched given rows host = given ≡ outcome.Changed → HasNewWorker rows.worker host.workers host.registrations

-- own: the users of the registration of a worker
abbrev pub users_with : ℕ → Hosted → ℕ
users_with worker host =
    option_map_or (λ row. users_of row.registration host.clients.rows) (worker_at worker host.workers.rows) 0

-- own: an addAll that has not settled may settle, and its cache has room
pub record FitsAdded (task : ℕ) (ended : AddedStep) (host : Hosted) : Type 0 where
  pub act : FitsAct ended.act host.caches
  pub unsettled : has_task (λ row. is_none row.settled) task host.tasks.rows ≡ true

-- own: how many notices a work may tell
abbrev pub work_room : Work → Hosted → ℕ
work_room (work.Asked asked) host = act_room asked.act host
work_room (work.Start answer new then) host = 0
work_room (work.Register job refusal fetch preload rows) host = job_room job host
work_room (work.Update job fetch) host = job_room job host
work_room (work.Unregister job refusal) host = job_room job host
work_room (work.Fetched job given rows) host = job_room job host
work_room (work.Added task step) host = 0
work_room (work.Evaluated job) host = job_room job host
work_room (work.Installed job) host = job_room job host
work_room (work.TryActivate registration) host = 2 + users_of registration host.clients.rows
work_room (work.Activated worker) host = 6 + users_with worker host

-- own: a work may be done without memory but for its notices
abbrev pub FitsWork : Work → Hosted → Type 0
FitsWork (work.Asked asked) host = FitsAsked asked host
FitsWork (work.Start answer new then) host = FitsStart new then host
FitsWork (work.Register job refusal fetch preload rows) host = FitsRegister job refusal fetch preload rows host
FitsWork (work.Update job fetch) host = FitsUpdate job fetch host
FitsWork (work.Unregister job refusal) host = IsUnregister job refusal host.queues.rows
FitsWork (work.Fetched job given rows) host = FitsFetched given rows host
FitsWork (work.Added task step) host = FitsAdded task step host
FitsWork _ host = Unit {0}

-- own: a work was worked out for what an event comes to, where it is enabled; the host has only more room
pub record Works (old new : Hosted) (comes : Option Outcome) (work : Work) : Type 0 where
  pub means : IfSome comes (Means work old)
  pub fits : FitsWork work new
