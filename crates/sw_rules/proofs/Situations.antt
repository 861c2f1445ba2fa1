-- Situations made by hand, and the steps that follow, computed.
use Rattle.std.specs.Prelude.{◌≡◌, ℕ, true, false, List, [], ◌∷◌, codes, Option, Some, None, refl}
use Rattle.sw_data.specs.declared.answers.Answer.{Answer}
use Rattle.sw_data.specs.declared.answers.Answer.TheVariants as answer
use Rattle.sw_data.specs.declared.answers.Notice.{Notice}
use Rattle.sw_data.specs.declared.answers.Notice.TheVariants as notice
use Rattle.sw_data.specs.declared.answers.Settlement.{Settlement}
use Rattle.sw_data.specs.declared.answers.Settlement.TheVariants as settlement
use Rattle.sw_data.specs.declared.events.Event.{Event}
use Rattle.sw_data.specs.declared.events.Event.TheVariants as event
use Rattle.sw_data.specs.declared.events.Who.TheVariants as who
use Rattle.sw_data.specs.declared.rows.ClientRow.{ClientRow}
use Rattle.sw_data.specs.declared.rows.Job.{Job}
use Rattle.sw_data.specs.declared.rows.JobKind.{JobKind}
use Rattle.sw_data.specs.declared.rows.JobKind.TheVariants as job_kind
use Rattle.sw_data.specs.declared.rows.JobPhase.TheVariants as job_phase
use Rattle.sw_data.specs.declared.rows.JobRow.{JobRow}
use Rattle.sw_data.specs.declared.storage.Change.{Change}
use Rattle.sw_data.specs.declared.storage.Change.TheVariants as change
use Rattle.sw_data.specs.declared.workers.Kind.TheVariants.{Classic}
use Rattle.sw_data.specs.declared.workers.Mode.TheVariants.{Imports}
use Rattle.sw_data.specs.declared.workers.Phase.{Phase}
use Rattle.sw_data.specs.declared.workers.Phase.TheVariants as phase
use Rattle.sw_data.specs.declared.workers.Slot.TheVariants as slot
use Rattle.sw_data.specs.declared.workers.WorkerState.{WorkerState}
use Rattle.sw_data.specs.declared.workers.WorkerState.TheVariants as worker_state
use Rattle.sw_rules.proofs.OnLiterals.{steps_on_literals}
use Rattle.sw_rules.specs.State.{State, Registration, Worker, Handler, initial, of_job}
use Rattle.sw_rules.specs.Step.{step}
use Rattle.sw_rules.specs.Told.{Outcome}

-- ---- rows

abbrev origin : List ℕ
origin = codes "https://a.test"

abbrev root : List ℕ
root = codes "https://a.test/"

abbrev page : List ℕ
page = codes "https://a.test/page"

abbrev script : List ℕ
script = codes "https://a.test/sw.js"

-- a mapped registration that has had a waiting worker
abbrev registration : ℕ → List ℕ → Registration
registration number scope = record {
  number = number;
  key = origin;
  scope = scope;
  mode = Imports;
  mapped = true;
  first = Some number;
  owed = false;
  preload = false;
  preload_value = codes "true";
}

-- a worker whose handlers make no call, and none of which runs
abbrev worker : ℕ → ℕ → WorkerState → Worker
worker number of state = record {
  number = number;
  registration = of;
  script = script;
  kind = Classic;
  body = codes "// v1";
  state = state;
  skip_waiting = false;
  fetch = Some 0;
  handlers = record { throws = false; install = []; install_fails = false; activate = [] };
  handler = None;
}

-- a handler that has made no call
abbrev started : Phase → Handler
started in_phase = record { phase = in_phase; made = 0; faulted = false }

abbrev client : ℕ → List ℕ → Option ℕ → ClientRow
client number url controller =
    record { number = number; url = url; key = origin; secure = true; controller = controller }

abbrev job : ℕ → JobKind → List ℕ → Job
job number what text = record {
  number = number;
  what = what;
  key = origin;
  scope = root;
  script = text;
  kind = Classic;
  mode = Imports;
  has_client = true;
  referrer = page;
}

-- a job that was just scheduled
abbrev scheduled : Job → JobRow
scheduled of = record {
  job = of;
  leader = None;
  phase = job_phase.Waiting;
  settled = None;
  registration = None;
  fetch = None;
  remembered = None;
  worker = None;
}

abbrev outcome : Answer → State → List Notice → List Change → Option Outcome
outcome reply state notices changes =
    Some (record { answer = reply; told = record { state = state; notices = notices; changes = changes } })

-- ---- Try Activate

-- a client uses the active worker, and the waiting one skips waiting
abbrev skipping : State
skipping = record initial {
  registrations = record (registration 0 root) { owed = true } ∷ [];
  workers = worker 0 0 worker_state.Activated ∷ record (worker 1 0 worker_state.Installed) { skip_waiting = true } ∷ [];
  clients = client 2 page (Some 0) ∷ [];
}

clients_follow :
    step skipping (event.TryActivate who.Host 0)
    ≡ outcome (answer.Worker 1)
    (record skipping {
      registrations = registration 0 root ∷ [];
      workers =
          worker 0 0 worker_state.Redundant
          ∷ record (worker 1 0 worker_state.Activating) { skip_waiting = true; handler = Some (started phase.Activate) } ∷ [];
      clients = client 2 page (Some 1) ∷ [];
    })
    (notice.Worker 0 worker_state.Redundant ∷ notice.Worker 1 worker_state.Activating ∷ notice.ControllerChange 2 ∷ [])
    (change.Active origin root ∷ [])
unfolding steps_on_literals
clients_follow = refl

-- the active worker has a fetch event too
abbrev busy : State
busy = record skipping { fetch_events = record { number = 5; worker = 0 } ∷ [] }

event_holds :
    step busy (event.TryActivate who.Host 0)
    ≡ outcome answer.None (record busy { registrations = registration 0 root ∷ [] }) [] []
unfolding steps_on_literals
event_holds = refl

-- ---- the install of a worker

-- a first worker is evaluated
abbrev evaluating : JobRow
evaluating = record (scheduled (job 0 job_kind.Register script)) {
  phase = job_phase.Evaluating;
  registration = Some 0;
  fetch = Some 0;
  worker = Some 0;
}

abbrev parsed : State
parsed = record initial {
  registrations = record (registration 0 root) { first = None } ∷ [];
  workers = worker 0 0 worker_state.Parsed ∷ [];
  jobs = evaluating ∷ [];
}

nothing_kept_yet :
    step parsed (event.Evaluated who.Host 0)
    ≡ outcome answer.Installing
    (record parsed {
      workers = record (worker 0 0 worker_state.Installing) { handler = Some (started phase.Install) } ∷ [];
      jobs = record evaluating { phase = job_phase.Installing; settled = Some (settlement.Registration 0) } ∷ [];
    })
    (notice.Worker 0 worker_state.Installing ∷ notice.Settled 0 (settlement.Registration 0) ∷ notice.UpdateFound 0 ∷ [])
    []
unfolding steps_on_literals
nothing_kept_yet = refl

-- a second worker installs while another waits
abbrev installing : Option Settlement → JobRow
installing settled = record (scheduled (job 0 job_kind.Register script)) {
  phase = job_phase.Installing;
  settled = settled;
  registration = Some 0;
  fetch = Some 0;
  remembered = Some 0;
  worker = Some 1;
}

abbrev two : State
two = record initial {
  registrations = registration 0 root ∷ [];
  workers =
      worker 0 0 worker_state.Installed
      ∷ record (worker 1 0 worker_state.Installing) { handler = Some (started phase.Install) } ∷ [];
  jobs = installing (Some (settlement.Registration 0)) ∷ [];
}

older_goes :
    step two (event.Installed who.Host 0)
    ≡ outcome answer.Ok
    (record two {
      registrations = record (registration 0 root) { owed = true } ∷ [];
      workers = worker 0 0 worker_state.Redundant ∷ worker 1 0 worker_state.Installed ∷ [];
      jobs = record (installing (Some (settlement.Registration 0))) { phase = job_phase.Done } ∷ [];
    })
    (notice.Worker 0 worker_state.Redundant ∷ notice.Worker 1 worker_state.Installed ∷ [])
    (change.Waiting origin root Imports (record { script = script; kind = Classic; body = codes "// v1" }) ∷ [])
unfolding steps_on_literals
older_goes = refl

-- ---- claim

abbrev inner_page : List ℕ
inner_page = codes "https://a.test/in/page"

-- the scope of one registration lies in that of another
abbrev nested : State
nested = record initial {
  registrations = registration 0 root ∷ registration 1 (codes "https://a.test/in/") ∷ [];
  workers = worker 0 0 worker_state.Activated ∷ worker 1 1 worker_state.Activated ∷ [];
  clients = client 0 inner_page (Some 1) ∷ client 1 page None ∷ [];
}

inner_client_stays :
    step nested (event.Claim (who.Lane 0 0) (record { client = 1; scope = codes "/" }) slot.Active)
    ≡ outcome answer.Ok
    (record nested { clients = client 0 inner_page (Some 1) ∷ client 1 page (Some 0) ∷ [] })
    (notice.ControllerChange 1 ∷ [])
    []
unfolding steps_on_literals
inner_client_stays = refl

-- ---- jobs

-- an earlier job whose promise has this value installs
abbrev earlier : Option Settlement → State
earlier settled = record initial { clients = client 0 page None ∷ []; jobs = installing settled ∷ [] }

-- an equal job is made
abbrev asked : Event
asked =
    event.Register (who.Lane 0 7)
    (record { client = 0; script = codes "/sw.js"; scope = None; kind = Classic; mode = Imports })

-- it is there, and has joined this one
abbrev later : Option Settlement → Option ℕ → State
later settled leader = record (earlier settled) {
  jobs = installing settled ∷ record (scheduled (job 1 job_kind.Register script)) { leader = leader } ∷ [];
  promises = record { lane = 0; at = 7; awaited = of_job 1 } ∷ [];
}

job_joins : step (earlier None) asked ≡ outcome (answer.Joined 1 0) (later None (Some 0)) [] []
unfolding steps_on_literals
job_joins = refl

job_stands_alone :
    step (earlier (Some (settlement.Registration 0))) asked
    ≡ outcome (answer.Job 1) (later (Some (settlement.Registration 0)) None) [] []
unfolding steps_on_literals
job_stands_alone = refl

-- a registration that a client uses is to be unregistered
abbrev used : State
used = record initial {
  registrations = registration 0 root ∷ [];
  workers = worker 0 0 worker_state.Activated ∷ [];
  clients = client 0 page (Some 0) ∷ [];
  jobs = scheduled (job 0 job_kind.Unregister []) ∷ [];
}

used_worker_stays :
    step used (event.Run who.Host 0)
    ≡ outcome answer.Finished
    (record used {
      registrations = record (registration 0 root) { mapped = false } ∷ [];
      jobs =
          record (scheduled (job 0 job_kind.Unregister [])) {
            phase = job_phase.Done;
            settled = Some (settlement.Truth true);
          }
          ∷ [];
    })
    (notice.Unmapped 0 ∷ notice.Settled 0 (settlement.Truth true) ∷ [])
    (change.Gone origin root ∷ [])
unfolding steps_on_literals
used_worker_stays = refl
