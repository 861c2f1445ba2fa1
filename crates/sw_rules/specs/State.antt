-- The state of the host: lists of rows (Service Workers, section 2 "Model" and Appendix A; the cut into rows is own).
use Rattle.std.specs.Prelude.{ℕ, Bool, List, [], Option}
use Rattle.sw_data.specs.declared.workers.Mode.{Mode}
use Rattle.sw_data.specs.declared.workers.Kind.{Kind}
use Rattle.sw_data.specs.declared.workers.WorkerState.{WorkerState}
use Rattle.sw_data.specs.declared.workers.Phase.{Phase}
use Rattle.sw_data.specs.declared.events.Who.{Who}
use Rattle.sw_data.specs.declared.recordings.Handlers.{Handlers}
use Rattle.sw_data.specs.declared.rows.JobRow.{JobRow}
use Rattle.sw_data.specs.declared.rows.ClientRow.{ClientRow}
use Rattle.sw_data.specs.declared.answers.Settlement.{Settlement}
use Rattle.sw_data.specs.declared.exchange.Request.{Request}
use Rattle.sw_data.specs.declared.storage.KeptCache.{KeptCache}

-- a service worker registration (Service Workers, "service worker registration"); `first` and `owed`, that it is owed a Try Activate, are own
pub record Registration : Type 0 where
  pub number : ℕ
  pub key : List ℕ
  pub scope : List ℕ
  pub mode : Mode
  pub mapped : Bool
  pub first : Option ℕ
  pub owed : Bool
  pub preload : Bool
  pub preload_value : List ℕ

-- a handler that runs: how many calls it has made, and whether one of them was answered by a fault or an addAll of it settled with one
pub record Handler : Type 0 where
  pub phase : Phase
  pub made : ℕ
  pub faulted : Bool

-- a service worker (Service Workers, "service worker"), with what the recording says of its runs, and the handler of it that runs
pub record Worker : Type 0 where
  pub number : ℕ
  pub registration : ℕ
  pub script : List ℕ
  pub kind : Kind
  pub body : List ℕ
  pub state : WorkerState
  pub skip_waiting : Bool
  pub fetch : Option ℕ
  pub handlers : Handlers
  pub handler : Option Handler

-- what a promise waits for, or its value
pub data Awaited : Type 0 where
  value : Settlement → Awaited
  of_job : ℕ → Awaited
  of_task : ℕ → Awaited

-- the promise of a lane's action
pub record Promise : Type 0 where
  pub lane : ℕ
  pub at : ℕ
  pub awaited : Awaited

-- an addAll whose requests are drawn (Service Workers, Cache, "addAll()")
pub record AddAll : Type 0 where
  pub number : ℕ
  pub maker : Who
  pub key : List ℕ
  pub name : List ℕ
  pub requests : List Request
  pub fetches : List ℕ
  pub settled : Option Settlement

-- a fetch event that is pending
pub record FetchEvent : Type 0 where
  pub number : ℕ
  pub worker : ℕ

-- how many fetches of an address have been drawn
pub record Draws : Type 0 where
  pub address : List ℕ
  pub number : ℕ

-- the state; a cache is a row of a key, a name and a request response list, as it is kept (Service Workers, "name to cache map")
pub record State : Type 0 where
  pub registrations : List Registration
  pub workers : List Worker
  pub clients : List ClientRow
  pub jobs : List JobRow
  pub promises : List Promise
  pub tasks : List AddAll
  pub fetch_events : List FetchEvent
  pub caches : List KeptCache
  pub draws : List Draws

-- nothing has happened, and nothing is kept
abbrev pub initial : State
initial = record {
  registrations = [];
  workers = [];
  clients = [];
  jobs = [];
  promises = [];
  tasks = [];
  fetch_events = [];
  caches = [];
  draws = [];
}
