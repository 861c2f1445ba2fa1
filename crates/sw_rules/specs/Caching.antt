-- Caches: the actions of pages and handlers on them, and addAll with its fetches.
use Rattle.std.specs.Prelude.{ℕ, ◌+◌, Bool, true, false, not, ◌&&◌, ◌||◌, ◌==◌, List, [], ◌∷◌, ◌++◌, filter, filter_map, find, map, fold, length, bytes_eq, is_none, is_some, Option, Some, None, option_map, option_and_then, Result, Ok, Err, if◌then◌else◌}
use Rattle.std.specs.List.{enumerate_from, zip}
use Rattle.std.specs.Option.{option_map_or}
use Rattle.sw_data.specs.declared.answers.Answer.{Answer}
use Rattle.sw_data.specs.declared.answers.Answer.TheVariants as answer
use Rattle.sw_data.specs.declared.answers.Cause.{Cause}
use Rattle.sw_data.specs.declared.answers.Cause.TheVariants as cause
use Rattle.sw_data.specs.declared.answers.Fault.{Fault}
use Rattle.sw_data.specs.declared.answers.Fault.TheVariants as fault
use Rattle.sw_data.specs.declared.answers.SecurityCause.TheVariants as security
use Rattle.sw_data.specs.declared.answers.Settlement.{Settlement}
use Rattle.sw_data.specs.declared.answers.Settlement.TheVariants as settlement
use Rattle.sw_data.specs.declared.events.Who.{Who}
use Rattle.sw_data.specs.declared.exchange.Op.{Op}
use Rattle.sw_data.specs.declared.exchange.Op.TheVariants as op
use Rattle.sw_data.specs.declared.exchange.Options.{Options}
use Rattle.sw_data.specs.declared.exchange.Request.{Request}
use Rattle.sw_data.specs.declared.recordings.CacheAddAll.{CacheAddAll}
use Rattle.sw_data.specs.declared.recordings.CacheBatch.{CacheBatch}
use Rattle.sw_data.specs.declared.recordings.CacheDelete.{CacheDelete}
use Rattle.sw_data.specs.declared.recordings.CacheMatch.{CacheMatch}
use Rattle.sw_data.specs.declared.recordings.CachePut.{CachePut}
use Rattle.sw_data.specs.declared.recordings.CacheQuery.{CacheQuery}
use Rattle.sw_data.specs.declared.recordings.FetchLine.{FetchLine}
use Rattle.sw_data.specs.declared.recordings.Place.{Place}
use Rattle.sw_data.specs.declared.storage.Change.{Change}
use Rattle.sw_data.specs.declared.storage.Change.TheVariants as change
use Rattle.sw_data.specs.declared.storage.KeptCache.{KeptCache}
use Rattle.sw_data.specs.Addresses.{address_of, is_trustworthy, resolved}
use Rattle.sw_data.specs.Keys.{key_of}
use Rattle.sw_rules.specs.Batch.{BatchFault, TypeError, InvalidState, Quota, batch, go, has_http_scheme}
use Rattle.sw_rules.specs.Installing.{fetched_of, is_ok_status}
use Rattle.sw_rules.specs.Jobs.{next_draw, promise, with_draw}
use Rattle.sw_rules.specs.Matching.{Pair, first_match, is_get, query_of, varies_on_all}
use Rattle.sw_rules.specs.Registering.{rejected}
use Rattle.sw_rules.specs.Rows.{changed, is_number, is_task, maker_worker, task_row}
use Rattle.sw_rules.specs.State.{State, Worker, AddAll, Handler, Draws, of_task}
use Rattle.sw_rules.specs.Storage.{is_cache, with_cache}
use Rattle.sw_rules.specs.Told.{Told, Outcome, answered, followed, quiet, refused, type_error}

-- ---- the storage key of a page (Storage, "obtain a storage key"; Service Workers, "SecureContext")

-- the key of a page, or why it has none
abbrev pub place_key : Place → Result (List ℕ) Fault
place_key place =
    elim (key_of place.at place.partition) [
      | None ↦ Err (type_error (if is_some (address_of place.at) then cause.Scheme else cause.Unparsed))
      | Some key ↦ if is_trustworthy place.at then Ok key else Err (fault.SecurityError security.Untrusted)
    ]

-- what an action does with the key of its place
abbrev pub with_key : State → Place → (List ℕ → Outcome) → Outcome
with_key state place act = elim (place_key place) [ Ok key ↦ act key | Err why ↦ refused state why ]

-- ---- caches by key and name (Service Workers, "name to cache map")

-- the pairs of the cache of this name, none where the name is absent
abbrev pub pairs_of : List ℕ → List ℕ → List KeptCache → Option (List Pair)
pairs_of key name rows = option_map (λ row. row.pairs) (find (is_cache key name) rows)

abbrev pub with_pairs : List ℕ → List ℕ → List Pair → List KeptCache → List KeptCache
with_pairs key name pairs rows = with_cache key name (λ row. record row { pairs = pairs }) rows

-- the caches of a key, in order of creation
abbrev pub caches_of : List ℕ → List KeptCache → List KeptCache
caches_of key rows = filter (λ row. bytes_eq row.key key) rows

-- the caches of a key, or the one of them that has this name
abbrev pub asked_caches : List ℕ → Option (List ℕ) → List KeptCache → List KeptCache
asked_caches key name rows =
    filter (λ row. bytes_eq row.key key && option_map_or (bytes_eq row.name) name true) rows

-- what an action does with the pairs of the cache of this name
abbrev pub with_cache_pairs : State → List ℕ → List ℕ → (List Pair → Outcome) → Outcome
with_cache_pairs state key name act =
    elim (pairs_of key name state.caches) [ None ↦ refused state fault.CacheGone | Some pairs ↦ act pairs ]

-- what an action does with a parsed address, its text being parsed against a base
abbrev pub with_url : State → List ℕ → List ℕ → (List ℕ → Outcome) → Outcome
with_url state base text act =
    elim (resolved text base) [ None ↦ refused state (type_error cause.Unparsed) | Some url ↦ act url ]

-- ---- CacheStorage (Service Workers, "CacheStorage")

-- an empty cache is added last
unfoldable pub add_cache : State → List ℕ → List ℕ → Told
add_cache state key name = record {
  state = record state { caches = state.caches ++ record { key = key; name = name; pairs = [] } ∷ [] };
  notices = [];
  changes = change.CacheNew key name ∷ [];
}

-- a cache is opened, and made where it is absent ("open()")
abbrev pub open_cache : State → List ℕ → List ℕ → Outcome
open_cache state name key =
    if is_some (pairs_of key name state.caches) then answered state answer.Found
    else record { answer = answer.Made; told = add_cache state key name }

-- "has()"
abbrev pub has_cache : State → List ℕ → List ℕ → Outcome
has_cache state name key = answered state (answer.Truth (is_some (pairs_of key name state.caches)))

-- a cache is removed
unfoldable pub drop_cache : State → List ℕ → List ℕ → Told
drop_cache state key name = record {
  state = record state { caches = filter (λ row. not (is_cache key name row)) state.caches };
  notices = [];
  changes = change.CacheDrop key name ∷ [];
}

-- "delete()"
abbrev pub delete_cache : State → List ℕ → List ℕ → Outcome
delete_cache state name key =
    if is_some (pairs_of key name state.caches)
    then record { answer = answer.Truth true; told = drop_cache state key name }
    else answered state (answer.Truth false)

-- "keys()"
abbrev pub cache_names : State → List ℕ → Outcome
cache_names state key = answered state (answer.Names (map (λ row. row.name) (caches_of key state.caches)))

-- the first match in the first cache that has one
abbrev pub first_hit : Request → Options → List KeptCache → Answer
first_hit query options [] = answer.None
first_hit query options (cache ∷ rest) =
    elim (first_match cache.pairs query options) [
      | Some item ↦ answer.Hit cache.name item.0 item.1.1.status (length item.1.1.body)
      | None ↦ first_hit query options rest
    ]

-- "match()", the request's address being parsed against a base
abbrev pub match_request : State → List ℕ → CacheMatch → List ℕ → Outcome
match_request state base asked key =
    with_url state base asked.request.url (λ url.
    answered state
    (first_hit (record asked.request { url = url }) asked.options (asked_caches key asked.name state.caches)))

-- ---- Cache: look-ups (Service Workers, Cache, "matchAll()", "keys()")

-- the places of the pairs that a request matches, or all places where there is none
abbrev pub query_places : State → List ℕ → Option Request → Options → List Pair → Outcome
query_places state base None options pairs =
    answered state (answer.Places (map (λ item. item.0) (enumerate_from 0 pairs)))
query_places state base (Some request) options pairs =
    with_url state base request.url (λ url.
    answered state (answer.Places (query_of pairs (record request { url = url }) options)))

abbrev pub query_cache : State → List ℕ → CacheQuery → List ℕ → Outcome
query_cache state base asked key =
    with_cache_pairs state key asked.name (query_places state base asked.request asked.options)

-- ---- Cache: batches (Service Workers, Appendix A, "Batch Cache Operations")

-- a batch is kept where it has an operation
abbrev pub batch_changes : List ℕ → List ℕ → List Op → List Change
batch_changes key name [] = []
batch_changes key name (first ∷ rest) = change.CacheOps key name (first ∷ rest) ∷ []

-- the pairs of a cache become these by a batch
unfoldable pub carry_out : State → List ℕ → List ℕ → List Op → List Pair → Told
carry_out state key name ops pairs = record {
  state = record state { caches = with_pairs key name pairs state.caches };
  notices = [];
  changes = batch_changes key name ops;
}

-- a batch happens on the pairs of a cache: its answer, or the fault that it throws
abbrev pub run_batch : State → List ℕ → List ℕ → List Op → Answer → (BatchFault → Fault) → List Pair → Outcome
run_batch state key name ops done fault_of pairs =
    elim (batch pairs ops) [
      | Ok new ↦ record { answer = done; told = carry_out state key name ops new }
      | Err why ↦ refused state (fault_of why)
    ]

-- the fault of a batch, a TypeError of which has this index of its operation
abbrev pub fault_of : (ℕ → Option ℕ) → BatchFault → Fault
fault_of index (TypeError at why) = fault.TypeError why (index at)
fault_of index (InvalidState at) = fault.InvalidStateAt at
fault_of index (Quota size) = fault.Quota

-- the fault of a batch, with the index of its operation
abbrev pub batch_fault : BatchFault → Fault
batch_fault why = fault_of Some why

-- the fault of an operation alone, which has no index but that of a clash
abbrev pub single_fault : BatchFault → Fault
single_fault why = fault_of (λ at. None) why

-- "put()", the request's address being parsed against a base
abbrev pub put_response : State → List ℕ → CachePut → List ℕ → Outcome
put_response state base put key =
    with_cache_pairs state key put.name (λ pairs.
    with_url state base put.request.url (λ url.
    run_batch state key put.name (op.Put (record put.request { url = url }) put.response ∷ []) answer.Ok single_fault pairs))

-- "delete()": whether a pair was removed
abbrev pub delete_request : State → List ℕ → CacheDelete → List ℕ → Outcome
delete_request state base asked key =
    with_cache_pairs state key asked.name (λ pairs.
    with_url state base asked.request.url (λ url.
    let request = record asked.request { url = url } in
    run_batch state key asked.name (op.Delete request asked.options ∷ [])
    (answer.Truth (is_some (first_match pairs request asked.options))) single_fault pairs))

-- an operation with its address parsed against a base
abbrev pub parsed_op : List ℕ → Op → Option Op
parsed_op base (op.Delete request options) =
    option_map (λ url. op.Delete (record request { url = url }) options) (resolved request.url base)
parsed_op base (op.Put request response) =
    option_map (λ url. op.Put (record request { url = url }) response) (resolved request.url base)

-- the operations with their addresses parsed, or those before the first whose address doesn't parse
abbrev pub parsed_ops : List ℕ → List Op → Result (List Op) (List Op)
parsed_ops base [] = Ok []
parsed_ops base (first ∷ rest) =
    elim (parsed_op base first) [
      | None ↦ Err []
      | Some parsed ↦
          elim (parsed_ops base rest) [ Ok others ↦ Ok (parsed ∷ others) | Err before ↦ Err (parsed ∷ before) ]
    ]

-- the fault of a batch that has an operation whose address doesn't parse, behind these: what they throw, or else that fault
abbrev pub unparsed_fault : List Pair → List Op → Fault
unparsed_fault pairs before =
    elim (go pairs [] 0 before) [
      | Ok new ↦ fault.TypeError cause.Unparsed (Some (length before))
      | Err why ↦ batch_fault why
    ]

abbrev pub batch_parsed : State → List ℕ → List ℕ → Result (List Op) (List Op) → List Pair → Outcome
batch_parsed state key name (Ok ops) pairs = run_batch state key name ops answer.Ok batch_fault pairs
batch_parsed state key name (Err before) pairs = refused state (unparsed_fault pairs before)

-- a batch of operations
abbrev pub batch_ops : State → List ℕ → CacheBatch → List ℕ → Outcome
batch_ops state base asked key =
    with_cache_pairs state key asked.name
    (batch_parsed state key asked.name (parsed_ops base asked.operations))

-- ---- addAll (Service Workers, Cache, "addAll()")

-- why a request of an addAll is refused before any fetch
abbrev pub request_fault : Request → Option Cause
request_fault request =
    if not (has_http_scheme request) then Some cause.Scheme
    else if not (is_get request) then Some cause.Method
    else None

-- a request with its address parsed against a base, or why it is refused
abbrev pub fetchable : List ℕ → Request → Result Request Cause
fetchable base request =
    elim (resolved request.url base) [
      | None ↦ Err cause.Unparsed
      | Some url ↦
          let parsed = record request { url = url } in
          elim (request_fault parsed) [ Some why ↦ Err why | None ↦ Ok parsed ]
    ]

-- all requests of an addAll, or why the first bad one is refused
abbrev pub fetchable_all : List ℕ → List Request → Result (List Request) Cause
fetchable_all base [] = Ok []
fetchable_all base (first ∷ rest) =
    elim (fetchable base first) [
      | Err why ↦ Err why
      | Ok request ↦
          elim (fetchable_all base rest) [ Err why ↦ Err why | Ok requests ↦ Ok (request ∷ requests) ]
    ]

-- the numbers that the fetches of these requests get, one after another
abbrev pub drawn_numbers : List Draws → List Request → List ℕ
drawn_numbers draws [] = []
drawn_numbers draws (request ∷ rest) =
    next_draw draws request.url ∷ drawn_numbers (with_draw draws request.url) rest

abbrev pub with_draws : List Draws → List Request → List Draws
with_draws draws requests = fold (λ rows request. with_draw rows request.url) draws requests

-- the row of an addAll that waits for its fetches
abbrev pub new_task : State → Who → List ℕ → List ℕ → List Request → AddAll
new_task state who key name requests = record {
  number = length state.tasks;
  maker = who;
  key = key;
  name = name;
  requests = requests;
  fetches = drawn_numbers state.draws requests;
  settled = None;
}

-- an addAll waits for its fetches, whose numbers are drawn
unfoldable pub add_task : State → Who → List ℕ → List ℕ → List Request → Told
add_task state who key name requests =
    quiet (record state {
      tasks = state.tasks ++ new_task state who key name requests ∷ [];
      draws = with_draws state.draws requests;
    })

-- an addAll that goes on to its fetches, and its promise
abbrev pub start_task : State → Who → List ℕ → List ℕ → List Request → Outcome
start_task state who key name requests = record {
  answer = answer.Task (length state.tasks);
  told = followed (add_task state who key name requests) (λ after. promise after who (of_task (length state.tasks)));
}

-- an addAll, up to its fetches, at a key
abbrev pub add_all : State → Who → List ℕ → CacheAddAll → List ℕ → Outcome
add_all state who base asked key =
    if is_none (pairs_of key asked.name state.caches) then rejected state who fault.CacheGone
    else
    elim (fetchable_all base asked.requests) [
      | Err why ↦ rejected state who (type_error why)
      | Ok requests ↦ start_task state who key asked.name requests
    ]

-- an addAll of a page: its promise gets a fault of the page's address too
abbrev pub add_all_at : State → Who → Place → CacheAddAll → Outcome
add_all_at state who place asked =
    elim (place_key place) [ Ok key ↦ add_all state who place.at asked key | Err why ↦ rejected state who why ]

-- the fault of one response of an addAll
abbrev pub response_fault : Option FetchLine → Option Cause
response_fault line =
    elim (fetched_of line) [
      | None ↦ Some cause.Network
      | Some fetched ↦
          if not (is_ok_status fetched.response.status) then Some cause.Status
          else if fetched.response.status == 206 then Some cause.Partial
          else if varies_on_all fetched.response.headers then Some cause.Vary
          else None
    ]

-- the first fault of the responses, from this index on; a line that isn't there is a network error
abbrev pub responses_fault : ℕ → List Request → List (Option FetchLine) → Option Fault
responses_fault at [] lines = None
responses_fault at (request ∷ rest) [] = Some (fault.TypeError cause.Network (Some at))
responses_fault at (request ∷ rest) (line ∷ lines) =
    elim (response_fault line) [
      | Some why ↦ Some (fault.TypeError why (Some at))
      | None ↦ responses_fault (at + 1) rest lines
    ]

-- the put of a request and its response
abbrev pub put_of_response : Request × Option FetchLine → Option Op
put_of_response item = option_map (λ fetched. op.Put item.0 fetched.response) (fetched_of item.1)

-- the batch of an addAll
abbrev pub puts_of : List Request → List (Option FetchLine) → List Op
puts_of requests lines = filter_map put_of_response (zip requests lines)

-- a handler notes whether an addAll of it settled with a fault
abbrev pub noted_task : Bool → Handler → Handler
noted_task faulted row = record row { faulted = row.faulted || faulted }

-- the worker is the maker of an addAll
abbrev pub is_maker : Option ℕ → Worker → Bool
is_maker maker row = is_number maker row.number

-- an addAll settles, and so does its promise; the handler that made it notes a fault
unfoldable pub settle_task : State → ℕ → Settlement → Bool → Told
settle_task state number result faulted =
    quiet (record state {
      tasks = changed (is_task number) (λ row. record row { settled = Some result }) state.tasks;
      workers =
          changed (is_maker (option_and_then (λ row. maker_worker row.maker) (task_row state number)))
          (λ row. record row { handler = option_map (noted_task faulted) row.handler })
          state.workers;
    })

-- an addAll that settles with a fault
abbrev pub task_refused : State → ℕ → Fault → Outcome
task_refused state number why =
    record { answer = answer.Fault why; told = settle_task state number (settlement.Fault why) true }

-- the batch of an addAll whose responses are good
abbrev pub store_task : State → AddAll → List Op → List Pair → Outcome
store_task state row ops pairs =
    elim (batch pairs ops) [
      | Err why ↦ task_refused state row.number (batch_fault why)
      | Ok new ↦ record {
        answer = answer.Ok;
        told = followed (carry_out state row.key row.name ops new) (λ stored. settle_task stored row.number settlement.Done false);
      }
    ]

-- the fetches of an addAll have ended
abbrev pub task_ended : State → List (Option FetchLine) → AddAll → Outcome
task_ended state lines row =
    elim (responses_fault 0 row.requests lines) [
      | Some why ↦ task_refused state row.number why
      | None ↦
          elim (pairs_of row.key row.name state.caches) [
            | None ↦ task_refused state row.number fault.CacheGone
            | Some pairs ↦ store_task state row (puts_of row.requests lines) pairs
          ]
    ]

-- the fetches of an addAll have ended, where they are in flight
abbrev pub added : State → ℕ → List (Option FetchLine) → Option Outcome
added state number lines =
    option_and_then (λ row. if is_none row.settled then Some (task_ended state lines row) else None)
    (task_row state number)
