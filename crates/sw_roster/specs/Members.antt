-- Which clients a worker is told of (Service Workers, "Clients": get(id), matchAll(options)), and in which order.
use Rattle.std.specs.Prelude.{ℕ, Bool, true, false, not, ◌&&◌, ◌||◌, ◌==◌, List, ◌++◌, map, filter, filter_map, find, bytes_eq, Option, Some, None, if◌then◌else◌}
use Rattle.std.specs.List.{list_any}
use Rattle.std.specs.Option.{option_map_or, option_or}
use Rattle.sw_data.specs.declared.answers.Answer.{Answer}
use Rattle.sw_data.specs.declared.answers.Answer.TheVariants as answer
use Rattle.sw_data.specs.declared.events.Event.{Event}
use Rattle.sw_data.specs.declared.events.Event.TheVariants as event
use Rattle.sw_data.specs.declared.rows.ClientRow.{ClientRow}
use Rattle.sw_data.specs.declared.workers.WorkerState.{WorkerState}
use Rattle.sw_data.specs.declared.workers.WorkerState.TheVariants as worker_state
use Rattle.sw_rules.specs.Rows.{client_row, is_client, is_number, key_of_worker, without, worker_row}
use Rattle.sw_rules.specs.State.{State}

-- two numbers are one
abbrev pub is_same : ℕ → ℕ → Bool
is_same number other = other == number

-- ---- who is told

abbrev pub is_redundant : WorkerState → Bool
is_redundant worker_state.Redundant = true
is_redundant _ = false

-- a worker that may ask is there, and isn't redundant (own)
abbrev pub may_ask : State → ℕ → Bool
may_ask state worker = option_map_or (λ row. not (is_redundant row.state)) (worker_row state worker) false

-- ---- of whom

-- a client that a worker may see: it is secure, and of the key of the worker's registration (Service Workers, "get(id)", "matchAll(options)"; that both see secure clients alone is own)
abbrev pub is_member : State → ℕ → ClientRow → Bool
is_member state worker client =
    client.secure && option_map_or (λ key. bytes_eq client.key key) (key_of_worker state worker) false

-- a client that a worker asks for in a list: a member, without `includeUncontrolled` only one whose controller it is (Service Workers, "matchAll(options)")
abbrev pub is_listed : State → ℕ → Bool → ClientRow → Bool
is_listed state worker uncontrolled client =
    is_member state worker client && (uncontrolled || is_number client.controller worker)

-- the clients that a worker asks for, in order of opening
abbrev pub members : State → ℕ → Bool → List ClientRow
members state worker uncontrolled = filter (is_listed state worker uncontrolled) state.clients

-- the number of a client, where it is a member (Service Workers, "get(id)")
abbrev pub got : State → ℕ → ℕ → Option ℕ
got state client worker =
    if option_map_or (is_member state worker) (client_row state client) false then Some client else None

-- ---- in which order

-- the numbers of clients
abbrev pub numbers_of : List ClientRow → List ℕ
numbers_of rows = map (λ row. row.number) rows

-- clients with the order of focus known: those that were focused, last focused first, then the others as they stand (own)
abbrev pub by_focus : List ℕ → List ClientRow → List ℕ
by_focus recent rows =
    numbers_of (filter_map (λ number. find (is_client number) rows) recent)
    ++ numbers_of (filter (λ row. not (list_any (is_same row.number) recent)) rows)

-- a client that is asked for, and isn't among these
abbrev pub is_other : State → List ℕ → ℕ → Bool → ClientRow → Bool
is_other state recent worker uncontrolled row =
    is_listed state worker uncontrolled row && not (list_any (is_same row.number) recent)

-- an `open` with this answer added its client
abbrev pub has_opened : Answer → Bool
has_opened answer.None = true
has_opened (answer.Worker worker) = true
has_opened _ = false

-- a `close` with this answer closed its client
abbrev pub has_closed : Answer → Bool
has_closed answer.Ok = true
has_closed _ = false

-- the client that an event with this answer added
abbrev pub opened : Event → Answer → Option ℕ
opened (event.Open who client url partition) reply = if has_opened reply then Some client else None
opened _ reply = None

-- the client that an event with this answer closed
abbrev pub closed : Event → Answer → Option ℕ
closed (event.Close who client) reply = if has_closed reply then Some client else None
closed _ reply = None

-- either
abbrev pub turned : Event → Answer → Option ℕ
turned happened reply = option_or (opened happened reply) (closed happened reply)

-- a list without a number, where there is one
abbrev pub dropped : Option ℕ → List ℕ → List ℕ
dropped None recent = recent
dropped (Some number) recent = without (is_same number) recent

-- what a roster holds (own): its state, and the clients with a focus, last focused first
pub record Rostered : Type 0 where
  pub state : State
  pub recent : List ℕ
