-- One step: what an event answers and tells, and the state that it leaves. It joins the cases of the other files.
use Rattle.std.specs.Prelude.{◌≡◌, Bool, true, false, not, List, [], is_some, Option, Some, None, if◌then◌else◌}
use Rattle.std.specs.Option.{option_map_or}
use Rattle.sw_data.specs.declared.answers.Answer.{Answer}
use Rattle.sw_data.specs.declared.answers.Notice.{Notice}
use Rattle.sw_data.specs.declared.events.Event.{Event}
use Rattle.sw_data.specs.declared.events.Event.TheVariants as event
use Rattle.sw_data.specs.declared.events.Who.{Who}
use Rattle.sw_data.specs.declared.events.Who.TheVariants as who
use Rattle.sw_data.specs.declared.storage.Change.{Change}
use Rattle.sw_data.specs.Events.{is_handler, is_lane, who_of}
use Rattle.sw_rules.specs.Activating.{activated, tryactivate}
use Rattle.sw_rules.specs.Caching.{add_all_at, added, batch_ops, cache_names, delete_cache, delete_request, has_cache, match_request, open_cache, put_response, query_cache, with_key}
use Rattle.sw_rules.specs.Calls.{make_call}
use Rattle.sw_rules.specs.Clients.{await, begin, claim_of, close, end, get_registration, get_registrations, open_client, ready, skip_waiting_of, with_slot}
use Rattle.sw_rules.specs.Forgetting.{forget}
use Rattle.sw_rules.specs.Installing.{evaluated, fetched, installed}
use Rattle.sw_rules.specs.Preloading.{preload_state, preload_switch, preload_value}
use Rattle.sw_rules.specs.Registering.{register, run, soft_update, unregister, update}
use Rattle.sw_rules.specs.State.{State}
use Rattle.sw_rules.specs.Told.{Outcome}

-- ---- makers

abbrev pub is_host : Who → Bool
is_host who.Host = true
is_host _ = false

-- an event has the kind of maker that makes it: a handler makes calls, the host goes on with jobs and activations, a lane or the
-- host forgets a key, and a lane makes each other action
abbrev pub has_its_maker : Event → Bool
has_its_maker (event.Call who call) = is_handler who
has_its_maker (event.Run who job) = is_host who
has_its_maker (event.Fetched who job line) = is_host who
has_its_maker (event.Evaluated who job) = is_host who
has_its_maker (event.Installed who job) = is_host who
has_its_maker (event.TryActivate who registration) = is_host who
has_its_maker (event.Activated who worker) = is_host who
has_its_maker (event.Added who task lines) = is_host who
has_its_maker (event.Forget who place) = not (is_handler who)
has_its_maker happened = is_lane (who_of happened)

-- ---- the step

-- what an event of its maker comes to; none where it isn't enabled
abbrev pub case_of : State → Event → Option Outcome
case_of state (event.Open who client url partition) = Some (open_client state client url partition)
case_of state (event.Close who client) = Some (close state client)
case_of state (event.Register who asked) = Some (register state who asked)
case_of state (event.Update who of) = Some (update state who of)
case_of state (event.SoftUpdate who of) = Some (soft_update state of)
case_of state (event.Unregister who of) = Some (unregister state who of)
case_of state (event.Await who of) = await state who of
case_of state (event.Ready who client) = ready state client
case_of state (event.Registration who client url) = Some (get_registration state client url)
case_of state (event.Registrations who client) = Some (get_registrations state client)
case_of state (event.SkipWaiting who of place) = Some (with_slot state of place (skip_waiting_of state))
case_of state (event.Claim who of place) = Some (with_slot state of place (claim_of state))
case_of state (event.Begin who client number) = begin state client number
case_of state (event.End who number) = Some (end state number)
case_of state (event.CacheOpen who place name) = Some (with_key state place (open_cache state name))
case_of state (event.CacheHas who place name) = Some (with_key state place (has_cache state name))
case_of state (event.CacheDelete who place name) = Some (with_key state place (delete_cache state name))
case_of state (event.CacheKeys who place) = Some (with_key state place (cache_names state))
case_of state (event.Forget who place) = Some (with_key state place (forget state))
case_of state (event.Match who place asked) = Some (with_key state place (match_request state place.at asked))
case_of state (event.MatchAll who place asked) = Some (with_key state place (query_cache state place.at asked))
case_of state (event.Keys who place asked) = Some (with_key state place (query_cache state place.at asked))
case_of state (event.Put who place put) = Some (with_key state place (put_response state place.at put))
case_of state (event.Delete who place asked) = Some (with_key state place (delete_request state place.at asked))
case_of state (event.Batch who place asked) = Some (with_key state place (batch_ops state place.at asked))
case_of state (event.AddAll who place asked) = Some (add_all_at state who place asked)
case_of state (event.PreloadEnable who of) = Some (preload_switch state of true)
case_of state (event.PreloadDisable who of) = Some (preload_switch state of false)
case_of state (event.PreloadValue who of text) = Some (preload_value state of text)
case_of state (event.PreloadState who of) = Some (preload_state state of)
case_of state (event.Call who call) = make_call state who call
case_of state (event.Run who job) = run state job
case_of state (event.Fetched who job line) = fetched state job line
case_of state (event.Evaluated who job) = evaluated state job
case_of state (event.Installed who job) = installed state job
case_of state (event.TryActivate who registration) = tryactivate state registration
case_of state (event.Activated who worker) = activated state worker
case_of state (event.Added who task lines) = added state task lines
case_of state (event.Restarted who) = None

-- what an event comes to; none where it isn't enabled (own: the cut of the algorithms into steps)
unfoldable pub step : State → Event → Option Outcome
step state happened = if has_its_maker happened then case_of state happened else None

-- an event may happen
abbrev pub enabled : State → Event → Bool
enabled state happened = is_some (step state happened)

-- an event answers and tells this, and leaves this state
abbrev pub Step : State → Event → Answer → List Notice → State → Type 0
Step old happened reply notices new =
    (changes : List Change)
    × (step old happened
    ≡ Some (record { answer = reply; told = record { state = new; notices = notices; changes = changes } }))

-- the durable changes of an event, in the order of its steps (own)
abbrev pub changes_of : State → Event → List Change
changes_of state happened = option_map_or (λ outcome. outcome.told.changes) (step state happened) []

-- the state after an event; one that isn't enabled leaves it
abbrev pub state_after : State → Event → State
state_after state happened = option_map_or (λ outcome. outcome.told.state) (step state happened) state
