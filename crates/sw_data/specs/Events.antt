-- Events, their makers, the actions that they are, and what they name.
use Rattle.std.specs.Prelude.{ℕ, Bool, true, false, Option, Some, None}
use Rattle.sw_data.specs.declared.events.Who.{Who}
use Rattle.sw_data.specs.declared.events.Who.TheVariants.{Lane, Handler}
use Rattle.sw_data.specs.declared.events.Event.{Event}
use Rattle.sw_data.specs.declared.events.Event.TheVariants as event
use Rattle.sw_data.specs.declared.recordings.Action.{Action}
use Rattle.sw_data.specs.declared.recordings.Action.TheVariants as action
use Rattle.sw_data.specs.declared.recordings.Place.{Place}

-- the event that an action is, with its maker (own)
unfoldable pub event_of_action : Who → Action → Event
event_of_action who (action.Open client url partition) = event.Open who client url partition
event_of_action who (action.Close client) = event.Close who client
event_of_action who (action.Register register) = event.Register who register
event_of_action who (action.Update of) = event.Update who of
event_of_action who (action.SoftUpdate of) = event.SoftUpdate who of
event_of_action who (action.Unregister of) = event.Unregister who of
event_of_action who (action.Await of) = event.Await who of
event_of_action who (action.Ready client) = event.Ready who client
event_of_action who (action.Registration client url) = event.Registration who client url
event_of_action who (action.Registrations client) = event.Registrations who client
event_of_action who (action.SkipWaiting of slot) = event.SkipWaiting who of slot
event_of_action who (action.Claim of slot) = event.Claim who of slot
event_of_action who (action.Begin client number) = event.Begin who client number
event_of_action who (action.End number) = event.End who number
event_of_action who (action.CacheOpen place name) = event.CacheOpen who place name
event_of_action who (action.CacheHas place name) = event.CacheHas who place name
event_of_action who (action.CacheDelete place name) = event.CacheDelete who place name
event_of_action who (action.CacheKeys place) = event.CacheKeys who place
event_of_action who (action.Forget place) = event.Forget who place
event_of_action who (action.Match place find) = event.Match who place find
event_of_action who (action.MatchAll place query) = event.MatchAll who place query
event_of_action who (action.Keys place query) = event.Keys who place query
event_of_action who (action.Put place put) = event.Put who place put
event_of_action who (action.Delete place delete) = event.Delete who place delete
event_of_action who (action.Batch place batch) = event.Batch who place batch
event_of_action who (action.AddAll place add) = event.AddAll who place add
event_of_action who (action.PreloadEnable of) = event.PreloadEnable who of
event_of_action who (action.PreloadDisable of) = event.PreloadDisable who of
event_of_action who (action.PreloadValue of text) = event.PreloadValue who of text
event_of_action who (action.PreloadState of) = event.PreloadState who of

-- the action that an event is, none where it is that of no action (own)
unfoldable pub action_of_event : Event → Option Action
action_of_event (event.Open who client url partition) = Some (action.Open client url partition)
action_of_event (event.Close who client) = Some (action.Close client)
action_of_event (event.Register who register) = Some (action.Register register)
action_of_event (event.Update who of) = Some (action.Update of)
action_of_event (event.SoftUpdate who of) = Some (action.SoftUpdate of)
action_of_event (event.Unregister who of) = Some (action.Unregister of)
action_of_event (event.Await who of) = Some (action.Await of)
action_of_event (event.Ready who client) = Some (action.Ready client)
action_of_event (event.Registration who client url) = Some (action.Registration client url)
action_of_event (event.Registrations who client) = Some (action.Registrations client)
action_of_event (event.SkipWaiting who of slot) = Some (action.SkipWaiting of slot)
action_of_event (event.Claim who of slot) = Some (action.Claim of slot)
action_of_event (event.Begin who client number) = Some (action.Begin client number)
action_of_event (event.End who number) = Some (action.End number)
action_of_event (event.CacheOpen who place name) = Some (action.CacheOpen place name)
action_of_event (event.CacheHas who place name) = Some (action.CacheHas place name)
action_of_event (event.CacheDelete who place name) = Some (action.CacheDelete place name)
action_of_event (event.CacheKeys who place) = Some (action.CacheKeys place)
action_of_event (event.Forget who place) = Some (action.Forget place)
action_of_event (event.Match who place find) = Some (action.Match place find)
action_of_event (event.MatchAll who place query) = Some (action.MatchAll place query)
action_of_event (event.Keys who place query) = Some (action.Keys place query)
action_of_event (event.Put who place put) = Some (action.Put place put)
action_of_event (event.Delete who place delete) = Some (action.Delete place delete)
action_of_event (event.Batch who place batch) = Some (action.Batch place batch)
action_of_event (event.AddAll who place add) = Some (action.AddAll place add)
action_of_event (event.PreloadEnable who of) = Some (action.PreloadEnable of)
action_of_event (event.PreloadDisable who of) = Some (action.PreloadDisable of)
action_of_event (event.PreloadValue who of text) = Some (action.PreloadValue of text)
action_of_event (event.PreloadState who of) = Some (action.PreloadState of)
action_of_event _ = None

-- the maker of an event (own)
unfoldable pub who_of : Event → Who
who_of (event.Open who client url partition) = who
who_of (event.Close who client) = who
who_of (event.Register who register) = who
who_of (event.Update who of) = who
who_of (event.SoftUpdate who of) = who
who_of (event.Unregister who of) = who
who_of (event.Await who of) = who
who_of (event.Ready who client) = who
who_of (event.Registration who client url) = who
who_of (event.Registrations who client) = who
who_of (event.SkipWaiting who of slot) = who
who_of (event.Claim who of slot) = who
who_of (event.Begin who client number) = who
who_of (event.End who number) = who
who_of (event.CacheOpen who place name) = who
who_of (event.CacheHas who place name) = who
who_of (event.CacheDelete who place name) = who
who_of (event.CacheKeys who place) = who
who_of (event.Forget who place) = who
who_of (event.Match who place find) = who
who_of (event.MatchAll who place query) = who
who_of (event.Keys who place query) = who
who_of (event.Put who place put) = who
who_of (event.Delete who place delete) = who
who_of (event.Batch who place batch) = who
who_of (event.AddAll who place add) = who
who_of (event.PreloadEnable who of) = who
who_of (event.PreloadDisable who of) = who
who_of (event.PreloadValue who of text) = who
who_of (event.PreloadState who of) = who
who_of (event.Call who call) = who
who_of (event.Run who job) = who
who_of (event.Fetched who job line) = who
who_of (event.Evaluated who job) = who
who_of (event.Installed who job) = who
who_of (event.TryActivate who registration) = who
who_of (event.Activated who worker) = who
who_of (event.Added who task lines) = who
who_of (event.Restarted who) = who

-- the client that an action names; `await` and `end` name none (own)
unfoldable pub named_client : Event → Option ℕ
named_client (event.Open maker client url partition) = Some client
named_client (event.Close maker client) = Some client
named_client (event.Register maker asked) = Some asked.client
named_client (event.Update maker of) = Some of.client
named_client (event.SoftUpdate maker of) = Some of.client
named_client (event.Unregister maker of) = Some of.client
named_client (event.Ready maker client) = Some client
named_client (event.Registration maker client url) = Some client
named_client (event.Registrations maker client) = Some client
named_client (event.SkipWaiting maker of place) = Some of.client
named_client (event.Claim maker of place) = Some of.client
named_client (event.Begin maker client number) = Some client
named_client (event.PreloadEnable maker of) = Some of.client
named_client (event.PreloadDisable maker of) = Some of.client
named_client (event.PreloadValue maker of text) = Some of.client
named_client (event.PreloadState maker of) = Some of.client
named_client _ = None

-- the page that an action on caches names, or a lane that forgets a key; that the host forgets one is no use (own)
unfoldable pub named_page : Event → Option Place
named_page (event.CacheOpen maker place name) = Some place
named_page (event.CacheHas maker place name) = Some place
named_page (event.CacheDelete maker place name) = Some place
named_page (event.CacheKeys maker place) = Some place
named_page (event.Forget (Lane lane at) place) = Some place
named_page (event.Match maker place asked) = Some place
named_page (event.MatchAll maker place asked) = Some place
named_page (event.Keys maker place asked) = Some place
named_page (event.Put maker place put) = Some place
named_page (event.Delete maker place asked) = Some place
named_page (event.Batch maker place asked) = Some place
named_page (event.AddAll maker place asked) = Some place
named_page _ = None

abbrev pub is_lane : Who → Bool
is_lane (Lane lane at) = true
is_lane _ = false

abbrev pub is_handler : Who → Bool
is_handler (Handler worker phase number) = true
is_handler _ = false
