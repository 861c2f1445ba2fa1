-- Lane lines: the actions on clients, registrations and caches.
use Rattle.std.specs.Prelude.{ℕ, Bool, ◌&&◌, ◌||◌, ◌==◌, nat_le, nat_lt, List, [], ◌∷◌, length, codes, bytes_eq, Option, Some, None, Result, Ok, Err, if◌then◌else◌}
use Rattle.std.specs.List.{list_all}
use Rattle.serde_json.specs.Data.{Data}
use Rattle.serde_json.specs.Find.{as_str, get}
use Rattle.sw_data.specs.Headers.{is_value}
use Rattle.sw_data.specs.declared.recordings.Action.{Action}
use Rattle.sw_data.specs.declared.recordings.Action.TheVariants as action
use Rattle.sw_data.specs.declared.recordings.CacheAddAll.{CacheAddAll}
use Rattle.sw_data.specs.declared.recordings.CacheBatch.{CacheBatch}
use Rattle.sw_data.specs.declared.recordings.CacheDelete.{CacheDelete}
use Rattle.sw_data.specs.declared.recordings.CacheMatch.{CacheMatch}
use Rattle.sw_data.specs.declared.recordings.CachePut.{CachePut}
use Rattle.sw_data.specs.declared.recordings.CacheQuery.{CacheQuery}
use Rattle.sw_data.specs.declared.recordings.ClientScope.{ClientScope}
use Rattle.sw_data.specs.declared.recordings.Place.{Place}
use Rattle.sw_data.specs.declared.recordings.Registering.{Registering}
use Rattle.sw_data.specs.declared.workers.Kind.{Kind}
use Rattle.sw_data.specs.declared.workers.Kind.TheVariants as kind
use Rattle.sw_data.specs.declared.workers.Mode.{Mode}
use Rattle.sw_data.specs.declared.workers.Mode.TheVariants as mode
use Rattle.sw_data.specs.declared.workers.Slot.{Slot}
use Rattle.sw_data.specs.declared.workers.Slot.TheVariants as slot
use Rattle.sw_forms.specs.declared.error.LineCause.TheVariants as cause
use Rattle.sw_forms.specs.declared.error.Limit.TheVariants as limit
use Rattle.sw_forms.specs.declared.flaw.Flaw.{Flaw}
use Rattle.sw_forms.specs.declared.flaw.Flaw.TheVariants as flaw
use Rattle.sw_forms.specs.declared.word.Word.{Word}
use Rattle.sw_forms.specs.declared.word.Word.TheVariants as word
use Rattle.sw_forms.specs.Caches.{add_all_parts, batch_parts, delete_parts, match_parts, name_member, put_parts, query_parts}
use Rattle.sw_forms.specs.Flaws.{both, formed, made, needs, no_form}
use Rattle.sw_forms.specs.declared.limits.TheConstants.{LANES_LIMIT, PARTITION_LIMIT}
use Rattle.sw_forms.specs.Members.{count_of, defaulted, has_only, number_of, optional, required, short, short_text_of}
use Rattle.sw_forms.specs.Words.{word_member}

-- ---- clients and registrations

unfoldable pub client_member : Data → Result ℕ Flaw
client_member value = required number_of (get (codes "client") value)

unfoldable pub event_member : Data → Result ℕ Flaw
event_member value = required number_of (get (codes "event") value)

unfoldable pub of_member : Data → Result ℕ Flaw
of_member value = required number_of (get (codes "of") value)

-- a text under a name, of at most 4,096 bytes
unfoldable pub text_member : List ℕ → Data → Result (List ℕ) Flaw
text_member name value = required short_text_of (get name value)

unfoldable pub scope_option : Data → Result (Option (List ℕ)) Flaw
scope_option value = optional short_text_of (get (codes "scope") value)

abbrev pub client_scope_from : Result ℕ Flaw → Result (List ℕ) Flaw → Result ClientScope Flaw
client_scope_from client scope = made (λ parts. record { client = parts.0; scope = parts.1 }) (both client scope)

-- a scope that a client names
unfoldable pub client_scope_parts : Data → Result ClientScope Flaw
client_scope_parts value = client_scope_from (client_member value) (text_member (codes "scope") value)

-- a slot of a registration
abbrev pub slot_word : List ℕ → Result Slot Flaw
slot_word text =
    if bytes_eq text (codes "installing") then Ok slot.Installing
    else if bytes_eq text (codes "waiting") then Ok slot.Waiting
    else if bytes_eq text (codes "active") then Ok slot.Active
    else Err no_form

abbrev pub slot_of : Data → Result Slot Flaw
slot_of value = elim (as_str value) [ Some text ↦ slot_word text | None ↦ Err no_form ]

unfoldable pub slot_member : Data → Result Slot Flaw
slot_member value = required slot_of (get (codes "slot") value)

-- the type of a worker
abbrev pub kind_word : List ℕ → Result Kind Flaw
kind_word text =
    if bytes_eq text (codes "classic") then Ok kind.Classic
    else if bytes_eq text (codes "module") then Ok kind.Module
    else Err no_form

abbrev pub kind_of : Data → Result Kind Flaw
kind_of value = elim (as_str value) [ Some text ↦ kind_word text | None ↦ Err no_form ]

unfoldable pub kind_member : Data → Result Kind Flaw
kind_member value = defaulted kind.Classic kind_of (get (codes "type") value)

-- an update-via-cache mode
abbrev pub mode_word : List ℕ → Result Mode Flaw
mode_word text =
    if bytes_eq text (codes "imports") then Ok mode.Imports
    else if bytes_eq text (codes "all") then Ok mode.All
    else if bytes_eq text (codes "none") then Ok mode.Never
    else Err no_form

abbrev pub mode_of : Data → Result Mode Flaw
mode_of value = elim (as_str value) [ Some text ↦ mode_word text | None ↦ Err no_form ]

unfoldable pub mode_member : Data → Result Mode Flaw
mode_member value = defaulted mode.Imports mode_of (get (codes "cache") value)

-- the type and the mode of a registration
unfoldable pub settings : Data → Result (Kind × Mode) Flaw
settings value = both (kind_member value) (mode_member value)

-- the script and the scope of a registration
unfoldable pub addresses : Data → Result (List ℕ × Option (List ℕ)) Flaw
addresses value = both (text_member (codes "script") value) (scope_option value)

abbrev pub register_from : Result ℕ Flaw → Result (List ℕ × Option (List ℕ)) Flaw → Result (Kind × Mode) Flaw → Result Registering Flaw
register_from client texts set =
    made
    (λ parts. record {
      client = parts.0;
      script = parts.1.0.0;
      scope = parts.1.0.1;
      kind = parts.1.1.0;
      mode = parts.1.1.1;
    })
    (both client (both texts set))

-- a registration that a client asks for
unfoldable pub register_parts : Data → Result Registering Flaw
register_parts value = register_from (client_member value) (addresses value) (settings value)

-- a preload value within the limit of texts, which may stand in a header
abbrev pub preload_text : List ℕ → Result (List ℕ) Flaw
preload_text text = needs (is_value text) (flaw.Cause cause.Header) (short text)

abbrev pub preload_value_of : Data → Result (List ℕ) Flaw
preload_value_of value = elim (as_str value) [ Some text ↦ preload_text text | None ↦ Err no_form ]

unfoldable pub preload_value_member : Data → Result (List ℕ) Flaw
preload_value_member value = required preload_value_of (get (codes "value") value)

-- ---- pages

-- a to z, 0 to 9, `.` and `-`
abbrev pub is_partition_byte : ℕ → Bool
is_partition_byte b = (nat_le 97 b && nat_le b 122) || (nat_le 48 b && nat_le b 57) || b == 46 || b == 45

-- 1 to 64 of these
abbrev pub is_partition : List ℕ → Bool
is_partition text = nat_lt 0 (length text) && nat_le (length text) PARTITION_LIMIT && list_all is_partition_byte text

abbrev pub partition_word : List ℕ → Result (List ℕ) Flaw
partition_word text = formed (is_partition text) (Ok text)

abbrev pub partition_of : Data → Result (List ℕ) Flaw
partition_of value = elim (as_str value) [ Some text ↦ partition_word text | None ↦ Err no_form ]

unfoldable pub partition_member : Data → Result (Option (List ℕ)) Flaw
partition_member value = optional partition_of (get (codes "partition") value)

abbrev pub place_from : Result (List ℕ) Flaw → Result (Option (List ℕ)) Flaw → Result Place Flaw
place_from at partition = made (λ parts. record { at = parts.0; partition = parts.1 }) (both at partition)

-- the address of a page and its partition
unfoldable pub place_parts : Data → Result Place Flaw
place_parts value = place_from (text_member (codes "at") value) (partition_member value)

-- ---- forms of lines

-- a lane line has these members and no other
abbrev pub lane_names : List (List ℕ) → List (List ℕ)
lane_names names = codes "lane" ∷ codes "do" ∷ names

-- a lane line of a page has these members besides its page, and no other
abbrev pub page_names : List (List ℕ) → List (List ℕ)
page_names names = lane_names (codes "at" ∷ codes "partition" ∷ names)

-- a client that opens at an address
unfoldable pub open_line : Data → Result (ℕ × (List ℕ × Option (List ℕ))) Flaw
open_line value =
    formed (has_only (lane_names (codes "client" ∷ codes "url" ∷ codes "partition" ∷ [])) value)
    (both (client_member value) (both (text_member (codes "url") value) (partition_member value)))

-- a client alone
unfoldable pub client_line : Data → Result ℕ Flaw
client_line value = formed (has_only (lane_names (codes "client" ∷ [])) value) (client_member value)

-- a registration that a client asks for
unfoldable pub register_line : Data → Result Registering Flaw
register_line value =
    formed
    (has_only (lane_names (codes "client" ∷ codes "script" ∷ codes "scope" ∷ codes "type" ∷ codes "cache" ∷ [])) value)
    (register_parts value)

-- a client and a scope
unfoldable pub scope_line : Data → Result ClientScope Flaw
scope_line value =
    formed (has_only (lane_names (codes "client" ∷ codes "scope" ∷ [])) value) (client_scope_parts value)

-- a position of the lane
unfoldable pub await_line : Data → Result ℕ Flaw
await_line value = formed (has_only (lane_names (codes "of" ∷ [])) value) (of_member value)

-- a client and an address
unfoldable pub url_line : Data → Result (ℕ × List ℕ) Flaw
url_line value =
    formed (has_only (lane_names (codes "client" ∷ codes "url" ∷ [])) value)
    (both (client_member value) (text_member (codes "url") value))

-- a client, a scope and a slot
unfoldable pub slot_line : Data → Result (ClientScope × Slot) Flaw
slot_line value =
    formed (has_only (lane_names (codes "client" ∷ codes "scope" ∷ codes "slot" ∷ [])) value)
    (both (client_scope_parts value) (slot_member value))

-- a client and an event
unfoldable pub begin_line : Data → Result (ℕ × ℕ) Flaw
begin_line value =
    formed (has_only (lane_names (codes "client" ∷ codes "event" ∷ [])) value)
    (both (client_member value) (event_member value))

-- an event
unfoldable pub event_line : Data → Result ℕ Flaw
event_line value = formed (has_only (lane_names (codes "event" ∷ [])) value) (event_member value)

-- a client, a scope and a preload value
unfoldable pub preload_line : Data → Result (ClientScope × List ℕ) Flaw
preload_line value =
    formed (has_only (lane_names (codes "client" ∷ codes "scope" ∷ codes "value" ∷ [])) value)
    (both (client_scope_parts value) (preload_value_member value))

-- a page alone
unfoldable pub page_line : Data → Result Place Flaw
page_line value = formed (has_only (page_names []) value) (place_parts value)

-- a page and the name of a cache
unfoldable pub name_line : Data → Result (Place × List ℕ) Flaw
name_line value =
    formed (has_only (page_names (codes "name" ∷ [])) value) (both (place_parts value) (name_member value))

-- a page, a request and options, and a name or none
abbrev pub has_query_names : Data → Bool
has_query_names value =
    has_only
    (page_names (codes "name" ∷ codes "request" ∷ codes "ignoreSearch" ∷ codes "ignoreMethod" ∷ codes "ignoreVary" ∷ []))
    value

unfoldable pub match_line : Data → Result (Place × CacheMatch) Flaw
match_line value = formed (has_query_names value) (both (place_parts value) (match_parts value))

unfoldable pub query_line : Data → Result (Place × CacheQuery) Flaw
query_line value = formed (has_query_names value) (both (place_parts value) (query_parts value))

unfoldable pub delete_line : Data → Result (Place × CacheDelete) Flaw
delete_line value = formed (has_query_names value) (both (place_parts value) (delete_parts value))

unfoldable pub put_line : Data → Result (Place × CachePut) Flaw
put_line value =
    formed (has_only (page_names (codes "name" ∷ codes "request" ∷ codes "response" ∷ [])) value)
    (both (place_parts value) (put_parts value))

unfoldable pub batch_line : Data → Result (Place × CacheBatch) Flaw
batch_line value =
    formed (has_only (page_names (codes "name" ∷ codes "operations" ∷ [])) value)
    (both (place_parts value) (batch_parts value))

unfoldable pub add_all_line : Data → Result (Place × CacheAddAll) Flaw
add_all_line value =
    formed (has_only (page_names (codes "name" ∷ codes "requests" ∷ [])) value)
    (both (place_parts value) (add_all_parts value))

-- the action that a word names
unfoldable pub action_of_word : Word → Data → Result Action Flaw
action_of_word word.Open value = made (λ parts. action.Open parts.0 parts.1.0 parts.1.1) (open_line value)
action_of_word word.Close value = made action.Close (client_line value)
action_of_word word.Register value = made action.Register (register_line value)
action_of_word word.Update value = made action.Update (scope_line value)
action_of_word word.SoftUpdate value = made action.SoftUpdate (scope_line value)
action_of_word word.Unregister value = made action.Unregister (scope_line value)
action_of_word word.Await value = made action.Await (await_line value)
action_of_word word.Ready value = made action.Ready (client_line value)
action_of_word word.Registration value = made (λ parts. action.Registration parts.0 parts.1) (url_line value)
action_of_word word.Registrations value = made action.Registrations (client_line value)
action_of_word word.SkipWaiting value = made (λ parts. action.SkipWaiting parts.0 parts.1) (slot_line value)
action_of_word word.Claim value = made (λ parts. action.Claim parts.0 parts.1) (slot_line value)
action_of_word word.Begin value = made (λ parts. action.Begin parts.0 parts.1) (begin_line value)
action_of_word word.End value = made action.End (event_line value)
action_of_word word.CacheOpen value = made (λ parts. action.CacheOpen parts.0 parts.1) (name_line value)
action_of_word word.CacheHas value = made (λ parts. action.CacheHas parts.0 parts.1) (name_line value)
action_of_word word.CacheDelete value = made (λ parts. action.CacheDelete parts.0 parts.1) (name_line value)
action_of_word word.CacheKeys value = made action.CacheKeys (page_line value)
action_of_word word.Forget value = made action.Forget (page_line value)
action_of_word word.Match value = made (λ parts. action.Match parts.0 parts.1) (match_line value)
action_of_word word.MatchAll value = made (λ parts. action.MatchAll parts.0 parts.1) (query_line value)
action_of_word word.Keys value = made (λ parts. action.Keys parts.0 parts.1) (query_line value)
action_of_word word.Put value = made (λ parts. action.Put parts.0 parts.1) (put_line value)
action_of_word word.Delete value = made (λ parts. action.Delete parts.0 parts.1) (delete_line value)
action_of_word word.Batch value = made (λ parts. action.Batch parts.0 parts.1) (batch_line value)
action_of_word word.AddAll value = made (λ parts. action.AddAll parts.0 parts.1) (add_all_line value)
action_of_word word.PreloadEnable value = made action.PreloadEnable (scope_line value)
action_of_word word.PreloadDisable value = made action.PreloadDisable (scope_line value)
action_of_word word.PreloadValue value = made (λ parts. action.PreloadValue parts.0 parts.1) (preload_line value)
action_of_word word.PreloadState value = made action.PreloadState (scope_line value)

-- ---- lines

-- a lane within the limit
abbrev pub kept_lane : ℕ → Result ℕ Flaw
kept_lane lane = needs (nat_lt lane LANES_LIMIT) (flaw.Limit limit.Lanes) (Ok lane)

unfoldable pub lane_member : Data → Result ℕ Flaw
lane_member value = elim (required count_of (get (codes "lane") value)) [ Ok lane ↦ kept_lane lane | Err why ↦ Err why ]

unfoldable pub action_member : Data → Result Action Flaw
action_member value =
    elim (word_member value) [ Some what ↦ action_of_word what value | None ↦ Err no_form ]

-- the lane of a line and its action
unfoldable pub lane_line : Data → Result (ℕ × Action) Flaw
lane_line value = both (lane_member value) (action_member value)
