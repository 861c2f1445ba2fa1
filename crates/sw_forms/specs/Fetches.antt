-- Fetch lines: what the network answers for an address, and what a worker made from it does.
use Rattle.std.specs.Prelude.{ℕ, Bool, true, false, nat_le, List, [], ◌∷◌, length, codes, bytes_eq, Option, Some, None, Result, Ok, Err, if◌then◌else◌}
use Rattle.serde_json.specs.Data.{Data}
use Rattle.serde_json.specs.Find.{as_bool, as_str, get}
use Rattle.sw_data.specs.Addresses.{AddressFault}
use Rattle.sw_data.specs.declared.exchange.Response.{Response}
use Rattle.sw_data.specs.declared.recordings.Call.{Call}
use Rattle.sw_data.specs.declared.recordings.FetchLine.{FetchLine}
use Rattle.sw_data.specs.declared.recordings.Fetched.{Fetched}
use Rattle.sw_data.specs.declared.recordings.Handlers.{Handlers}
use Rattle.sw_forms.specs.declared.error.LineCause.TheVariants as cause
use Rattle.sw_forms.specs.declared.error.Limit.TheVariants as limit
use Rattle.sw_forms.specs.declared.flaw.Flaw.{Flaw}
use Rattle.sw_forms.specs.declared.flaw.Flaw.TheVariants as flaw
use Rattle.sw_forms.specs.Caches.{calls_of}
use Rattle.sw_forms.specs.Exchanges.{response_parts}
use Rattle.sw_forms.specs.Flaws.{both, formed, made, needs, no_form}
use Rattle.sw_forms.specs.declared.limits.TheConstants.{TEXT_LIMIT}
use Rattle.sw_forms.specs.Members.{defaulted, has_only}
use Rattle.sw_url.specs.HttpAddress.{http_address}

-- ---- handlers

-- whether a text is the second of two words
abbrev pub is_second : List ℕ → List ℕ → List ℕ → Result Bool Flaw
is_second first second text =
    if bytes_eq text first then Ok false else if bytes_eq text second then Ok true else Err no_form

abbrev pub choice_of : List ℕ → List ℕ → Data → Result Bool Flaw
choice_of first second value =
    elim (as_str value) [ Some text ↦ is_second first second text | None ↦ Err no_form ]

-- the run of a script: ok, or it throws
unfoldable pub throws_member : Data → Result Bool Flaw
throws_member value = defaulted false (choice_of (codes "ok") (codes "throw")) (get (codes "run") value)

unfoldable pub calls_member : Data → Result (List Call) Flaw
calls_member value = defaulted [] calls_of (get (codes "calls") value)

-- the end of an install handler: ok, or it fails
unfoldable pub fails_member : Data → Result Bool Flaw
fails_member value = defaulted false (choice_of (codes "ok") (codes "fail")) (get (codes "end") value)

-- what an install handler does: its calls, and whether it ends in a failure
unfoldable pub install_of : Data → Result (List Call × Bool) Flaw
install_of value =
    formed (has_only (codes "calls" ∷ codes "end" ∷ []) value) (both (calls_member value) (fails_member value))

unfoldable pub install_member : Data → Result (List Call × Bool) Flaw
install_member value = defaulted ([], false) install_of (get (codes "install") value)

-- what an activate handler does
unfoldable pub activate_of : Data → Result (List Call) Flaw
activate_of value = formed (has_only (codes "calls" ∷ []) value) (calls_member value)

unfoldable pub activate_member : Data → Result (List Call) Flaw
activate_member value = defaulted [] activate_of (get (codes "activate") value)

abbrev pub handlers_from : Result Bool Flaw → Result (List Call × Bool) Flaw → Result (List Call) Flaw → Result Handlers Flaw
handlers_from throws install activate =
    made
    (λ parts. record {
      throws = parts.0;
      install = parts.1.0.0;
      install_fails = parts.1.0.1;
      activate = parts.1.1;
    })
    (both throws (both install activate))

-- what a worker does when it runs, installs and activates
unfoldable pub handlers_of : Data → Result Handlers Flaw
handlers_of value = handlers_from (throws_member value) (install_member value) (activate_member value)

-- ---- addresses

abbrev pub bad_address : Flaw
bad_address = flaw.Cause cause.Address

-- an address, or that it isn't one
abbrev pub kept_address : Result (List ℕ) AddressFault → Result (List ℕ) Flaw
kept_address (Ok address) = Ok address
kept_address (Err why) = Err bad_address

-- the http or https address of a fetch line, without its fragment; as it is written it has at most 4,096 bytes
abbrev pub address_text : List ℕ → Result (List ℕ) Flaw
address_text text = needs (nat_le (length text) TEXT_LIMIT) (flaw.Limit limit.Text) (kept_address (http_address text))

unfoldable pub address_part : Data → Result (List ℕ) Flaw
address_part value = elim (as_str value) [ Some text ↦ address_text text | None ↦ Err no_form ]

-- ---- lines

abbrev pub fetch_members : List (List ℕ)
fetch_members =
    codes "fetch" ∷ codes "status" ∷ codes "headers" ∷ codes "text" ∷ codes "body" ∷ codes "run" ∷ codes "install" ∷ codes "activate" ∷ []

-- a line of a network error has nothing else
abbrev pub error_of : Data → Result (Option Fetched) Flaw
error_of mark = elim (as_bool mark) [ Some truth ↦ formed truth (Ok None) | None ↦ Err no_form ]

unfoldable pub error_line : Data → Data → Result (Option Fetched) Flaw
error_line mark value = formed (has_only (codes "fetch" ∷ codes "error" ∷ []) value) (error_of mark)

abbrev pub fetched_from : Result Response Flaw → Result Handlers Flaw → Result (Option Fetched) Flaw
fetched_from response handlers =
    made (λ parts. Some (record { response = parts.0; handlers = parts.1 })) (both response handlers)

-- a response, and what a worker made from it does
unfoldable pub answer_line : Data → Result (Option Fetched) Flaw
answer_line value = formed (has_only fetch_members value) (fetched_from (response_parts value) (handlers_of value))

unfoldable pub fetched_of : Data → Result (Option Fetched) Flaw
fetched_of value =
    elim (get (codes "error") value) [ Some mark ↦ error_line mark value | None ↦ answer_line value ]

abbrev pub fetch_from : Result (List ℕ) Flaw → Result (Option Fetched) Flaw → Result FetchLine Flaw
fetch_from address fetched = made (λ parts. record { fetch = parts.0; fetched = parts.1 }) (both address fetched)

-- the fetch line of an address
unfoldable pub fetch_line : Data → Data → Result FetchLine Flaw
fetch_line address value = fetch_from (address_part address) (fetched_of value)
