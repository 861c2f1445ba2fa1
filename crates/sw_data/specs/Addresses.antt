-- Addresses: parsing, trust, script and scope addresses, and the bound of a scope.
use Rattle.std.specs.Prelude.{ℕ, Bool, false, ◌&&◌, ◌||◌, ◌==◌, nat_eq, List, [], ◌∷◌, take, slice_index, codes, bytes_eq, Option, Some, None, option_map, option_and_then, Result, Ok, Err, if◌then◌else◌}
use Rattle.std.specs.List.{before_first, list_any, starts_with, ends_with}
use Rattle.std.specs.Option.{option_map_or}
use Rattle.http_header.specs.Token.{lowercase}
use Rattle.url.specs.declared.host.Host.{Host}
use Rattle.url.specs.declared.host.Host.TheVariants.{Domain, Ipv4, Ipv6}
use Rattle.url.specs.Origin.{own_origin, is_http, ascii_serialization}
use Rattle.url.specs.Parser.{Parsed, parse_url}
use Rattle.url.specs.Parts.{Parts, nonempty_host, serialize}

-- a parsed address, without the reason of a refusal (own)
abbrev pub when_parsed : Parsed Parts → Option Parts
when_parsed (Ok url) = Some url
when_parsed (Err e) = None

-- the address that a text is (URL, 4.4, "URL parser", without a base)
abbrev pub address_of : List ℕ → Option Parts
address_of text = when_parsed (parse_url None text)

-- the text parsed against a parsed base (URL, 4.4, "URL parser", with a base)
abbrev pub joined : List ℕ → Parts → Option Parts
joined text base = when_parsed (parse_url (Some base) text)

-- the text parsed against a base: none where the base or the text doesn't parse (URL, 4.4)
abbrev pub parsed_against : List ℕ → List ℕ → Option Parts
parsed_against text base = option_and_then (joined text) (address_of base)

-- the serialized address of a text against a base, with its fragment (URL, 4.5, "URL serializer")
unfoldable pub resolved : List ℕ → List ℕ → Option (List ℕ)
resolved text base = option_map serialize (parsed_against text base)

-- what stands before the first `:` of a serialized address, and nothing where there is none (URL, 4.1, "scheme")
unfoldable pub scheme_of : List ℕ → List ℕ
scheme_of address =
    if list_any (λ b. b == 58) address then before_first (λ b. b == 58) address else []

-- an address without its fragment: what stands before the first `#` (URL, 4.5, "exclude fragment")
unfoldable pub without_fragment : List ℕ → List ℕ
without_fragment address = before_first (λ b. b == 35) address

-- an address without fragment and query: what stands before the first `?` of that (Service Workers, Appendix A, "Request Matches Cached Item")
unfoldable pub without_query : List ℕ → List ℕ
without_query address = before_first (λ b. b == 63) (without_fragment address)

-- ---- origin and trust

-- the serialized origin of an http or https address; any other address has none (HTML, 7.1.1, "serialization of an origin")
abbrev pub parsed_origin : Parts → Option (List ℕ)
parsed_origin url =
    if is_http url.scheme then Some (ascii_serialization (own_origin url)) else None

-- the serialized origin of a text that is an http or https address
unfoldable pub origin_of : List ℕ → Option (List ℕ)
origin_of text = option_and_then parsed_origin (address_of text)

-- equal origins, where an address without one has the origin of no other (HTML, 7.1.1, "same origin")
abbrev pub equal_origins : Option (List ℕ) → Option (List ℕ) → Bool
equal_origins None right = false
equal_origins (Some left) None = false
equal_origins (Some left) (Some right) = bytes_eq left right

-- two texts are addresses of one origin
abbrev pub same_origin : List ℕ → List ℕ → Bool
same_origin left right = equal_origins (origin_of left) (origin_of right)

-- the host is 127.0.0.0/8, `[::1]`, `localhost` or a name below it (Secure Contexts, 3.1, without names that end in a dot: own profile)
abbrev pub is_loopback : Host (List ℕ) → Bool
is_loopback (Domain name) =
    bytes_eq name (codes "localhost") || ends_with nat_eq name (codes ".localhost")
is_loopback (Ipv4 address) = slice_index address.octets 0 == 127
is_loopback (Ipv6 address) = bytes_eq address.segments (0 ∷ 0 ∷ 0 ∷ 0 ∷ 0 ∷ 0 ∷ 0 ∷ 1 ∷ [])

-- https, or http at this machine (Secure Contexts, 3.1, "Is origin potentially trustworthy?"; own profile)
abbrev pub is_trusted : Parts → Bool
is_trusted url =
    bytes_eq url.scheme (codes "https")
    || (bytes_eq url.scheme (codes "http") && option_map_or is_loopback (nonempty_host url) false)

-- the text is a trustworthy address (Secure Contexts, 3.2, "Is url potentially trustworthy?"; own profile)
unfoldable pub is_trustworthy : List ℕ → Bool
is_trustworthy text = option_map_or is_trusted (address_of text) false

-- ---- script and scope addresses

-- three bytes are `%2f` or `%5c` in any case of their letters
abbrev pub is_escaped_slash : List ℕ → Bool
is_escaped_slash three =
    bytes_eq (lowercase three) (codes "%2f") || bytes_eq (lowercase three) (codes "%5c")

-- a path holds an escaped slash or backslash (Service Workers, Appendix A, "Start Register")
unfoldable pub has_escaped_slash : List ℕ → Bool
has_escaped_slash [] = false
has_escaped_slash (b ∷ rest) = is_escaped_slash (take 3 (b ∷ rest)) || has_escaped_slash rest

-- why a script or scope address is refused, in the order in which it is tested
pub data AddressFault : Type 0 where
  Unparsed : AddressFault
  Scheme : AddressFault
  EscapedSlash : AddressFault

-- the parts without a fragment
abbrev pub no_fragment : Parts → Parts
no_fragment url = record url { fragment = None }

-- a parsed address that a worker may have as script or scope, serialized without its fragment (Service Workers, Appendix A, "Start Register")
abbrev pub accepted : Option Parts → Result (List ℕ) AddressFault
accepted None = Err Unparsed
accepted (Some url) =
    if is_http url.scheme then (if has_escaped_slash url.path then Err EscapedSlash
    else Ok (serialize (no_fragment url)))
    else Err Scheme

-- the script address of a text against a base (Service Workers, Appendix A, "Start Register")
unfoldable pub script_address : List ℕ → List ℕ → Result (List ℕ) AddressFault
script_address text base = accepted (parsed_against text base)

-- the scope address of a text against a base; one that isn't given is `./` against the script (Service Workers, Appendix A, "Start Register")
unfoldable pub scope_address : Option (List ℕ) → List ℕ → List ℕ → Result (List ℕ) AddressFault
scope_address None script base = accepted (parsed_against (codes "./") script)
scope_address (Some text) script base = accepted (parsed_against text base)

-- ---- the bound of a scope

-- the path of an address
abbrev pub path_of : Parts → List ℕ
path_of url = url.path

-- the path of an address that has the script's origin
abbrev pub path_of_same_origin : Parts → Parts → Option (List ℕ)
path_of_same_origin script url =
    if equal_origins (parsed_origin script) (parsed_origin url) then Some url.path else None

-- the path that a Service-Worker-Allowed value gives a script (Service Workers, Appendix A, "Update", maxScopeString)
abbrev pub allowed_bound : List ℕ → Parts → Option (List ℕ)
allowed_bound value script = option_and_then (path_of_same_origin script) (joined value script)

-- the bound of a script's scopes, the value of Service-Worker-Allowed being given or not; none where there is no bound to be within (Service Workers, Appendix A, "Update", maxScopeString)
unfoldable pub scope_bound : List ℕ → Option (List ℕ) → Option (List ℕ)
scope_bound script None = option_map path_of (parsed_against (codes "./") script)
scope_bound script (Some value) = option_and_then (allowed_bound value) (address_of script)

-- the path of a scope starts with the bound, byte for byte (Service Workers, Appendix A, "Update", scopeString)
unfoldable pub is_within_bound : List ℕ → List ℕ → Bool
is_within_bound scope bound =
    option_map_or (λ url. starts_with nat_eq url.path bound) (address_of scope) false
