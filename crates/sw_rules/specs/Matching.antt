-- Matching: which registration an address has, and which items of a cache a query finds.
use Rattle.std.specs.Prelude.{ℕ, Bool, true, not, ◌&&◌, ◌||◌, nat_eq, nat_lt, List, [], codes, map, filter, fold, length, bytes_eq, Option, Some, None, find, if◌then◌else◌}
use Rattle.std.specs.List.{list_any, list_all, enumerate_from, starts_with}
use Rattle.std.specs.Option.{option_eq, option_map_or}
use Rattle.sw_data.specs.declared.exchange.Header.{Header}
use Rattle.sw_data.specs.declared.exchange.Options.{Options}
use Rattle.sw_data.specs.declared.exchange.Request.{Request}
use Rattle.sw_data.specs.declared.exchange.Response.{Response}
use Rattle.sw_data.specs.Addresses.{without_fragment, without_query}
use Rattle.sw_data.specs.Headers.{combined, vary_members}

-- ---- scopes

-- a mapped scope: its key, its serialized address, and the number of its registration
pub record Scope : Type 0 where
  pub key : List ℕ
  pub scope : List ℕ
  pub number : ℕ

-- a scope holds an address of a key (Service Workers, Appendix A, "Match Service Worker Registration")
abbrev pub holds_address : List ℕ → List ℕ → Scope → Bool
holds_address key address scope =
    bytes_eq scope.key key && starts_with nat_eq address scope.scope

-- the longer of two scopes, the first of two that are as long
abbrev pub longer : Option Scope → Scope → Option Scope
longer None scope = Some scope
longer (Some best) scope =
    if nat_lt (length best.scope) (length scope.scope) then Some scope else Some best

-- the longest scope of a key that an address starts with (Service Workers, Appendix A, "Match Service Worker Registration")
abbrev pub longest : List Scope → List ℕ → List ℕ → Option Scope
longest scopes key address = fold longer None (filter (holds_address key address) scopes)

-- ---- items of a cache

-- a pair of a request and a response, as a cache keeps it (Service Workers, "request response list")
abbrev pub Pair : Type 0
Pair = Request × Response

-- the method is GET
abbrev pub is_get : Request → Bool
is_get request = bytes_eq request.method (codes "GET")

-- two addresses are equal without their fragments, and with ignoreSearch without their queries
abbrev pub same_address : Options → List ℕ → List ℕ → Bool
same_address options left right =
    if options.ignore_search then bytes_eq (without_query left) (without_query right)
    else bytes_eq (without_fragment left) (without_fragment right)

-- two lists of headers have the same combined value of a field, an absent one being equal to an absent one only
abbrev pub same_values : List Header → List Header → List ℕ → Bool
same_values left right name = option_eq bytes_eq (combined name left) (combined name right)

-- a member of the Vary value is `*`
abbrev pub varies_on_all : List Header → Bool
varies_on_all headers = list_any (bytes_eq (codes "*")) (vary_members headers)

-- the Vary value of a response lets a query have it that an item's request had
abbrev pub vary_allows : List Header → List Header → Response → Bool
vary_allows query item response =
    not (varies_on_all response.headers)
    && list_all (same_values query item) (vary_members response.headers)

-- a query matches an item (Service Workers, Appendix A, "Request Matches Cached Item")
abbrev pub matches : Request → Options → Request → Option Response → Bool
matches query options item response =
    (options.ignore_method || is_get item)
    && same_address options query.url item.url
    && (options.ignore_vary || option_map_or (vary_allows query.headers item.headers) response true)

-- a query with another method than GET finds nothing unless the method is ignored (Service Workers, Cache, "matchAll()")
abbrev pub finds_nothing : Request → Options → Bool
finds_nothing query options = not options.ignore_method && not (is_get query)

-- a query matches a pair
abbrev pub matches_pair : Request → Options → Pair → Bool
matches_pair query options pair = matches query options pair.0 (Some pair.1)

-- the pairs of a list that a query matches, each behind its place, by rising place (Service Workers, Appendix A, "Query Cache")
abbrev pub matching_items : List Pair → Request → Options → List (ℕ × Pair)
matching_items pairs query options =
    if finds_nothing query options then []
    else filter (λ item. matches_pair query options item.1) (enumerate_from 0 pairs)

-- the places of a list that match, rising
abbrev pub query_of : List Pair → Request → Options → List ℕ
query_of pairs query options = map (λ item. item.0) (matching_items pairs query options)

-- the first pair that matches, behind its place
abbrev pub first_match : List Pair → Request → Options → Option (ℕ × Pair)
first_match pairs query options =
    if finds_nothing query options then None
    else find (λ item. matches_pair query options item.1) (enumerate_from 0 pairs)
