-- A batch of operations on one cache.
use Rattle.std.specs.Prelude.{ℕ, ◌+◌, Bool, not, ◌||◌, ◌==◌, nat_le, List, [], ◌∷◌, ◌++◌, filter, sum_by, codes, bytes_eq, Option, Some, None, Result, Ok, Err, if◌then◌else◌}
use Rattle.std.specs.List.{list_any}
use Rattle.sw_data.specs.declared.exchange.Options.{Options}
use Rattle.sw_data.specs.declared.exchange.Request.{Request}
use Rattle.sw_data.specs.declared.exchange.Response.{Response}
use Rattle.sw_data.specs.declared.exchange.Op.{Op}
use Rattle.sw_data.specs.declared.exchange.Op.TheVariants as op
use Rattle.sw_data.specs.declared.answers.Cause.{Cause}
use Rattle.sw_data.specs.declared.answers.Cause.TheVariants as cause
use Rattle.sw_data.specs.Addresses.{scheme_of}
use Rattle.sw_data.specs.Exchange.{no_options}
use Rattle.sw_data.specs.Sizes.{op_size}
use Rattle.sw_rules.specs.Matching.{Pair, is_get, varies_on_all, finds_nothing, matches_pair}

-- what a batch throws, with the place of the operation, or with the size of all operations
pub data BatchFault : Type 0 where
  TypeError : ℕ → Cause → BatchFault
  InvalidState : ℕ → BatchFault
  Quota : ℕ → BatchFault

-- the scheme of a serialized address is http or https (Fetch, "HTTP(S) scheme")
abbrev pub has_http_scheme : Request → Bool
has_http_scheme request =
    bytes_eq (scheme_of request.url) (codes "https") || bytes_eq (scheme_of request.url) (codes "http")

-- why a put is refused, in the order in which it is tested (Service Workers, Cache, "put()"; the order is own)
abbrev pub put_fault : Request → Response → Option Cause
put_fault request response =
    if not (has_http_scheme request) then Some cause.Scheme
    else if not (is_get request) then Some cause.Method
    else if response.status == 206 then Some cause.Partial
    else if varies_on_all response.headers then Some cause.Vary
    else None

-- the query matches an item that the batch added
abbrev pub matches_added : Request → Options → List Pair → Bool
matches_added request options added = list_any (matches_pair request options) added

-- the pairs that a query doesn't match
abbrev pub without_matching : Request → Options → List Pair → List Pair
without_matching request options pairs =
    filter (λ pair. not (matches_pair request options pair)) pairs

-- the list after the operations from this place on: old pairs first, then those that the batch added (Service Workers, Appendix A, "Batch Cache Operations")
abbrev pub go : List Pair → List Pair → ℕ → List Op → Result (List Pair) BatchFault
go old added at [] = Ok (old ++ added)
go old added at (op.Delete request options ∷ rest) =
    if finds_nothing request options then go old added (at + 1) rest
    else if matches_added request options added then Err (InvalidState at)
    else go (without_matching request options old) added (at + 1) rest
go old added at (op.Put request response ∷ rest) =
    elim (put_fault request response) [
      | Some why ↦ Err (TypeError at why)
      | None ↦
          if matches_added request no_options added then Err (InvalidState at)
          else go (without_matching request no_options old) (added ++ (request, response) ∷ []) (at + 1) rest
    ]

-- the most bytes that the operations of one batch may have together
abbrev pub quota : ℕ
quota = 33554432

-- a list within the quota
abbrev pub within_quota : ℕ → List Pair → Result (List Pair) BatchFault
within_quota size pairs = if nat_le size quota then Ok pairs else Err (Quota size)

-- the list after a batch, or what it throws; a batch that throws leaves the list as it was (Service Workers, Appendix A, "Batch Cache Operations"; the quota is own)
abbrev pub batch : List Pair → List Op → Result (List Pair) BatchFault
batch pairs ops =
    elim (go pairs [] 0 ops) [
      | Ok new ↦ within_quota (sum_by op_size ops) new
      | Err fault ↦ Err fault
    ]
