-- When two pieces of plain data are the same.
use Rattle.std.specs.Prelude.{Bool, true, false, not, ◌&&◌, ◌==◌, List, [], ◌∷◌, bytes_eq}
use Rattle.sw_data.specs.declared.exchange.Header.{Header}
use Rattle.sw_data.specs.declared.exchange.Op.{Op}
use Rattle.sw_data.specs.declared.exchange.Op.TheVariants as op
use Rattle.sw_data.specs.declared.exchange.Options.{Options}
use Rattle.sw_data.specs.declared.exchange.Request.{Request}
use Rattle.sw_data.specs.declared.exchange.Response.{Response}
use Rattle.sw_data.specs.declared.recordings.Call.{Call}
use Rattle.sw_data.specs.declared.recordings.Call.TheVariants as call
use Rattle.sw_data.specs.declared.workers.Phase.{Phase}
use Rattle.sw_data.specs.declared.workers.Phase.TheVariants as phase

abbrev pub same_truth : Bool → Bool → Bool
same_truth true right = right
same_truth false right = not right

abbrev pub same_phase : Phase → Phase → Bool
same_phase phase.Install phase.Install = true
same_phase phase.Activate phase.Activate = true
same_phase _ _ = false

-- two lists have the same members in one order, by a test of members
abbrev pub same_list : {A : Type 0} → (A → A → Bool) → List A → List A → Bool
same_list same [] [] = true
same_list same [] (y ∷ ys) = false
same_list same (x ∷ xs) [] = false
same_list same (x ∷ xs) (y ∷ ys) = same x y && same_list same xs ys

abbrev pub same_header : Header → Header → Bool
same_header one other = bytes_eq one.name other.name && bytes_eq one.value other.value

abbrev pub same_request : Request → Request → Bool
same_request one other =
    bytes_eq one.method other.method && bytes_eq one.url other.url && same_list same_header one.headers other.headers

abbrev pub same_response : Response → Response → Bool
same_response one other =
    one.status == other.status && same_list same_header one.headers other.headers && bytes_eq one.body other.body

abbrev pub same_options : Options → Options → Bool
same_options one other =
    same_truth one.ignore_search other.ignore_search
    && same_truth one.ignore_method other.ignore_method
    && same_truth one.ignore_vary other.ignore_vary

abbrev pub same_op : Op → Op → Bool
same_op (op.Delete request options) (op.Delete other other_options) =
    same_request request other && same_options options other_options
same_op (op.Put request response) (op.Put other other_response) =
    same_request request other && same_response response other_response
same_op _ _ = false

-- two calls of handlers are the same
unfoldable pub same_call : Call → Call → Bool
same_call call.SkipWaiting call.SkipWaiting = true
same_call call.Claim call.Claim = true
same_call call.Update call.Update = true
same_call (call.CacheOpen name) (call.CacheOpen other) = bytes_eq name other
same_call (call.CacheDelete name) (call.CacheDelete other) = bytes_eq name other
same_call (call.Put put) (call.Put other) =
    bytes_eq put.name other.name && same_request put.request other.request && same_response put.response other.response
same_call (call.Delete asked) (call.Delete other) =
    bytes_eq asked.name other.name && same_request asked.request other.request && same_options asked.options other.options
same_call (call.Batch asked) (call.Batch other) =
    bytes_eq asked.name other.name && same_list same_op asked.operations other.operations
same_call (call.AddAll asked) (call.AddAll other) =
    bytes_eq asked.name other.name && same_list same_request asked.requests other.requests
same_call _ _ = false
