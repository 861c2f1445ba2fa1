-- The parts of cache actions and calls, and the calls of handlers.
use Rattle.std.specs.Prelude.{ℕ, Bool, false, List, [], ◌∷◌, codes, Option, Some, None, Result, Ok, Err}
use Rattle.serde_json.specs.Data.{Data}
use Rattle.serde_json.specs.Find.{get}
use Rattle.sw_data.specs.declared.exchange.Op.{Op}
use Rattle.sw_data.specs.declared.exchange.Op.TheVariants as op
use Rattle.sw_data.specs.declared.exchange.Options.{Options}
use Rattle.sw_data.specs.declared.exchange.Request.{Request}
use Rattle.sw_data.specs.declared.exchange.Response.{Response}
use Rattle.sw_data.specs.declared.recordings.CacheAddAll.{CacheAddAll}
use Rattle.sw_data.specs.declared.recordings.CacheBatch.{CacheBatch}
use Rattle.sw_data.specs.declared.recordings.CacheDelete.{CacheDelete}
use Rattle.sw_data.specs.declared.recordings.CacheMatch.{CacheMatch}
use Rattle.sw_data.specs.declared.recordings.CachePut.{CachePut}
use Rattle.sw_data.specs.declared.recordings.CacheQuery.{CacheQuery}
use Rattle.sw_data.specs.declared.recordings.Call.{Call}
use Rattle.sw_data.specs.declared.recordings.Call.TheVariants as call
use Rattle.sw_forms.specs.declared.error.Limit.TheVariants as limit
use Rattle.sw_forms.specs.declared.flaw.Flaw.{Flaw}
use Rattle.sw_forms.specs.declared.flaw.Flaw.TheVariants as flaw
use Rattle.sw_forms.specs.declared.word.Word.{Word}
use Rattle.sw_forms.specs.declared.word.Word.TheVariants as word
use Rattle.sw_forms.specs.Exchanges.{request_of, response_of}
use Rattle.sw_forms.specs.Flaws.{both, formed, made, no_form}
use Rattle.sw_forms.specs.declared.limits.TheConstants.{CALLS_LIMIT, OPERATIONS_LIMIT}
use Rattle.sw_forms.specs.Members.{defaulted, has_only, list_of, optional, required, short_text_of, truth_of}
use Rattle.sw_forms.specs.Words.{word_member}

-- ---- parts

unfoldable pub option_member : List ℕ → Data → Result Bool Flaw
option_member name value = defaulted false truth_of (get name value)

-- the options of a query, of its parts
abbrev pub options_from : Result Bool Flaw → Result Bool Flaw → Result Bool Flaw → Result Options Flaw
options_from search method vary =
    made (λ parts. record { ignore_search = parts.0; ignore_method = parts.1.0; ignore_vary = parts.1.1 })
    (both search (both method vary))

-- the options of a query
unfoldable pub options_of : Data → Result Options Flaw
options_of value =
    options_from
    (option_member (codes "ignoreSearch") value)
    (option_member (codes "ignoreMethod") value)
    (option_member (codes "ignoreVary") value)

-- the name of a cache
unfoldable pub name_member : Data → Result (List ℕ) Flaw
name_member value = required short_text_of (get (codes "name") value)

-- a request under a name
unfoldable pub request_member : List ℕ → Data → Result Request Flaw
request_member name value = required request_of (get name value)

-- the response of a put
unfoldable pub response_member : Data → Result Response Flaw
response_member value = required response_of (get (codes "response") value)

abbrev pub put_from : Result (List ℕ) Flaw → Result Request Flaw → Result Response Flaw → Result CachePut Flaw
put_from name request response =
    made (λ parts. record { name = parts.0; request = parts.1.0; response = parts.1.1 })
    (both name (both request response))

-- a response to keep under a request
unfoldable pub put_parts : Data → Result CachePut Flaw
put_parts value = put_from (name_member value) (request_member (codes "request") value) (response_member value)

abbrev pub delete_from : Result (List ℕ) Flaw → Result Request Flaw → Result Options Flaw → Result CacheDelete Flaw
delete_from name request options =
    made (λ parts. record { name = parts.0; request = parts.1.0; options = parts.1.1 })
    (both name (both request options))

-- what to remove from a cache
unfoldable pub delete_parts : Data → Result CacheDelete Flaw
delete_parts value = delete_from (name_member value) (request_member (codes "request") value) (options_of value)

-- ---- operations of a batch

abbrev pub put_operation_from : Result Request Flaw → Result Response Flaw → Result Op Flaw
put_operation_from request response = made (λ parts. op.Put parts.0 parts.1) (both request response)

-- {"put":..,"response":..}
unfoldable pub put_operation : Data → Result Op Flaw
put_operation value =
    formed (has_only (codes "put" ∷ codes "response" ∷ []) value)
    (put_operation_from (request_member (codes "put") value) (response_member value))

abbrev pub delete_operation_from : Result Request Flaw → Result Options Flaw → Result Op Flaw
delete_operation_from request options = made (λ parts. op.Delete parts.0 parts.1) (both request options)

-- {"delete":..} and options
unfoldable pub delete_operation : Data → Result Op Flaw
delete_operation value =
    formed
    (has_only (codes "delete" ∷ codes "ignoreSearch" ∷ codes "ignoreMethod" ∷ codes "ignoreVary" ∷ []) value)
    (delete_operation_from (request_member (codes "delete") value) (options_of value))

-- an operation: a put or a delete
unfoldable pub operation_of : Data → Result Op Flaw
operation_of value =
    elim (get (codes "put") value) [ Some request ↦ put_operation value | None ↦ delete_operation value ]

abbrev pub operations_of : Data → Result (List Op) Flaw
operations_of value = list_of OPERATIONS_LIMIT (flaw.Limit limit.Operations) operation_of value

unfoldable pub operations_member : Data → Result (List Op) Flaw
operations_member value = required operations_of (get (codes "operations") value)

abbrev pub batch_from : Result (List ℕ) Flaw → Result (List Op) Flaw → Result CacheBatch Flaw
batch_from name operations = made (λ parts. record { name = parts.0; operations = parts.1 }) (both name operations)

-- the operations of a batch
unfoldable pub batch_parts : Data → Result CacheBatch Flaw
batch_parts value = batch_from (name_member value) (operations_member value)

abbrev pub requests_of : Data → Result (List Request) Flaw
requests_of value = list_of OPERATIONS_LIMIT (flaw.Limit limit.Operations) request_of value

unfoldable pub requests_member : Data → Result (List Request) Flaw
requests_member value = required requests_of (get (codes "requests") value)

abbrev pub add_all_from : Result (List ℕ) Flaw → Result (List Request) Flaw → Result CacheAddAll Flaw
add_all_from name requests = made (λ parts. record { name = parts.0; requests = parts.1 }) (both name requests)

-- the requests to fetch and keep
unfoldable pub add_all_parts : Data → Result CacheAddAll Flaw
add_all_parts value = add_all_from (name_member value) (requests_member value)

-- ---- look-ups

-- the name of a cache, where it is given
unfoldable pub name_option : Data → Result (Option (List ℕ)) Flaw
name_option value = optional short_text_of (get (codes "name") value)

abbrev pub match_from : Result Request Flaw → Result (Option (List ℕ)) Flaw → Result Options Flaw → Result CacheMatch Flaw
match_from request name options =
    made (λ parts. record { request = parts.0; name = parts.1.0; options = parts.1.1 })
    (both request (both name options))

-- a look-up over all caches, or in one
unfoldable pub match_parts : Data → Result CacheMatch Flaw
match_parts value = match_from (request_member (codes "request") value) (name_option value) (options_of value)

-- a request, where it is given
unfoldable pub request_option : Data → Result (Option Request) Flaw
request_option value = optional request_of (get (codes "request") value)

abbrev pub query_from : Result (List ℕ) Flaw → Result (Option Request) Flaw → Result Options Flaw → Result CacheQuery Flaw
query_from name request options =
    made (λ parts. record { name = parts.0; request = parts.1.0; options = parts.1.1 })
    (both name (both request options))

-- a look-up of all places in a cache
unfoldable pub query_parts : Data → Result CacheQuery Flaw
query_parts value = query_from (name_member value) (request_option value) (options_of value)

-- ---- calls

-- a call without members of its own
abbrev pub bare_call : Call → Data → Result Call Flaw
bare_call bare value = formed (has_only (codes "do" ∷ []) value) (Ok bare)

-- the name of a call that has nothing else
unfoldable pub name_call : Data → Result (List ℕ) Flaw
name_call value = formed (has_only (codes "do" ∷ codes "name" ∷ []) value) (name_member value)

unfoldable pub put_call : Data → Result CachePut Flaw
put_call value =
    formed (has_only (codes "do" ∷ codes "name" ∷ codes "request" ∷ codes "response" ∷ []) value) (put_parts value)

unfoldable pub delete_call : Data → Result CacheDelete Flaw
delete_call value =
    formed
    (has_only (codes "do" ∷ codes "name" ∷ codes "request" ∷ codes "ignoreSearch" ∷ codes "ignoreMethod" ∷ codes "ignoreVary" ∷ []) value)
    (delete_parts value)

unfoldable pub batch_call : Data → Result CacheBatch Flaw
batch_call value = formed (has_only (codes "do" ∷ codes "name" ∷ codes "operations" ∷ []) value) (batch_parts value)

unfoldable pub add_all_call : Data → Result CacheAddAll Flaw
add_all_call value = formed (has_only (codes "do" ∷ codes "name" ∷ codes "requests" ∷ []) value) (add_all_parts value)

-- the call that a word names
unfoldable pub call_of_word : Word → Data → Result Call Flaw
call_of_word word.SkipWaiting value = bare_call call.SkipWaiting value
call_of_word word.Claim value = bare_call call.Claim value
call_of_word word.Update value = bare_call call.Update value
call_of_word word.CacheOpen value = made call.CacheOpen (name_call value)
call_of_word word.CacheDelete value = made call.CacheDelete (name_call value)
call_of_word word.Put value = made call.Put (put_call value)
call_of_word word.Delete value = made call.Delete (delete_call value)
call_of_word word.Batch value = made call.Batch (batch_call value)
call_of_word word.AddAll value = made call.AddAll (add_all_call value)
call_of_word _ value = Err no_form

-- a call of a handler
unfoldable pub call_of : Data → Result Call Flaw
call_of value =
    elim (word_member value) [ Some what ↦ call_of_word what value | None ↦ Err no_form ]

-- the calls of a handler
unfoldable pub calls_of : Data → Result (List Call) Flaw
calls_of value = list_of CALLS_LIMIT (flaw.Limit limit.Calls) call_of value
