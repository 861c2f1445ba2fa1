-- Requests and responses: methods, statuses, lists of headers and bodies.
use Rattle.std.specs.Prelude.{ℕ, ◌&&◌, nat_le, List, [], ◌∷◌, length, codes, Option, Some, None, Result, Ok, Err}
use Rattle.base64.specs.GeneralPurpose.{decode_of}
use Rattle.base64.specs.Engines.{standard}
use Rattle.serde_json.specs.Data.{Data}
use Rattle.serde_json.specs.Find.{as_str, get}
use Rattle.sw_data.specs.Headers.{good_names, good_values, is_token, normal_lines, normal_method}
use Rattle.sw_data.specs.declared.exchange.Header.{Header}
use Rattle.sw_data.specs.declared.exchange.Request.{Request}
use Rattle.sw_data.specs.declared.exchange.Response.{Response}
use Rattle.sw_forms.specs.declared.error.LineCause.TheVariants as cause
use Rattle.sw_forms.specs.declared.error.Limit.TheVariants as limit
use Rattle.sw_forms.specs.declared.flaw.Flaw.{Flaw}
use Rattle.sw_forms.specs.declared.flaw.Flaw.TheVariants as flaw
use Rattle.sw_forms.specs.Flaws.{both, formed, made, needs, no_form}
use Rattle.sw_forms.specs.declared.limits.TheConstants.{HEADERS_LIMIT}
use Rattle.sw_http.specs.declared.message.TheConstants.{BODY_LIMIT}
use Rattle.sw_forms.specs.Members.{as_count, as_list, defaulted, has_only, list_of, required, short, short_text_of, text_of}

-- ---- headers

-- a header: its name and its value
unfoldable pub pair_of : List Data → Result Header Flaw
pair_of (name ∷ value ∷ []) =
    made (λ pair. record { name = pair.0; value = pair.1 }) (both (text_of name) (text_of value))
pair_of _ = Err no_form

-- [name, value]
abbrev pub header_of : Data → Result Header Flaw
header_of value = elim (as_list value) [ Some pair ↦ pair_of pair | None ↦ Err no_form ]

-- the lines of a list as they are kept, where their names and values are those of headers
abbrev pub kept_headers : List Header → Result (List Header) Flaw
kept_headers lines =
    needs (good_names lines && good_values lines) (flaw.Cause cause.Header) (Ok (normal_lines lines))

-- a list of headers
abbrev pub headers_of : Data → Result (List Header) Flaw
headers_of value =
    elim (list_of HEADERS_LIMIT (flaw.Limit limit.Headers) header_of value) [
      | Ok lines ↦ kept_headers lines
      | Err why ↦ Err why
    ]

-- the headers of a request or a response
unfoldable pub headers_member : Data → Result (List Header) Flaw
headers_member value = defaulted [] headers_of (get (codes "headers") value)

-- ---- requests

-- a method as it is kept, where it is a token
abbrev pub kept_method : List ℕ → Result (List ℕ) Flaw
kept_method method = needs (is_token method) (flaw.Cause cause.Method) (Ok (normal_method method))

abbrev pub method_of : Data → Result (List ℕ) Flaw
method_of value = elim (as_str value) [ Some method ↦ kept_method method | None ↦ Err no_form ]

-- the method of a request: GET where it isn't given
unfoldable pub method_member : Data → Result (List ℕ) Flaw
method_member value = defaulted (codes "GET") method_of (get (codes "method") value)

-- a GET request without headers
abbrev pub plain_request : List ℕ → Request
plain_request url = record { method = codes "GET"; url = url; headers = [] }

abbrev pub short_request : List ℕ → Result Request Flaw
short_request url = made plain_request (short url)

-- a request of its parts
abbrev pub request_from : Result (List ℕ) Flaw → Result (List ℕ) Flaw → Result (List Header) Flaw → Result Request Flaw
request_from url method headers =
    made (λ parts. record { method = parts.1.0; url = parts.0; headers = parts.1.1 }) (both url (both method headers))

-- {"url":..,"method":..,"headers":..}
unfoldable pub request_object : Data → Result Request Flaw
request_object value =
    formed (has_only (codes "url" ∷ codes "method" ∷ codes "headers" ∷ []) value)
    (request_from (required short_text_of (get (codes "url") value)) (method_member value) (headers_member value))

-- a request: an address text, or an object
unfoldable pub request_of : Data → Result Request Flaw
request_of value =
    elim (as_str value) [ Some url ↦ short_request url | None ↦ request_object value ]

-- ---- responses

-- a status from 100 to 999
abbrev pub kept_status : ℕ → Result ℕ Flaw
kept_status status = needs (nat_le 100 status && nat_le status 999) (flaw.Cause cause.Status) (Ok status)

abbrev pub status_of : Data → Result ℕ Flaw
status_of value = elim (as_count value) [ Some status ↦ kept_status status | None ↦ Err no_form ]

unfoldable pub status_member : Data → Result ℕ Flaw
status_member value = required status_of (get (codes "status") value)

-- a body within its limit
abbrev pub kept_body : List ℕ → Result (List ℕ) Flaw
kept_body body = needs (nat_le (length body) BODY_LIMIT) (flaw.Limit limit.Body) (Ok body)

-- a body as text
abbrev pub text_body_of : Data → Result (List ℕ) Flaw
text_body_of value = elim (as_str value) [ Some text ↦ kept_body text | None ↦ Err no_form ]

-- the body that a base64 text is (RFC 4648, 4)
abbrev pub decoded : List ℕ → Result (List ℕ) Flaw
decoded text =
    elim (decode_of standard text) [
      | Ok body ↦ kept_body body
      | Err why ↦ Err (flaw.Cause cause.Base64)
    ]

-- a body as base64
abbrev pub coded_body_of : Data → Result (List ℕ) Flaw
coded_body_of value = elim (as_str value) [ Some text ↦ decoded text | None ↦ Err no_form ]

-- a body, as text or as base64 but not as both; one that isn't given is empty
abbrev pub body_of : Option Data → Option Data → Result (List ℕ) Flaw
body_of None None = Ok []
body_of (Some text) None = text_body_of text
body_of None (Some coded) = coded_body_of coded
body_of (Some text) (Some coded) = Err no_form

unfoldable pub body_member : Data → Result (List ℕ) Flaw
body_member value = body_of (get (codes "text") value) (get (codes "body") value)

-- a response of its parts
abbrev pub response_from : Result ℕ Flaw → Result (List Header) Flaw → Result (List ℕ) Flaw → Result Response Flaw
response_from status headers body =
    made (λ parts. record { status = parts.0; headers = parts.1.0; body = parts.1.1 }) (both status (both headers body))

-- status, headers and body of a response
unfoldable pub response_parts : Data → Result Response Flaw
response_parts value = response_from (status_member value) (headers_member value) (body_member value)

-- a response
unfoldable pub response_of : Data → Result Response Flaw
response_of value =
    formed
    (has_only (codes "status" ∷ codes "headers" ∷ codes "text" ∷ codes "body" ∷ []) value)
    (response_parts value)
