-- The lengths of spellings.
use Rattle.std.proofs.Common.{◌≡◌, ℕ, ◌+◌, List, [], ◌∷◌, ◌++◌, length, refl, sym, ap, ◌∙◌, arith, length-append}
use Rattle.std.specs.Prelude.{sum_by}
use Rattle.std.specs.List.{flat_map}
use Rattle.std.specs.Int.{w16, w32, to_be_bytes}
use Rattle.std.proofs.lemmas.List.Concat.{flat_map-cons}
use Rattle.std.proofs.lemmas.List.Sums.{sum_by-cons}
use Rattle.sw_data.specs.declared.exchange.Header.{Header}
use Rattle.sw_data.specs.declared.exchange.Op.TheVariants as op
use Rattle.sw_data.specs.declared.exchange.Request.{Request}
use Rattle.sw_data.specs.declared.exchange.Response.{Response}
use Rattle.sw_data.specs.Sizes.{text_size, headers_size, request_size, response_size}
use Rattle.sw_codec.specs.Laws.{HasQuotaSize}
use Rattle.sw_codec.specs.Spelling.{bytes_spelling, header_spelling, counted_spelling, request_spelling, response_spelling, op_spelling, options_byte}

bytes_long : (bytes : List ℕ) → length (bytes_spelling bytes) ≡ text_size bytes
unfolding bytes_spelling
bytes_long bytes = omega (arith, length-append (to_be_bytes w32 (length bytes)) bytes)

header_long : (line : Header) → length (header_spelling line) ≡ text_size line.name + text_size line.value
header_long line = omega (arith, length-append (bytes_spelling line.name) (bytes_spelling line.value), bytes_long line.name, bytes_long line.value)

lines_long : (lines : List Header) → length (flat_map header_spelling lines) ≡ sum_by (λ line. text_size line.name + text_size line.value) lines
lines_long [] = refl
lines_long (line ∷ lines) =
    ap length (flat_map-cons header_spelling line lines) ∙ length-append (header_spelling line) (flat_map header_spelling lines)
    ∙ (λ i. header_long line i + lines_long lines i) ∙ sym (sum_by-cons (λ (l : Header). text_size l.name + text_size l.value) line lines)

headers_long : (lines : List Header) → length (counted_spelling header_spelling lines) ≡ headers_size lines
headers_long lines = omega (arith, length-append (to_be_bytes w32 (length lines)) (flat_map header_spelling lines), lines_long lines)

request_long : (request : Request) → length (request_spelling request) ≡ request_size request
unfolding request_spelling
request_long request =
    let method = bytes_spelling request.method in
    let url = bytes_spelling request.url in
    let headers = counted_spelling header_spelling request.headers in
    omega (arith, length-append (method ++ url) headers, length-append method url, bytes_long request.method, bytes_long request.url, headers_long request.headers)

response_long : (response : Response) → length (response_spelling response) ≡ response_size response
unfolding response_spelling
response_long response =
    let status = to_be_bytes w16 response.status in
    let headers = counted_spelling header_spelling response.headers in
    omega (arith, length-append (status ++ headers) (bytes_spelling response.body), length-append status headers, headers_long response.headers, bytes_long response.body)

pub quota_size : HasQuotaSize
unfolding op_spelling
quota_size (op.Delete request options) = omega (arith, length-append (request_spelling request) (options_byte options ∷ []), request_long request)
quota_size (op.Put request response) = omega (arith, length-append (request_spelling request) (response_spelling response), request_long request, response_long response)
