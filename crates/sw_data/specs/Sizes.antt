-- The sizes of operations on a cache: the lengths of their spellings in the journal.
use Rattle.std.specs.Prelude.{ℕ, ◌+◌, List, length, sum_by}
use Rattle.sw_data.specs.declared.exchange.Header.{Header}
use Rattle.sw_data.specs.declared.exchange.Op.{Op}
use Rattle.sw_data.specs.declared.exchange.Op.TheVariants as op
use Rattle.sw_data.specs.declared.exchange.Request.{Request}
use Rattle.sw_data.specs.declared.exchange.Response.{Response}

-- the size of a text or a body (own)
abbrev pub text_size : List ℕ → ℕ
text_size text = 4 + length text

-- the size of a list of headers (own)
abbrev pub headers_size : List Header → ℕ
headers_size headers = 4 + sum_by (λ line. text_size line.name + text_size line.value) headers

-- the size of a request (own)
abbrev pub request_size : Request → ℕ
request_size request = text_size request.method + text_size request.url + headers_size request.headers

-- the size of a response (own)
abbrev pub response_size : Response → ℕ
response_size response = 2 + headers_size response.headers + text_size response.body

-- the size of an operation (own)
abbrev pub op_size : Op → ℕ
op_size (op.Delete request options) = 2 + request_size request
op_size (op.Put request response) = 1 + request_size request + response_size response
