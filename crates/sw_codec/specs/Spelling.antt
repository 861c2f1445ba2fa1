-- The spelling of durable changes in the journal. Numbers are big-endian.
use Rattle.std.specs.Prelude.{ℕ, ◌+◌, ◌^◌, Bool, true, not, ◌&&◌, ◌==◌, nat_lt, List, [], ◌∷◌, ◌++◌, length, Option, Some, None, if◌then◌else◌}
use Rattle.std.specs.List.{flat_map, list_all}
use Rattle.std.specs.Int.{w16, w32, to_be_bytes}
use Rattle.std.specs.Str.{is_utf8}
use Rattle.sw_data.specs.declared.exchange.Header.{Header}
use Rattle.sw_data.specs.declared.exchange.Op.{Op}
use Rattle.sw_data.specs.declared.exchange.Op.TheVariants as op
use Rattle.sw_data.specs.declared.exchange.Options.{Options}
use Rattle.sw_data.specs.declared.exchange.Request.{Request}
use Rattle.sw_data.specs.declared.exchange.Response.{Response}
use Rattle.sw_data.specs.declared.storage.Change.{Change}
use Rattle.sw_data.specs.declared.storage.Change.TheVariants as change
use Rattle.sw_data.specs.declared.workers.Kind.{Kind}
use Rattle.sw_data.specs.declared.workers.Kind.TheVariants as kind
use Rattle.sw_data.specs.declared.workers.Mode.{Mode}
use Rattle.sw_data.specs.declared.workers.Mode.TheVariants as mode

-- ---- lengths, bytes and texts

-- own: a length or a count that four bytes tell
abbrev pub is_length : ℕ → Bool
is_length size = nat_lt size (2 ^ 32)

-- own: a body has a spelling
abbrev pub is_body : List ℕ → Bool
is_body bytes = is_length (length bytes)

-- own: a text has a spelling
abbrev pub is_text : List ℕ → Bool
is_text text = is_length (length text) && is_utf8 text

-- own: the length as u32, and the bytes of a body or a text
unfoldable pub bytes_spelling : List ℕ → List ℕ
bytes_spelling bytes = to_be_bytes w32 (length bytes) ++ bytes

-- ---- single bytes

abbrev pub mode_byte : Mode → ℕ
mode_byte mode.Imports = 0
mode_byte mode.All = 1
mode_byte mode.Never = 2

abbrev pub kind_byte : Kind → ℕ
kind_byte kind.Classic = 0
kind_byte kind.Module = 1

-- own: a truth value as one byte, or as the bit of this value
abbrev pub bit : ℕ → Bool → ℕ
bit value flag = if flag then value else 0

abbrev pub options_byte : Options → ℕ
options_byte options = bit 1 options.ignore_search + bit 2 options.ignore_method + bit 4 options.ignore_vary

-- ---- requests, responses and operations

abbrev pub header_spelling : Header → List ℕ
header_spelling line = bytes_spelling line.name ++ bytes_spelling line.value

abbrev pub is_header : Header → Bool
is_header line = is_text line.name && is_text line.value

-- own: the count as u32, and these items one after the other
abbrev pub counted_spelling : {A : Type 0} → (A → List ℕ) → List A → List ℕ
counted_spelling spelling items = to_be_bytes w32 (length items) ++ flat_map spelling items

-- own: so many items have a spelling, and so has each of them
abbrev pub are_counted : {A : Type 0} → (A → Bool) → List A → Bool
are_counted is_item items = is_length (length items) && list_all is_item items

unfoldable pub request_spelling : Request → List ℕ
request_spelling request =
    bytes_spelling request.method ++ bytes_spelling request.url ++ counted_spelling header_spelling request.headers

unfoldable pub is_request : Request → Bool
is_request request = is_text request.method && is_text request.url && are_counted is_header request.headers

unfoldable pub response_spelling : Response → List ℕ
response_spelling response =
    to_be_bytes w16 response.status ++ counted_spelling header_spelling response.headers ++ bytes_spelling response.body

unfoldable pub is_response : Response → Bool
is_response response = nat_lt response.status (2 ^ 16) && are_counted is_header response.headers && is_body response.body

unfoldable pub op_spelling : Op → List ℕ
op_spelling (op.Delete request options) = 1 ∷ (request_spelling request ++ options_byte options ∷ [])
op_spelling (op.Put request response) = 2 ∷ (request_spelling request ++ response_spelling response)

unfoldable pub is_op : Op → Bool
is_op (op.Delete request options) = is_request request
is_op (op.Put request response) = is_request request && is_response response

-- ---- changes

-- own: the tag, and the fields in order
unfoldable pub change_spelling : Change → List ℕ
change_spelling (change.Waiting key scope mode worker) =
    1 ∷ (bytes_spelling key ++ bytes_spelling scope ++ mode_byte mode ∷ [] ++ bytes_spelling worker.script
    ++ kind_byte worker.kind ∷ [] ++ bytes_spelling worker.body)
change_spelling (change.Active key scope) = 2 ∷ (bytes_spelling key ++ bytes_spelling scope)
change_spelling (change.Activated key scope) = 3 ∷ (bytes_spelling key ++ bytes_spelling scope)
change_spelling (change.Mode key scope mode) =
    4 ∷ (bytes_spelling key ++ bytes_spelling scope ++ mode_byte mode ∷ [])
change_spelling (change.Gone key scope) = 5 ∷ (bytes_spelling key ++ bytes_spelling scope)
change_spelling (change.CacheNew key name) = 6 ∷ (bytes_spelling key ++ bytes_spelling name)
change_spelling (change.CacheDrop key name) = 7 ∷ (bytes_spelling key ++ bytes_spelling name)
change_spelling (change.CacheOps key name ops) =
    8 ∷ (bytes_spelling key ++ bytes_spelling name ++ counted_spelling op_spelling ops)
change_spelling (change.Forgot key) = 9 ∷ bytes_spelling key
change_spelling change.Restarted = 10 ∷ []
change_spelling (change.Preload key scope on text) =
    11 ∷ (bytes_spelling key ++ bytes_spelling scope ++ bit 1 on ∷ [] ++ bytes_spelling text)

-- own: which changes have a spelling: texts in UTF-8, lengths and counts below 2^32, and at least one operation in a batch
unfoldable pub has_spelling : Change → Bool
has_spelling (change.Waiting key scope mode worker) =
    is_text key && is_text scope && is_text worker.script && is_body worker.body
has_spelling (change.Active key scope) = is_text key && is_text scope
has_spelling (change.Activated key scope) = is_text key && is_text scope
has_spelling (change.Mode key scope mode) = is_text key && is_text scope
has_spelling (change.Gone key scope) = is_text key && is_text scope
has_spelling (change.CacheNew key name) = is_text key && is_text name
has_spelling (change.CacheDrop key name) = is_text key && is_text name
has_spelling (change.CacheOps key name ops) =
    is_text key && is_text name && (not (length ops == 0) && are_counted is_op ops)
has_spelling (change.Forgot key) = is_text key
has_spelling change.Restarted = true
has_spelling (change.Preload key scope on text) = is_text key && is_text scope && is_text text

-- own: the spelling of a change, where it has one
abbrev pub spelled : Change → Option (List ℕ)
spelled change = if has_spelling change then Some (change_spelling change) else None

-- own: the spellings of changes, in order, where each has one
abbrev pub spelled_all : List Change → Option (List ℕ)
spelled_all changes = if list_all has_spelling changes then Some (flat_map change_spelling changes) else None
