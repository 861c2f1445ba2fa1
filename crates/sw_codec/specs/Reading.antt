-- What bytes spell, read from the left. A reader answers the value that a front of the bytes spells and the bytes behind
-- it, or nothing where no front is a spelling.
use Rattle.std.specs.Prelude.{ℕ, zero, suc, ◌+◌, ◌-◌, ◌/◌, ◌%◌, ◌==◌, nat_lt, Bool, true, false, List, [], ◌∷◌, ◌++◌, length, take, drop, Option, Some, None, Result, Ok, Err, if◌then◌else◌}
use Rattle.std.specs.Int.{Width, w16, w32, byte_len, from_be_bytes}
use Rattle.std.specs.Str.{is_utf8}
use Rattle.sw_data.specs.declared.exchange.Header.{Header}
use Rattle.sw_data.specs.declared.exchange.Op.{Op}
use Rattle.sw_data.specs.declared.exchange.Op.TheVariants as op
use Rattle.sw_data.specs.declared.exchange.Options.{Options}
use Rattle.sw_data.specs.declared.exchange.Request.{Request}
use Rattle.sw_data.specs.declared.exchange.Response.{Response}
use Rattle.sw_data.specs.declared.storage.Change.{Change}
use Rattle.sw_data.specs.declared.storage.Change.TheVariants as change
use Rattle.sw_data.specs.declared.workers.Kind.{Kind}
use Rattle.sw_data.specs.declared.workers.Kind.TheVariants as kind
use Rattle.sw_data.specs.declared.workers.Mode.{Mode}
use Rattle.sw_data.specs.declared.workers.Mode.TheVariants as mode

-- ---- readers made of readers

infixl 10 ◌>>=◌
abbrev pub ◌>>=◌ : {A B : Type 0} → Option A → (A → Option B) → Option B
None >>= f = None
(Some x) >>= f = f x

-- own: one value, and another behind it
abbrev pub pair_at : {A B : Type 0} → (List ℕ → Option (A × List ℕ)) → (List ℕ → Option (B × List ℕ)) → List ℕ → Option ((A × B) × List ℕ)
pair_at first second bytes = first bytes >>= λ one. second one.1 >>= λ other. Some ((one.0, other.0), other.1)

-- own: the value that is made of one that is read
abbrev pub made_at : {A B : Type 0} → (A → B) → (List ℕ → Option (A × List ℕ)) → List ℕ → Option (B × List ℕ)
made_at make reader bytes = reader bytes >>= λ one. Some (make one.0, one.1)

-- own: the value that one that is read stands for, where it stands for one
abbrev pub meant_at : {A B : Type 0} → (A → Option B) → (List ℕ → Option (A × List ℕ)) → List ℕ → Option (B × List ℕ)
meant_at means reader bytes = reader bytes >>= λ one. means one.0 >>= λ value. Some (value, one.1)

-- own: so many values, one behind the other
unfoldable pub items_at : {A : Type 0} → (List ℕ → Option (A × List ℕ)) → ℕ → List ℕ → Option (List A × List ℕ)
items_at reader zero bytes = Some ([], bytes)
items_at reader (suc count) bytes =
    reader bytes >>= λ first. items_at reader count first.1 >>= λ others. Some (first.0 ∷ others.0, others.1)

-- ---- lengths, bytes and texts

abbrev pub byte_at : List ℕ → Option (ℕ × List ℕ)
byte_at [] = None
byte_at (byte ∷ rest) = Some (byte, rest)

abbrev pub number_at : Width → List ℕ → Option (ℕ × List ℕ)
number_at width bytes =
    if nat_lt (length bytes) (byte_len width) then None
    else Some (from_be_bytes width (take (byte_len width) bytes), drop (byte_len width) bytes)

-- own: so many bytes
abbrev pub front_at : ℕ → List ℕ → Option (List ℕ × List ℕ)
front_at size bytes = if nat_lt (length bytes) size then None else Some (take size bytes, drop size bytes)

unfoldable pub bytes_at : List ℕ → Option (List ℕ × List ℕ)
bytes_at bytes = number_at w32 bytes >>= λ size. front_at size.0 size.1

-- own: the bytes, where they are a text
abbrev pub text_of : List ℕ → Option (List ℕ)
text_of bytes = if is_utf8 bytes then Some bytes else None

unfoldable pub text_at : List ℕ → Option (List ℕ × List ℕ)
text_at bytes = meant_at text_of bytes_at bytes

-- own: a count as u32, and so many items
unfoldable pub counted_at : {A : Type 0} → (List ℕ → Option (A × List ℕ)) → List ℕ → Option (List A × List ℕ)
counted_at reader bytes = number_at w32 bytes >>= λ count. items_at reader count.0 count.1

-- ---- single bytes

abbrev pub mode_of : ℕ → Option Mode
mode_of byte =
    if byte == 0 then Some mode.Imports
    else if byte == 1 then Some mode.All
    else if byte == 2 then Some mode.Never
    else None

abbrev pub kind_of : ℕ → Option Kind
kind_of byte = if byte == 0 then Some kind.Classic else if byte == 1 then Some kind.Module else None

abbrev pub flag_of : ℕ → Option Bool
flag_of byte = if byte == 0 then Some false else if byte == 1 then Some true else None

abbrev pub options_of : ℕ → Option Options
options_of byte =
    if nat_lt byte 8
    then Some (record {
      ignore_search = byte % 2 == 1;
      ignore_method = byte / 2 % 2 == 1;
      ignore_vary = byte / 4 == 1;
    })
    else None

unfoldable pub mode_at : List ℕ → Option (Mode × List ℕ)
mode_at bytes = meant_at mode_of byte_at bytes

unfoldable pub kind_at : List ℕ → Option (Kind × List ℕ)
kind_at bytes = meant_at kind_of byte_at bytes

unfoldable pub flag_at : List ℕ → Option (Bool × List ℕ)
flag_at bytes = meant_at flag_of byte_at bytes

unfoldable pub options_at : List ℕ → Option (Options × List ℕ)
options_at bytes = meant_at options_of byte_at bytes

-- ---- requests, responses and operations

unfoldable pub header_at : List ℕ → Option (Header × List ℕ)
header_at bytes = made_at (λ (name, value). record { name = name; value = value }) (pair_at text_at text_at) bytes

unfoldable pub request_at : List ℕ → Option (Request × List ℕ)
request_at bytes =
    made_at (λ (line, headers). record { method = line.0; url = line.1; headers = headers })
    (pair_at (pair_at text_at text_at) (counted_at header_at)) bytes

unfoldable pub response_at : List ℕ → Option (Response × List ℕ)
response_at bytes =
    made_at (λ (head, body). record { status = head.0; headers = head.1; body = body })
    (pair_at (pair_at (number_at w16) (counted_at header_at)) bytes_at) bytes

abbrev pub delete_at : List ℕ → Option (Op × List ℕ)
delete_at bytes = made_at (λ (request, options). op.Delete request options) (pair_at request_at options_at) bytes

abbrev pub put_at : List ℕ → Option (Op × List ℕ)
put_at bytes = made_at (λ (request, response). op.Put request response) (pair_at request_at response_at) bytes

-- own: what a byte says of the bytes behind it: the reader of the table that has this byte
abbrev pub chosen_at : {A : Type 0} → List (ℕ × (List ℕ → Option (A × List ℕ))) → ℕ → List ℕ → Option (A × List ℕ)
chosen_at [] tag bytes = None
chosen_at (form ∷ forms) tag bytes = if tag == form.0 then form.1 bytes else chosen_at forms tag bytes

-- own: a byte, and what the table says of it
abbrev pub tagged_at : {A : Type 0} → List (ℕ × (List ℕ → Option (A × List ℕ))) → List ℕ → Option (A × List ℕ)
tagged_at forms bytes = byte_at bytes >>= λ tag. chosen_at forms tag.0 tag.1

abbrev pub op_forms : List (ℕ × (List ℕ → Option (Op × List ℕ)))
op_forms = (1, delete_at) ∷ (2, put_at) ∷ []

unfoldable pub op_at : List ℕ → Option (Op × List ℕ)
op_at bytes = tagged_at op_forms bytes

-- ---- changes

abbrev pub names_at : List ℕ → Option ((List ℕ × List ℕ) × List ℕ)
names_at bytes = pair_at text_at text_at bytes

-- own: operations, at least one
abbrev pub some_ops : List Op → Option (List Op)
some_ops ops = if length ops == 0 then None else Some ops

abbrev pub ops_at : List ℕ → Option (List Op × List ℕ)
ops_at bytes = meant_at some_ops (counted_at op_at) bytes

unfoldable pub waiting_at : List ℕ → Option (Change × List ℕ)
waiting_at bytes =
    made_at (λ (front, body). change.Waiting front.0.0.0.0 front.0.0.0.1 front.0.0.1
    (record { script = front.0.1; kind = front.1; body = body }))
    (pair_at (pair_at (pair_at (pair_at names_at mode_at) text_at) kind_at) bytes_at) bytes

unfoldable pub active_at : List ℕ → Option (Change × List ℕ)
active_at bytes = made_at (λ (key, scope). change.Active key scope) names_at bytes

unfoldable pub activated_at : List ℕ → Option (Change × List ℕ)
activated_at bytes = made_at (λ (key, scope). change.Activated key scope) names_at bytes

unfoldable pub update_mode_at : List ℕ → Option (Change × List ℕ)
update_mode_at bytes = made_at (λ (names, mode). change.Mode names.0 names.1 mode) (pair_at names_at mode_at) bytes

unfoldable pub gone_at : List ℕ → Option (Change × List ℕ)
gone_at bytes = made_at (λ (key, scope). change.Gone key scope) names_at bytes

unfoldable pub cache_new_at : List ℕ → Option (Change × List ℕ)
cache_new_at bytes = made_at (λ (key, name). change.CacheNew key name) names_at bytes

unfoldable pub cache_drop_at : List ℕ → Option (Change × List ℕ)
cache_drop_at bytes = made_at (λ (key, name). change.CacheDrop key name) names_at bytes

unfoldable pub cache_ops_at : List ℕ → Option (Change × List ℕ)
cache_ops_at bytes = made_at (λ (names, ops). change.CacheOps names.0 names.1 ops) (pair_at names_at ops_at) bytes

unfoldable pub forgot_at : List ℕ → Option (Change × List ℕ)
forgot_at bytes = made_at change.Forgot text_at bytes

abbrev pub restarted_at : List ℕ → Option (Change × List ℕ)
restarted_at bytes = Some (change.Restarted, bytes)

unfoldable pub preload_at : List ℕ → Option (Change × List ℕ)
preload_at bytes =
    made_at (λ (front, text). change.Preload front.0.0 front.0.1 front.1 text)
    (pair_at (pair_at names_at flag_at) text_at) bytes

-- own: the tags, and the fields behind each
abbrev pub change_forms : List (ℕ × (List ℕ → Option (Change × List ℕ)))
change_forms =
    (1, waiting_at) ∷ (2, active_at) ∷ (3, activated_at) ∷ (4, update_mode_at) ∷ (5, gone_at) ∷ (6, cache_new_at)
    ∷ (7, cache_drop_at) ∷ (8, cache_ops_at) ∷ (9, forgot_at) ∷ (10, restarted_at) ∷ (11, preload_at) ∷ []

unfoldable pub change_at : List ℕ → Option (Change × List ℕ)
change_at bytes = tagged_at change_forms bytes

-- ---- payloads

-- own: these changes, and then what else is read
abbrev pub preceded : List Change → Result (List Change) ℕ → Result (List Change) ℕ
preceded changes (Ok others) = Ok (changes ++ others)
preceded changes (Err offset) = Err offset

-- own: what is read from an offset on where this was read there: a change that ends the bytes, or one that is followed by more
abbrev pub continued : (List ℕ → Result (List Change) ℕ) → ℕ → Option (Change × List ℕ) → Result (List Change) ℕ
continued next offset None = Err offset
continued next offset (Some one) = if length one.1 == 0 then Ok (one.0 ∷ []) else preceded (one.0 ∷ []) (next one.1)

-- own: what is read from this offset on. A change has more than no byte, so no more are read than there are bytes
unfoldable pub changes_within : ℕ → ℕ → List ℕ → Result (List Change) ℕ
changes_within zero offset bytes = Err offset
changes_within (suc steps) offset bytes =
    continued (λ rest. changes_within steps (offset + (length bytes - length rest)) rest) offset (change_at bytes)

-- own: the changes whose spellings, one after the other, are these bytes; or the offset of the first change from which on no
-- front of the bytes is a spelling. Bytes that are none are bad at 0
unfoldable pub read_changes : List ℕ → Result (List Change) ℕ
read_changes bytes = changes_within (length bytes) 0 bytes
