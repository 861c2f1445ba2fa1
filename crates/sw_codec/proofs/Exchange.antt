-- Headers, requests, responses and operations: reading them is inverse to spelling them.
use Rattle.std.proofs.Common.{◌≡◌, ℕ, ◌^◌, Bool, true, ltb, List, [], ◌∷◌, ◌++◌, length, Option, Some, refl, sym, ap, subst, ◌∙◌}
use Rattle.std.specs.Int.{w32, to_be_bytes}
use Rattle.std.specs.List.{flat_map, list_all}
use Rattle.std.proofs.Math.Bool.{and-true}
use Rattle.std.proofs.lemmas.Bool.{and_parts, and_from}
use Rattle.sw_data.specs.declared.exchange.Header.{Header}
use Rattle.sw_data.specs.declared.exchange.Op.{Op}
use Rattle.sw_data.specs.declared.exchange.Op.TheVariants as op
use Rattle.sw_data.specs.declared.exchange.Options.{Options}
use Rattle.sw_data.specs.declared.exchange.Request.{Request}
use Rattle.sw_data.specs.declared.exchange.Response.{Response}
use Rattle.sw_codec.specs.Laws.{AreBytes}
use Rattle.sw_codec.specs.Reading.{◌>>=◌, number_at, items_at, counted_at, header_at, request_at, response_at, options_at, pair_at, delete_at, put_at, op_forms, op_at}
use Rattle.sw_codec.specs.Spelling.{counted_spelling, are_counted, header_spelling, is_header, request_spelling, is_request, response_spelling, is_response, op_spelling, is_op, options_byte}
use Rattle.sw_codec.proofs.Fields.{number16-spells, number32-spells, bytes-spells, text-spells, options-spells}
use Rattle.sw_codec.proofs.Readers.{bind_some, Takes, Takes-then, Spells, pair-spells, made-again, made-spells, items-take, items-again, Behind, behind_made, tagged-takes}

module _ {A : Type 0} {reader : List ℕ → Option (A × List ℕ)} {spelling : A → List ℕ} {has : A → Bool} (spells : Spells reader spelling has) where
  counted-takes : (bytes : List ℕ) (items : List A) (rest : List ℕ) → AreBytes bytes → counted_at reader bytes ≡ Some (items, rest)
      → Takes bytes (counted_spelling spelling items) rest × (are_counted has items ≡ true)
  unfolding counted_at
  counted-takes bytes items rest fits e =
      let a = bind_some (number_at w32 bytes) (λ count. items_at reader count.0 count.1) (items, rest) e in
      let first = number32-spells.takes bytes a.0.0 a.0.1 fits a.1 in
      let others = items-take spells a.0.0 a.0.1 items rest first.0.rest_fits a.2 in
      let both = Takes-then bytes (to_be_bytes w32 a.0.0) a.0.1 (flat_map spelling items) rest first.0 others.0 in (
        subst (λ (count : ℕ). Takes bytes (to_be_bytes w32 count ++ flat_map spelling items) rest) (sym others.1) both,
        and_from (ltb (length items) (2 ^ 32)) (list_all has items) (ap (λ (count : ℕ). ltb count (2 ^ 32)) others.1 ∙ first.1) others.2,
      )

  counted-again : (items : List A) (rest : List ℕ) → are_counted has items ≡ true → counted_at reader (counted_spelling spelling items ++ rest) ≡ Some (items, rest)
  unfolding counted_at
  counted-again items rest h =
      let hs = and_parts (ltb (length items) (2 ^ 32)) (list_all has items) h in
      ap (λ (r : Option (ℕ × List ℕ)). r >>= λ count. items_at reader count.0 count.1) (number32-spells.again (length items) (flat_map spelling items ++ rest) hs.0)
      ∙ items-again spells items rest hs.1

  pub counted-spells : Spells (counted_at reader) (counted_spelling spelling) (are_counted has)
  counted-spells = record { takes = counted-takes; again = counted-again }

header-spells : Spells header_at header_spelling is_header
unfolding header_at
header-spells =
    made-spells (λ (p : List ℕ × List ℕ). let line : Header = record { name = p.0; value = p.1 } in line) (λ line. (line.name, line.value)) header_spelling is_header
    (pair-spells text-spells text-spells) (λ line. refl) (λ p. refl) (λ p. refl)

request-spells : Spells request_at request_spelling is_request
unfolding request_at request_spelling is_request
request-spells =
    made-spells (λ (p : (List ℕ × List ℕ) × List Header). let request : Request = record { method = p.0.0; url = p.0.1; headers = p.1 } in request)
    (λ request. ((request.method, request.url), request.headers)) request_spelling is_request
    (pair-spells (pair-spells text-spells text-spells) (counted-spells header-spells)) (λ request. refl) (λ p. refl) (λ p. refl)

response-spells : Spells response_at response_spelling is_response
unfolding response_at response_spelling is_response
response-spells =
    made-spells (λ (p : (ℕ × List Header) × List ℕ). let response : Response = record { status = p.0.0; headers = p.0.1; body = p.1 } in response)
    (λ response. ((response.status, response.headers), response.body)) response_spelling is_response
    (pair-spells (pair-spells number16-spells (counted-spells header-spells)) bytes-spells) (λ response. refl) (λ p. refl) (λ p. refl)

delete-behind : Behind op_spelling is_op (1, delete_at)
unfolding op_spelling is_op
delete-behind =
    behind_made 1 (λ (p : Request × Options). op.Delete p.0 p.1) op_spelling is_op (pair-spells request-spells options-spells) (λ p. refl) (λ p. sym (and-true (is_request p.0)))

put-behind : Behind op_spelling is_op (2, put_at)
unfolding op_spelling is_op
put-behind =
    behind_made 2 (λ (p : Request × Response). op.Put p.0 p.1) op_spelling is_op (pair-spells request-spells response-spells) (λ p. refl) (λ p. refl)

op-takes : (bytes : List ℕ) (x : Op) (rest : List ℕ) → AreBytes bytes → op_at bytes ≡ Some (x, rest) → Takes bytes (op_spelling x) rest × (is_op x ≡ true)
unfolding op_at
op-takes bytes x rest fits e = tagged-takes op_spelling is_op op_forms bytes x rest (delete-behind, (put-behind, tt)) fits e

op-again : (x : Op) (rest : List ℕ) → is_op x ≡ true → op_at (op_spelling x ++ rest) ≡ Some (x, rest)
unfolding op_at op_spelling is_op
op-again (op.Delete request options) rest h =
    let spells = pair-spells request-spells options-spells in
    made-again (λ (p : Request × Options). op.Delete p.0 p.1) (pair_at request_at options_at) ((request_spelling request ++ options_byte options ∷ []) ++ rest) (request, options) rest (spells.again (request, options) rest (and-true (is_request request) ∙ h))
op-again (op.Put request response) rest h =
    let spells = pair-spells request-spells response-spells in
    made-again (λ (p : Request × Response). op.Put p.0 p.1) (pair_at request_at response_at) ((request_spelling request ++ response_spelling response) ++ rest) (request, response) rest (spells.again (request, response) rest h)

pub op-spells : Spells op_at op_spelling is_op
op-spells = record { takes = op-takes; again = op-again }
