-- A serialized address is resolved to itself, against any base that parses.
use Rattle.std.proofs.Common.{◌≡◌, ℕ, List, Some, None, Ok, Err, ap, ◌∙◌}
use Rattle.std.specs.Prelude.{Option, ok_or, option_map, option_and_then, IsSome}
use Rattle.url.specs.Parser.{Parsed, parse_url}
use Rattle.url.specs.Parts.{Parts, serialize, IsValid}
use Rattle.url.proofs.ParsedCanonical.{parse_url_canonical}
use Rattle.url.proofs.Theorems.{parse_url_idempotent}
use Rattle.sw_data.specs.Addresses.{Unparsed, address_of, joined, when_parsed, resolved}

parsed_ok : (answer : Parsed Parts) (url : Parts) → when_parsed answer ≡ Some url → answer ≡ Ok url
parsed_ok (Ok found) url e = cc
parsed_ok (Err fault) url e = cc

resolved_at : (found : Option Parts) → IsSome found → (url : Parts) → ((other : Option Parts) → parse_url other (serialize url) ≡ Ok url) → option_map serialize (option_and_then (joined (serialize url)) found) ≡ Some (serialize url)
resolved_at None none url parses = cc
resolved_at (Some base) some url parses = ap (λ answer. option_map serialize (when_parsed answer)) (parses (Some base))

-- an address that was parsed against a parsed base
pub resolved_again : (base url : Parts) (base_text text : List ℕ) → address_of base_text ≡ Some base → joined text base ≡ Some url → IsValid base → IsValid url → (other : List ℕ) → IsSome (address_of other) → resolved (serialize url) other ≡ Some (serialize url)
unfolding resolved
resolved_again base url base_text text base_parsed url_parsed base_valid url_valid other some =
    let base_ok = parsed_ok (parse_url None base_text) base base_parsed in
    let canonical = parse_url_canonical None base_text base tt base_valid base_ok in
    let url_ok = parsed_ok (parse_url (Some base) text) url url_parsed in
    resolved_at (address_of other) some url
    (λ against. parse_url_idempotent (Some base) against text url (base_valid, canonical) url_valid url_ok)

pub rule_is : {T : Type 0} (rule : Option T) (x : T) → ok_or rule Unparsed ≡ Ok x → rule ≡ Some x
rule_is None x e = cc
rule_is (Some found) x e = cc

-- the same, of what the calls answer
pub answered_again : (base url : Parts) (base_text text : List ℕ) → ok_or (address_of base_text) Unparsed ≡ Ok base → ok_or (joined text base) Unparsed ≡ Ok url → IsValid base → IsValid url → (other : List ℕ) → IsSome (address_of other) → resolved (serialize url) other ≡ Some (serialize url)
answered_again base url base_text text base_answer url_answer =
    resolved_again base url base_text text (rule_is (address_of base_text) base base_answer) (rule_is (joined text base) url url_answer)

-- and their value
pub answered : (base url : Parts) (base_text text : List ℕ) → ok_or (address_of base_text) Unparsed ≡ Ok base → ok_or (joined text base) Unparsed ≡ Ok url → ok_or (resolved text base_text) Unparsed ≡ Ok (serialize url)
unfolding resolved
answered base url base_text text base_answer url_answer =
    ap (λ found. ok_or (option_map serialize (option_and_then (joined text) found)) Unparsed) (rule_is (address_of base_text) base base_answer)
    ∙ ap (λ found. ok_or (option_map serialize found) Unparsed) (rule_is (joined text base) url url_answer)
