-- An accepted address parses to itself, against any base.
use Rattle.std.proofs.Common.{◌≡◌, ℕ, true, false, ⊎_elim, List, [], append-nil, Some, None, Ok, refl, ap, sym, ◌∙◌}
use Rattle.std.specs.Prelude.{Option, Result, Err, IfOk, option_map, option_and_then, ok_or, codes, IsSome, nat_eq}
use Rattle.std.specs.List.{starts_with}
use Rattle.std.proofs.lemmas.Bool.{or_cases}
use Rattle.std.proofs.lemmas.Bool.Decides.{Decides-eqb}
use Rattle.std.proofs.lemmas.Slice.Eq.{bytes_eq-Decides, starts_is}
use Rattle.std.specs.Option.{option_map_or}
use Rattle.url.specs.declared.scheme.SchemeType.TheVariants.{SpecialNotFile}
use Rattle.url.specs.Origin.{is_http}
use Rattle.url.specs.Parser.{parse_url}
use Rattle.url.specs.Parts.{Parts, serialize, IsValid}
use Rattle.url.specs.Scheme.{scheme_type, default_port}
use Rattle.url.proofs.Theorems.{parse_url-serialize_special}
use Rattle.sw_url.specs.Answers.{Answers}
use Rattle.sw_url.specs.declared.fault.UrlFault.{UrlFault}
use Rattle.sw_data.specs.Addresses.{Unparsed, accepted, address_of, joined, path_of, no_fragment, parsed_against, when_parsed, script_address, scope_bound, is_within_bound}

-- a valid address is valid without its fragment
valid_bare : (url : Parts) → IsValid url → IsValid (no_fragment url)
valid_bare url valid = record {
  head = record {
    scheme = valid.head.scheme;
    username = valid.head.username;
    password = valid.head.password;
    host = valid.head.host;
    port = valid.head.port;
    bare = valid.head.bare;
  };
  path = valid.path;
  query = valid.query;
  fragment = tt;
}

http_kind : (scheme : List ℕ) → scheme ≡ codes "http" → scheme_type scheme ≡ SpecialNotFile
unfolding scheme_type default_port
http_kind scheme e = ap scheme_type e

https_kind : (scheme : List ℕ) → scheme ≡ codes "https" → scheme_type scheme ≡ SpecialNotFile
unfolding scheme_type default_port
https_kind scheme e = ap scheme_type e

pub special_kind : (scheme : List ℕ) → is_http scheme ≡ true → scheme_type scheme ≡ SpecialNotFile
special_kind scheme http =
    ⊎_elim (λ e. http_kind scheme ((bytes_eq-Decides scheme (codes "http")).0 e))
    (λ e. https_kind scheme ((bytes_eq-Decides scheme (codes "https")).0 e))
    (or_cases _ _ http)

-- the text of an http or https address without fragment parses to that address, against any base or none
pub parses_bare : (url : Parts) (base : Option Parts) → IsValid url → is_http url.scheme ≡ true → when_parsed (parse_url base (serialize (no_fragment url))) ≡ Some (no_fragment url)
parses_bare url base valid http =
    ap when_parsed (parse_url-serialize_special (no_fragment url) base (valid_bare url valid) (special_kind url.scheme http))

-- a rule that has a value is that value
pub parsed_some : (rule : Option Parts) (url : Parts) → ok_or rule Unparsed ≡ Ok url → rule ≡ Some url
parsed_some None url e = cc
parsed_some (Some found) url e = cc

accepted_bare : (rule : Option Parts) → accepted (option_map no_fragment rule) ≡ accepted rule
accepted_bare None = refl
accepted_bare (Some url) = refl

again_at : (found : Option Parts) → IsSome found → (rule : Option Parts) (address : List ℕ) → accepted rule ≡ Ok address → ((base : Option Parts) → when_parsed (parse_url base address) ≡ option_map no_fragment rule) → accepted (option_and_then (joined address) found) ≡ Ok address
again_at None none rule address ok parses = cc
again_at (Some base) some rule address ok parses = ap accepted (parses (Some base)) ∙ accepted_bare rule ∙ ok

-- an accepted address is accepted again, as it is, against any base that parses
pub again : (rule : Option Parts) (address : List ℕ) → accepted rule ≡ Ok address → ((base : Option Parts) → when_parsed (parse_url base address) ≡ option_map no_fragment rule) → (other : List ℕ) → IsSome (address_of other) → script_address address other ≡ Ok address
unfolding script_address
again rule address ok parses other some = again_at (address_of other) some rule address ok parses

starts_itself : (path : List ℕ) → starts_with nat_eq path path ≡ true
starts_itself path = (starts_is Decides-eqb path path _ refl).1 [] (sym (append-nil path))

within_at : (rule : Option Parts) (address bound : List ℕ) → accepted rule ≡ Ok address → ((base : Option Parts) → when_parsed (parse_url base address) ≡ option_map no_fragment rule) → option_map path_of rule ≡ Some bound → is_within_bound address bound ≡ true
unfolding is_within_bound
within_at None address bound ok parses bounded = cc
within_at (Some url) address bound ok parses bounded =
    let same : url.path ≡ bound = cc in
    ap (λ found. option_map_or (λ (u : Parts). starts_with nat_eq u.path bound) found false) (parses None)
    ∙ ap (λ b. starts_with nat_eq url.path b) (sym same) ∙ starts_itself url.path

-- the default scope of a script is within its bound
pub default_within : (script address : List ℕ) → accepted (parsed_against (codes "./") script) ≡ Ok address → ((base : Option Parts) → when_parsed (parse_url base address) ≡ option_map no_fragment (parsed_against (codes "./") script)) → (bound : List ℕ) → scope_bound script None ≡ Some bound → is_within_bound address bound ≡ true
unfolding scope_bound
default_within script address ok parses bound bounded = within_at (parsed_against (codes "./") script) address bound ok parses bounded

-- `again`, of a call's answer
pub again_answer : (result : Result (List ℕ) UrlFault) (rule : Option Parts) → Answers result (accepted rule) → IfOk result (λ address. (base : Option Parts) → when_parsed (parse_url base address) ≡ option_map no_fragment rule) → IfOk result (λ address. (other : List ℕ) → IsSome (address_of other) → script_address address other ≡ Ok address)
again_answer (Ok address) rule ok parses = again rule address ok parses
again_answer (Err fault) rule ok parses = tt
