-- The serialized origin of an http or https address holds no `^`, so a key's partition begins at its first.
use Rattle.std.proofs.Common.{◌≡◌, ℕ, ◌<◌, ◌^◌, Bool, true, ◌==◌, not, List, [], ◌∷◌, ◌++◌, length, take, append_assoc, Some, None, Ok, ◌||◌, refl, ap, sym, ◌∙◌, subst, ⊎_elim, arith}
use Rattle.std.specs.Prelude.{All, Option, option_and_then, bytes_eq, ok_or, IfSome, unwrap_or, option_map, decimal, codes, nat_eq}
use Rattle.std.specs.Option.{option_or, option_eq}
use Rattle.std.specs.List.{before_first}
use Rattle.std.proofs.lemmas.Bool.{cond_both, or_cases}
use Rattle.std.proofs.lemmas.Slice.Eq.{bytes_eq-Decides}
use Rattle.std.proofs.lemmas.Bool.Decides.{nat_tests}
use Rattle.std.proofs.lemmas.Fmt.{digits_decimal}
use Rattle.std.proofs.lemmas.List.{take_all, take_at, get_or_append_left, get_or_at}
use Rattle.std.proofs.lemmas.List.Elements.{All-nil, All-append, All-from_get_or}
use Rattle.std.proofs.lemmas.List.Sums.{position_or_len_is, AllPass-from_list_all}
use Rattle.std.proofs.lemmas.Grind.{common_steps}
use Rattle.std.proofs.lemmas.Str.Parse.{numerals_by_value, tells_by_index}
use Rattle.url.specs.declared.host.Host.{Host}
use Rattle.url.specs.declared.scheme.SchemeType.{SchemeType}
use Rattle.url.specs.declared.scheme.SchemeType.TheVariants.{SpecialNotFile}
use Rattle.url.specs.declared.sets.TheConstants.{FORBIDDEN_HOST, FORBIDDEN_DOMAIN}
use Rattle.url.specs.Host.{host_text, IsHostOf}
use Rattle.url.specs.Origin.{is_http, own_origin, tuple_of_kind, ascii_serialization}
use Rattle.url.specs.Parts.{Parts, kind_of, host_or_empty, IsValid, IsPortOf}
use Rattle.url.specs.Scheme.{default_port, is_special}
use Rattle.url.proofs.HostLemmas.{All-host_text}
use Rattle.url.proofs.SetLemmas.{passes_from_kept}
use Rattle.url.proofs.SetterLemmas.{own_host}
use Rattle.url.proofs.ValidLemmas.{special_has_authority}
use Rattle.sw_data.specs.Addresses.{Unparsed, address_of, origin_of, parsed_origin}
use Rattle.sw_data.specs.Keys.{partitioned, key_origin}
use Rattle.sw_url.proofs.AgainLemmas.{special_kind}
use Rattle.sw_url.proofs.ResolvedLemmas.{rule_is}

-- any byte but `^`
abbrev is_plain : ℕ → Bool
is_plain b = not (b == 94)

abbrev Plain : ℕ → Type 0
Plain b = is_plain b ≡ true

plain_host : (kind : SchemeType) (host : Host (List ℕ)) → IsHostOf kind host → All Plain (host_text host)
plain_host kind host is_host =
    All-host_text Plain kind host (passes_from_kept FORBIDDEN_DOMAIN is_plain refl) (λ b allowed visible. passes_from_kept FORBIDDEN_HOST is_plain refl b allowed)
    (λ b digit. grind (arith, nat_tests)) (λ b hex. grind (arith, nat_tests)) refl refl is_host

plain_digits : (n : ℕ) → n < 2 ^ 16 → All Plain (decimal n)
plain_digits n small =
    All-from_get_or Plain (decimal n) 0 (λ i inside. let digit = digits_decimal (numerals_by_value _ tells_by_index) n (omega (arith, small)) i inside in grind (arith, nat_tests))

default_small : (scheme : List ℕ) → unwrap_or (default_port scheme) 0 < 2 ^ 16
unfolding default_port
default_small scheme =
    let Small : Option ℕ → Type 0 = λ port. unwrap_or port 0 < 2 ^ 16 in
    let http : Small (Some 80) = omega arith in
    let https : Small (Some 443) = omega arith in
    let ftp : Small (Some 21) = omega arith in
    let none : Small None = omega arith in
    cond_both (bytes_eq scheme (codes "http") || bytes_eq scheme (codes "ws")) (Some 80) _ Small (λ _. http) (λ _.
    cond_both (bytes_eq scheme (codes "https") || bytes_eq scheme (codes "wss")) (Some 443) _ Small (λ _. https) (λ _.
    cond_both (bytes_eq scheme (codes "ftp")) (Some 21) None Small (λ _. ftp) (λ _. none)))

port_small : (scheme : List ℕ) (port : Option ℕ) → IsPortOf scheme port → unwrap_or (option_or port (default_port scheme)) 0 < 2 ^ 16
port_small scheme None valid = default_small scheme
port_small scheme (Some n) valid = valid.0

plain_scheme : (scheme : List ℕ) → is_http scheme ≡ true → All Plain scheme
plain_scheme scheme http =
    ⊎_elim
    (λ e. subst (All Plain) (sym ((bytes_eq-Decides scheme (codes "http")).0 e)) (AllPass-from_list_all is_plain (codes "http") refl))
    (λ e. subst (All Plain) (sym ((bytes_eq-Decides scheme (codes "https")).0 e)) (AllPass-from_list_all is_plain (codes "https") refl))
    (or_cases _ _ http)

-- the text of a scheme, a host and a port
plain_text : (scheme : List ℕ) (host : Host (List ℕ)) (port : ℕ) → All Plain scheme → All Plain (host_text host) → port < 2 ^ 16 → All Plain (ascii_serialization (Some (scheme, host, port)))
plain_text scheme host port plain_s plain_h small =
    All-append Plain ((scheme ++ codes "://") ++ host_text host) _
    (All-append Plain (scheme ++ codes "://") (host_text host)
    (All-append Plain scheme (codes "://") plain_s (AllPass-from_list_all is_plain (codes "://") refl)) plain_h)
    (cond_both (option_eq nat_eq (default_port scheme) (Some port)) [] (codes ":" ++ decimal port) (All Plain) (λ _. All-nil Plain) (λ _. All-append Plain (codes ":") (decimal port) (AllPass-from_list_all is_plain (codes ":") refl) (plain_digits port small)))

plain_tuple : (url : Parts) → IsValid url → is_http url.scheme ≡ true → (kind : SchemeType) → kind ≡ SpecialNotFile → kind_of url ≡ kind → All Plain (ascii_serialization (tuple_of_kind SpecialNotFile url))
plain_tuple url valid http kind special own =
    let authority = special_has_authority url valid.head (ap is_special (own ∙ special)) in
    plain_text url.scheme (host_or_empty url) _ (plain_scheme url.scheme http)
    (plain_host (kind_of url) (host_or_empty url) (own_host url valid.head authority))
    (port_small url.scheme url.port valid.head.port)

-- the serialized origin of a valid http or https address
plain_origin : (url : Parts) → IsValid url → is_http url.scheme ≡ true → All Plain (ascii_serialization (own_origin url))
plain_origin url valid http =
    let special = special_kind url.scheme http in
    subst (λ kind. All Plain (ascii_serialization (tuple_of_kind kind url))) (sym special)
    (plain_tuple url valid http (kind_of url) special refl)

-- bytes without `^` stand before the first `^` of what they begin
whole_before : (xs : List ℕ) → All Plain xs → before_first (λ b. b == 94) xs ≡ xs
whole_before xs plain =
    ap (λ n. take n xs) (position_or_len_is (λ b. b == 94) xs (length xs) 0 (omega arith) (λ k inside. let ok = plain k 0 inside in grind (arith, nat_tests)) (λ past. absurd (omega arith)))
    ∙ take_all (length xs) xs (omega arith)

front_before : (xs ys : List ℕ) → All Plain xs → before_first (λ b. b == 94) (xs ++ (94 ∷ ys)) ≡ xs
front_before xs ys plain =
    ap (λ n. take n (xs ++ (94 ∷ ys))) (position_or_len_is (λ b. b == 94) (xs ++ (94 ∷ ys)) (length xs) 0 (grind (arith, common_steps))
    (λ k inside. let ok = plain k 0 inside in rw get_or_append_left (grind (arith, nat_tests)))
    (λ _. rw (get_or_at xs 94 ys 0 (length xs) refl) refl))
    ∙ take_at xs (94 ∷ ys) (length xs) refl

key_front : (origin : List ℕ) (partition : Option (List ℕ)) → All Plain origin → key_origin (partitioned partition origin) ≡ origin
key_front origin None plain = whole_before origin plain
key_front origin (Some partition) plain =
    ap (before_first (λ b. b == 94)) (append_assoc origin (codes "^") partition) ∙ front_before origin partition plain

-- what stands before the first `^` of a key is the origin of its address
pub key_origin_is : (found : Option Parts) (partition : Option (List ℕ)) → IfSome found IsValid → option_map key_origin (option_map (partitioned partition) (option_and_then parsed_origin found)) ≡ option_and_then parsed_origin found
key_origin_is None partition valid = refl
key_origin_is (Some url) partition valid =
    cond_both (is_http url.scheme) (Some (ascii_serialization (own_origin url))) None (λ origin. option_map key_origin (option_map (partitioned partition) origin) ≡ origin)
    (λ http. ap Some (key_front (ascii_serialization (own_origin url)) partition (plain_origin url valid http)))
    (λ other. refl)

-- the same, of what the calls answer
pub key_origin_answer : (url : Parts) (address origin key : List ℕ) (partition : Option (List ℕ)) → IsValid url → ok_or (address_of address) Unparsed ≡ Ok url → Some origin ≡ parsed_origin url → key ≡ partitioned partition origin → Some (key_origin key) ≡ origin_of address
unfolding origin_of
key_origin_answer url address origin key partition valid answer origin_is key_is =
    ap (λ k. Some (key_origin k)) key_is
    ∙ ap (λ o. option_map key_origin (option_map (partitioned partition) o)) origin_is
    ∙ key_origin_is (Some url) partition valid
    ∙ ap (option_and_then parsed_origin) (sym (rule_is (address_of address) url answer))
