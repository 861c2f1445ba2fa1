-- The members of Vary, line by line and part by part.
use Rattle.std.proofs.Common.{◌≡◌, ℕ, ◌<◌, Bool, false, List, [], ◌∷◌, ◌++◌, map, length, filter, refl, inl, inr, ap, ◌∙◌, sym, arith}
use Rattle.std.specs.Prelude.{codes, not, ◌&&◌, ◌||◌, ◌==◌, bytes_eq, option_to_list}
use Rattle.std.specs.List.{flat_map, list_any, list_all, slice_split, onto_first}
use Rattle.std.proofs.lemmas.Bool.{cases_Bool}
use Rattle.std.proofs.lemmas.Bool.Decides.{nat_tests}
use Rattle.std.proofs.lemmas.List.{append_assoc, append-nil}
use Rattle.std.proofs.lemmas.List.Splits.{length-slice_split}
use Rattle.std.proofs.lemmas.List.Folds.{list_all-append}
use Rattle.http_header.specs.Token.{lowercase}
use Rattle.std.specs.Char.{to_ascii_lowercase}
use Rattle.std.specs.Option.{option_eq}
use Rattle.sw_data.specs.declared.exchange.Header.{Header}
use Rattle.sw_data.specs.declared.exchange.Response.{Response}
use Rattle.sw_data.specs.Headers.{combined_values, comma_joined, named_lines, members_of, same_name, trimmed, values_of, vary_members}
use Rattle.sw_rules.specs.Matching.{same_values, vary_allows, varies_on_all}
use Rattle.sw_match.specs.Left.{agrees, is_star}

abbrev parts : List ℕ → List (List ℕ)
parts text = slice_split (λ b. b == 44) text

abbrev of_parts : List (List ℕ) → List (List ℕ)
of_parts list = filter (λ name. not (length name == 0)) (map (λ part. lowercase (trimmed part)) list)

onto_append : (x : ℕ) (list more : List (List ℕ)) → 0 < length list → onto_first x (list ++ more) ≡ onto_first x list ++ more
onto_append x [] more some = absurd (omega arith)
onto_append x (part ∷ list) more some = refl

parts_comma : (front back : List ℕ) → parts (front ++ 44 ∷ back) ≡ parts front ++ parts back
parts_comma [] back = refl
parts_comma (x ∷ front) back = elim (cases_Bool (x == 44)) [
  | inl e ↦ rw e (ap (λ list. [] ∷ list) (parts_comma front back))
  | inr e ↦ rw e (ap (onto_first x) (parts_comma front back) ∙ onto_append x (parts front) (parts back) (omega (arith, length-slice_split (λ b. b == 44) front)))
]

members_append : (list more : List (List ℕ)) → of_parts (list ++ more) ≡ of_parts list ++ of_parts more
members_append [] more = refl
members_append (part ∷ list) more = elim (cases_Bool (length (lowercase (trimmed part)) == 0)) [
  | inl e ↦ rw e (members_append list more)
  | inr e ↦ rw e (ap (λ rest. lowercase (trimmed part) ∷ rest) (members_append list more))
]

onto_blank : (list : List (List ℕ)) → of_parts (onto_first 32 list) ≡ of_parts list
onto_blank [] = refl
onto_blank (part ∷ list) = refl

members_joined : (value : List ℕ) (rest : List (List ℕ)) → members_of (comma_joined (value ∷ rest)) ≡ flat_map members_of (value ∷ rest)
members_joined value [] = sym (append-nil (members_of value))
members_joined value (next ∷ rest) =
    ap members_of (append_assoc value (codes ", ") (comma_joined (next ∷ rest)))
    ∙ (ap of_parts (parts_comma value (32 ∷ comma_joined (next ∷ rest)))
    ∙ (members_append (parts value) (parts (32 ∷ comma_joined (next ∷ rest)))
    ∙ ap (λ more. members_of value ++ more) (onto_blank (parts (comma_joined (next ∷ rest))) ∙ members_joined next rest)))

members_values : (values : List (List ℕ)) → flat_map members_of (option_to_list (combined_values values)) ≡ flat_map members_of values
members_values [] = refl
members_values (value ∷ rest) = append-nil (members_of (comma_joined (value ∷ rest))) ∙ members_joined value rest

-- the members of Vary are those of its lines
members_lines : (headers : List Header) → vary_members headers ≡ flat_map members_of (values_of (codes "vary") headers)
members_lines headers = members_values (values_of (codes "vary") headers)

list_any-append : {X : Type 0} (test : X → Bool) (xs ys : List X) → list_any test (xs ++ ys) ≡ (list_any test xs || list_any test ys)
list_any-append test [] ys = refl
list_any-append test (x ∷ xs) ys = elim (cases_Bool (test x)) [
  | inl e ↦ rw e refl
  | inr e ↦ rw e (list_any-append test xs ys)
]

any_values : (test : List ℕ → Bool) (name : List ℕ) (headers : List Header)
    → list_any test (flat_map members_of (values_of name headers)) ≡ list_any (λ line. same_name line.name name && list_any test (members_of line.value)) headers
any_values test name [] = refl
any_values test name (line ∷ headers) = elim (cases_Bool (same_name line.name name)) [
  | inl e ↦ rw e (list_any-append test (members_of line.value) (flat_map members_of (values_of name headers)) ∙ ap (λ b. list_any test (members_of line.value) || b) (any_values test name headers))
  | inr e ↦ rw e (any_values test name headers)
]

all_values : (test : List ℕ → Bool) (name : List ℕ) (headers : List Header)
    → list_all test (flat_map members_of (values_of name headers)) ≡ list_all (λ line. not (same_name line.name name) || list_all test (members_of line.value)) headers
all_values test name [] = refl
all_values test name (line ∷ headers) = elim (cases_Bool (same_name line.name name)) [
  | inl e ↦ rw e (list_all-append test (members_of line.value) (flat_map members_of (values_of name headers)) ∙ ap (λ b. list_all test (members_of line.value) && b) (all_values test name headers))
  | inr e ↦ rw e (all_values test name headers)
]

any_parts : (list : List (List ℕ)) → list_any (bytes_eq (codes "*")) (of_parts list) ≡ list_any is_star list
any_parts [] = refl
any_parts (part ∷ list) = by (lowercase (trimmed part)) (any_parts list)
  where
    by : (member : List ℕ) → list_any (bytes_eq (codes "*")) (of_parts list) ≡ list_any is_star list
        → list_any (bytes_eq (codes "*")) (filter (λ name. not (length name == 0)) (member ∷ map (λ part. lowercase (trimmed part)) list)) ≡ (bytes_eq (codes "*") member || list_any is_star list)
    by [] rest = rest
    by (b ∷ member) rest = let some : (length (b ∷ member) == 0) ≡ false = grind (arith, nat_tests) in rw some (ap (λ other. bytes_eq (codes "*") (b ∷ member) || other) rest)

lower_twice : (name : List ℕ) → lowercase (lowercase name) ≡ lowercase name
lower_twice [] = refl
lower_twice (b ∷ name) = λ i. lower_byte b i ∷ lower_twice name i
  where
    lower_byte : (b : ℕ) → to_ascii_lowercase (to_ascii_lowercase b) ≡ to_ascii_lowercase b
    lower_byte b = grind (arith, nat_tests)

lines_any_case : (name : List ℕ) (headers : List Header) → named_lines (lowercase name) headers ≡ named_lines name headers
lines_any_case name [] = refl
lines_any_case name (line ∷ headers) = rw (lower_twice name) (elim (cases_Bool (same_name line.name name)) [
  | inl e ↦ rw e (ap (λ rest. line ∷ rest) (lines_any_case name headers))
  | inr e ↦ rw e (lines_any_case name headers)
])

same_any_case : (left right : List Header) (name : List ℕ) → same_values left right (lowercase name) ≡ same_values left right name
same_any_case left right name = λ i. option_eq bytes_eq (combined_values (map (λ line. line.value) (lines_any_case name left i))) (combined_values (map (λ line. line.value) (lines_any_case name right i)))

all_parts : (query item : List Header) (list : List (List ℕ)) → list_all (same_values query item) (of_parts list) ≡ list_all (agrees query item) list
all_parts query item [] = refl
all_parts query item (part ∷ list) = by (trimmed part) (all_parts query item list)
  where
    by : (member : List ℕ) → list_all (same_values query item) (of_parts list) ≡ list_all (agrees query item) list
        → list_all (same_values query item) (filter (λ name. not (length name == 0)) (lowercase member ∷ map (λ part. lowercase (trimmed part)) list)) ≡ ((length member == 0 || same_values query item member) && list_all (agrees query item) list)
    by [] rest = rest
    by (b ∷ member) rest =
        let some : (length (b ∷ member) == 0) ≡ false = grind (arith, nat_tests) in
        let lower : (length (lowercase (b ∷ member)) == 0) ≡ false = grind (arith, nat_tests) in
        rw (some, lower) (λ i. same_any_case query item (b ∷ member) i && rest i)

-- a `*` is looked for line by line
pub star_lines : (headers : List Header) → varies_on_all headers ≡ list_any (λ line. same_name line.name (codes "vary") && list_any is_star (parts line.value)) headers
star_lines headers =
    ap (list_any (bytes_eq (codes "*"))) (members_lines headers)
    ∙ (any_values (bytes_eq (codes "*")) (codes "vary") headers
    ∙ ap (λ test. list_any test headers) (λ i line. same_name line.name (codes "vary") && any_parts (parts line.value) i))

-- the members are compared line by line
pub allow_lines : (query item : List Header) (response : Response)
    → vary_allows query item response ≡ (not (varies_on_all response.headers) && list_all (λ line. not (same_name line.name (codes "vary")) || list_all (agrees query item) (parts line.value)) response.headers)
allow_lines query item response =
    ap (λ b. not (varies_on_all response.headers) && b)
    (ap (list_all (same_values query item)) (members_lines response.headers)
    ∙ (all_values (same_values query item) (codes "vary") response.headers
    ∙ ap (λ test. list_all test response.headers) (λ i line. not (same_name line.name (codes "vary")) || all_parts query item (parts line.value) i)))
