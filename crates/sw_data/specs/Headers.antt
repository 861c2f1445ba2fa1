-- Header lists: names, values, methods, combined values and the members of Vary.
use Rattle.std.specs.Prelude.{ℕ, Bool, not, ◌&&◌, ◌||◌, ◌==◌, nat_lt, List, [], ◌∷◌, ◌++◌, map, filter, find, reverse, length, codes, bytes_eq, Option, Some, None, option_map, option_to_list, flat_map, if◌then◌else◌}
use Rattle.std.specs.List.{slice_split, list_any, list_all}
use Rattle.std.specs.Char.{to_ascii_uppercase}
use Rattle.http_header.specs.FieldName.{is_field_name}
use Rattle.http_header.specs.Token.{tab, space, lowercase, token_test, is_value_byte}
use Rattle.sw_data.specs.declared.exchange.Header.{Header}

-- a space or a tab (Fetch, 2.1, "HTTP tab or space")
abbrev pub is_ows : ℕ → Bool
is_ows b = b == space || b == tab

-- bytes without the spaces and tabs at their front
abbrev pub trimmed_front : List ℕ → List ℕ
trimmed_front [] = []
trimmed_front (b ∷ rest) = if is_ows b then trimmed_front rest else b ∷ rest

-- bytes without the spaces and tabs at their end
abbrev pub trimmed_back : List ℕ → List ℕ
trimmed_back bytes = reverse (trimmed_front (reverse bytes))

-- bytes without the spaces and tabs at both ends (Fetch, 2.2.2, "normalize")
abbrev pub trimmed : List ℕ → List ℕ
trimmed bytes = trimmed_back (trimmed_front bytes)

-- names of fields are equal in any case of their ASCII letters (Fetch, 2.2.2, "contains")
abbrev pub same_name : List ℕ → List ℕ → Bool
same_name left right = bytes_eq (lowercase left) (lowercase right)

-- the lines of a field, in order
abbrev pub named_lines : List ℕ → List Header → List Header
named_lines name headers = filter (λ line. same_name line.name name) headers

-- the values of a field, in order (Fetch, 2.2.2, "get")
abbrev pub values_of : List ℕ → List Header → List (List ℕ)
values_of name headers = map (λ line. line.value) (named_lines name headers)

-- values joined by a comma and a space
abbrev pub comma_joined : List (List ℕ) → List ℕ
comma_joined [] = []
comma_joined (value ∷ []) = value
comma_joined (value ∷ next ∷ rest) = value ++ codes ", " ++ comma_joined (next ∷ rest)

-- what a list of values comes to: none where there is no value
abbrev pub combined_values : List (List ℕ) → Option (List ℕ)
combined_values [] = None
combined_values (value ∷ rest) = Some (comma_joined (value ∷ rest))

-- the combined value of a field: its values in order, joined by a comma and a space; none where no line has the name (Fetch, 2.2.2, "get")
abbrev pub combined : List ℕ → List Header → Option (List ℕ)
combined name headers = combined_values (values_of name headers)

-- the members of a list of names: the parts between commas, trimmed and lower-cased, without the empty ones (HTTP Semantics, RFC 9110, 5.6.1)
abbrev pub members_of : List ℕ → List (List ℕ)
members_of text =
    filter (λ name. not (length name == 0))
    (map (λ part. lowercase (trimmed part)) (slice_split (λ b. b == 44) text))

-- the members of the combined Vary value; none where there is no Vary line (HTTP Semantics, RFC 9110, 12.5.5)
abbrev pub vary_members : List Header → List (List ℕ)
vary_members headers = flat_map members_of (option_to_list (combined (codes "vary") headers))

-- the value of the first line of a field (own: of several lines the first)
abbrev pub first_value : List ℕ → List Header → Option (List ℕ)
first_value name headers = option_map (λ line. line.value) (find (λ line. same_name line.name name) headers)

-- the value of the last line of a field (own: of several lines the last)
abbrev pub last_value : List ℕ → List Header → Option (List ℕ)
last_value name headers = first_value name (reverse headers)

-- ---- what a request or a response may hold

-- a token: one or more of its characters (HTTP Semantics, RFC 9110, 5.6.2)
abbrev pub is_token : List ℕ → Bool
is_token bytes = nat_lt 0 (length bytes) && list_all token_test bytes

-- a field's value: bytes from 32 on, without 127, and tabs (HTTP Semantics, RFC 9110, 5.5)
abbrev pub is_value : List ℕ → Bool
is_value bytes = list_all is_value_byte bytes

-- each name is a token of at most 65,535 bytes (HTTP Semantics, RFC 9110, 5.1; the length is own)
abbrev pub good_names : List Header → Bool
good_names headers = list_all (λ line. is_field_name line.name) headers

-- each value is a field's value
abbrev pub good_values : List Header → Bool
good_values headers = list_all (λ line. is_value line.value) headers

-- bytes with each ASCII letter in upper case (Infra, 4.4, "byte-uppercase")
abbrev pub uppercase : List ℕ → List ℕ
uppercase bytes = map to_ascii_uppercase bytes

-- the methods that are written in capitals (Fetch, 2.2.1, "normalize")
abbrev pub capital_methods : List (List ℕ)
capital_methods =
    codes "DELETE" ∷ codes "GET" ∷ codes "HEAD" ∷ codes "OPTIONS" ∷ codes "POST" ∷ codes "PUT" ∷ []

-- a method as it is kept: six of them in capitals, any other as it is written (Fetch, 2.2.1, "normalize")
abbrev pub normal_method : List ℕ → List ℕ
normal_method method =
    if list_any (bytes_eq (uppercase method)) capital_methods then uppercase method else method

-- a line as it is kept: its name in lower case, its value without spaces and tabs at both ends (Fetch, 2.2.2, "normalize"; names in lower case are own)
abbrev pub normal_line : Header → Header
normal_line line = record { name = lowercase line.name; value = trimmed line.value }

-- the lines of a list as they are kept
abbrev pub normal_lines : List Header → List Header
normal_lines headers = map normal_line headers
