-- The members of a JSON object, and values of one kind.
use Rattle.std.specs.Prelude.{ℕ, Bool, true, false, ◌&&◌, nat_le, List, [], ◌∷◌, ◌++◌, length, bytes_eq, Option, Some, None, option_map, option_and_then, Result, Ok, Err, if◌then◌else◌}
use Rattle.std.specs.List.{list_any}
use Rattle.serde_json.specs.Data.{Data, Items, no_items, item, Members, no_members, member}
use Rattle.serde_json.specs.Find.{as_array, as_bool, as_number, as_object, as_str, as_u64}
use Rattle.sw_forms.specs.declared.error.Limit.TheVariants as limit
use Rattle.sw_forms.specs.declared.flaw.Flaw.{Flaw}
use Rattle.sw_forms.specs.declared.flaw.Flaw.TheVariants as flaw
use Rattle.sw_forms.specs.Flaws.{both, made, needs, no_form}
use Rattle.sw_forms.specs.declared.limits.TheConstants.{TEXT_LIMIT}

-- ---- members

-- each member has one of the names
abbrev pub only : List (List ℕ) → Members → Bool
only names no_members = true
only names (member name value rest) = list_any (bytes_eq name) names && only names rest

-- an object, and each of its members has one of the names
abbrev pub has_only : List (List ℕ) → Data → Bool
has_only names value = elim (as_object value) [ Some members ↦ only names members | None ↦ false ]

-- a value that must be there
abbrev pub required : {A : Type 0} → (Data → Result A Flaw) → Option Data → Result A Flaw
required part None = Err no_form
required part (Some value) = part value

-- a value that may be absent
abbrev pub optional : {A : Type 0} → (Data → Result A Flaw) → Option Data → Result (Option A) Flaw
optional part None = Ok None
optional part (Some value) = made Some (part value)

-- a value that stands for another where it is absent
abbrev pub defaulted : {A : Type 0} → A → (Data → Result A Flaw) → Option Data → Result A Flaw
defaulted default part None = Ok default
defaulted default part (Some value) = part value

-- ---- values

-- a value of a kind
abbrev pub of_kind : {A : Type 0} → Option A → Result A Flaw
of_kind None = Err no_form
of_kind (Some part) = Ok part

-- a text
abbrev pub text_of : Data → Result (List ℕ) Flaw
text_of value = of_kind (as_str value)

-- a text within the limit of texts
abbrev pub short : List ℕ → Result (List ℕ) Flaw
short text = needs (nat_le (length text) TEXT_LIMIT) (flaw.Limit limit.Text) (Ok text)

-- a text of at most 4,096 bytes
abbrev pub short_text_of : Data → Result (List ℕ) Flaw
short_text_of value = elim (as_str value) [ Some text ↦ short text | None ↦ Err no_form ]

-- a number of 64 bits
abbrev pub as_count : Data → Option ℕ
as_count value = option_and_then as_u64 (as_number value)

abbrev pub count_of : Data → Result ℕ Flaw
count_of value = of_kind (as_count value)

abbrev pub small : ℕ → Result ℕ Flaw
small number = if nat_le number 4294967295 then Ok number else Err no_form

-- a number of 32 bits
abbrev pub number_of : Data → Result ℕ Flaw
number_of value = elim (as_count value) [ Some number ↦ small number | None ↦ Err no_form ]

-- a truth value
abbrev pub truth_of : Data → Result Bool Flaw
truth_of value = of_kind (as_bool value)

-- ---- lists

-- the values of an array
abbrev pub values_of : Items → List Data
values_of no_items = []
values_of (item value rest) = value ∷ values_of rest

abbrev pub as_list : Data → Option (List Data)
as_list value = option_map values_of (as_array value)

-- each of the values is such a part
abbrev pub each_of : {A : Type 0} → (Data → Result A Flaw) → List Data → Result (List A) Flaw
each_of part [] = Ok []
each_of part (value ∷ rest) = made (λ list. list.0 ∷ list.1) (both (part value) (each_of part rest))

-- the parts so far and a further one
abbrev pub with_part : {A : Type 0} → Result (List A) Flaw → Result A Flaw → Result (List A) Flaw
with_part parts next = made (λ both_parts. both_parts.0 ++ both_parts.1 ∷ []) (both parts next)

-- an array of such parts, within a limit on their count
abbrev pub list_of : {A : Type 0} → ℕ → Flaw → (Data → Result A Flaw) → Data → Result (List A) Flaw
list_of most why part value =
    elim (as_list value) [
      | Some values ↦ needs (nat_le (length values) most) why (each_of part values)
      | None ↦ Err no_form
    ]
