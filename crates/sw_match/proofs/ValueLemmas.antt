-- Combined values, line by line.
use Rattle.std.proofs.Common.{◌≡◌, ℕ, List, [], ◌∷◌, ◌++◌, ap, ◌∙◌, sym}
use Rattle.std.specs.Prelude.{codes}
use Rattle.std.specs.List.{flat_map}
use Rattle.std.proofs.lemmas.List.{append_assoc, append-nil}
use Rattle.std.specs.Prelude.{Some, None}
use Rattle.sw_data.specs.declared.exchange.Header.{Header}
use Rattle.sw_data.specs.Headers.{combined, combined_values, comma_joined, values_of}
use Rattle.sw_match.specs.Left.{further, marked}

-- a list of values joined is the first and what the others add
pub joined_further : (value : List ℕ) (rest : List (List ℕ)) → comma_joined (value ∷ rest) ≡ value ++ flat_map marked rest
joined_further value [] = sym (append-nil value)
joined_further value (next ∷ rest) =
    ap (λ more. (value ++ codes ", ") ++ more) (joined_further next rest)
    ∙ (append_assoc value (codes ", ") (next ++ flat_map marked rest)
    ∙ ap (λ more. value ++ more) (sym (append_assoc (codes ", ") next (flat_map marked rest))))

-- where no line has the name there is no combined value
pub combined_none : (name : List ℕ) (headers : List Header) → values_of name headers ≡ [] → combined name headers ≡ None
combined_none name headers none = ap combined_values none

-- the first line's value and what the others add
pub combined_first : (name : List ℕ) (headers rest : List Header) (value : List ℕ) → values_of name headers ≡ value ∷ values_of name rest → combined name headers ≡ Some (value ++ further name rest)
combined_first name headers rest value first = ap combined_values first ∙ ap Some (joined_further value (values_of name rest))
