-- A line is read as its JSON value, and a lane gets an action.
use Rattle.std.specs.Prelude.{◌≡◌, ℕ, zero, suc, ◌<◌, ◌≤◌, List, [], ◌∷◌, ◌++◌, length, set, get_or, Option, Some, None, Result, Err, Bool, true, false, if◌then◌else◌, refl}
use Rattle.std.specs.Str.{IsUtf8, is_utf8}
use Rattle.std.proofs.Common.{arith, ap, sym, subst}
use Rattle.std.proofs.lemmas.Str.{IsUtf8-from_is_utf8, is_utf8-from_IsUtf8}
use Rattle.serde_json.specs.Data.{Data}
use Rattle.serde_json.specs.Read.{read}
use Rattle.sw_data.specs.declared.recordings.Action.{Action}
use Rattle.sw_forms.specs.declared.flaw.Flaw.{Flaw}
use Rattle.sw_forms.specs.Flaws.{no_json}
use Rattle.sw_record.specs.Grammar.{json_of, text_read, with_action}

json_of_is : (line : List ℕ) (value : Data) → IsUtf8 line → read line ≡ Some value → json_of line ≡ Some value
json_of_is line value text is =
    subst (λ (b : Bool). (if b then read line else None) ≡ Some value) (sym (is_utf8-from_IsUtf8 line text)) is

json_of_none : (line : List ℕ) → (IsUtf8 line → read line ≡ None) → json_of line ≡ None
json_of_none line none =
    elim (is_utf8 line) as (λ b. is_utf8 line ≡ b → (if b then read line else None) ≡ None) [
      | true ↦ λ is. none (IsUtf8-from_is_utf8 line is)
      | false ↦ λ is. refl
    ] refl

abbrev with_json : {R : Type 0} → (R → Data → Result R Flaw) → R → Option Data → Result R Flaw
with_json add so_far found = elim found [ Some value ↦ add so_far value | None ↦ Err no_json ]

-- a line that is read as a value is that value
pub text_read_is : {R : Type 0} (add : R → Data → Result R Flaw) (so_far : R) (line : List ℕ) (value : Data) →
    IsUtf8 line → read line ≡ Some value → text_read add so_far line ≡ add so_far value
text_read_is add so_far line value text is = ap (with_json add so_far) (json_of_is line value text is)

-- bytes that aren't UTF-8, or aren't read, are no JSON
pub text_read_none : {R : Type 0} (add : R → Data → Result R Flaw) (so_far : R) (line : List ℕ) →
    (IsUtf8 line → read line ≡ None) → text_read add so_far line ≡ Err no_json
text_read_none add so_far line none = ap (with_json add so_far) (json_of_none line none)

-- ---- lanes

-- an empty lane at the end, at or below a lane that gets an action, makes no difference
pub with_action_padded : (lane : ℕ) (next : Action) (lanes : List (List Action)) → length lanes ≤ lane →
    with_action lane next (lanes ++ [] ∷ []) ≡ with_action lane next lanes
with_action_padded zero next [] few = refl
with_action_padded zero next (first ∷ rest) few = absurd (omega (arith, few))
with_action_padded (suc below) next [] few = refl
with_action_padded (suc below) next (first ∷ rest) few =
    ap (λ more. first ∷ more) (with_action_padded below next rest (omega (arith, few)))

-- a lane that is there gets an action
pub with_action_set : (lane : ℕ) (next : Action) (lanes : List (List Action)) (none_there : List Action) →
    lane < length lanes →
    with_action lane next lanes ≡ set lanes lane (get_or lanes lane none_there ++ next ∷ [])
with_action_set zero next [] none_there below = absurd (omega (arith, below))
with_action_set zero next (first ∷ rest) none_there below = refl
with_action_set (suc lower) next [] none_there below = absurd (omega (arith, below))
with_action_set (suc lower) next (first ∷ rest) none_there below =
    ap (λ more. first ∷ more) (with_action_set lower next rest none_there (omega (arith, below)))
