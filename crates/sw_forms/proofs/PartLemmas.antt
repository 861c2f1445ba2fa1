-- Parts that are read one after another.
use Rattle.std.specs.Prelude.{◌≡◌, ℕ, ◌+◌, ◌<◌, ◌++◌, length, get_or, List, [], ◌∷◌, drop, map, Result, Ok, Err, refl}
use Rattle.std.proofs.Common.{arith, ap, sym, ◌∙◌}
use Rattle.std.proofs.lemmas.Bool.Decides.{leb_tells}
use Rattle.std.proofs.lemmas.List.{append_assoc, drop_more}
use Rattle.serde_json.specs.Data.{Data}
use Rattle.serde_json.specs.View.{items_view, view}
use Rattle.serde_json.specs.declared.value.Value.{Value}
use Rattle.sw_forms.specs.declared.flaw.Flaw.{Flaw}
use Rattle.sw_forms.specs.Flaws.{both, first_of, made, rank}
use Rattle.sw_forms.specs.Members.{each_of, values_of, with_part}

first_of_three : (left middle right : Flaw) →
    first_of (first_of left middle) right ≡ first_of left (first_of middle right)
first_of_three left middle right =
    grind (arith, leb_tells (rank left) (rank middle), leb_tells (rank middle) (rank right), leb_tells (rank left) (rank right))

-- parts and then further ones
abbrev pub appended : {A : Type 0} → Result (List A) Flaw → Result (List A) Flaw → Result (List A) Flaw
appended parts rest = made (λ lists. lists.0 ++ lists.1) (both parts rest)

pub appended_next : {A : Type 0} (parts : Result (List A) Flaw) (next : Result A Flaw) (rest : Result (List A) Flaw) →
    appended (with_part parts next) rest ≡ appended parts (made (λ list. list.0 ∷ list.1) (both next rest))
unfolding both
appended_next (Ok xs) (Ok x) (Ok ys) = ap Ok (append_assoc xs (x ∷ []) ys)
appended_next (Ok xs) (Ok x) (Err c) = refl
appended_next (Ok xs) (Err b) (Ok ys) = refl
appended_next (Ok xs) (Err b) (Err c) = refl
appended_next (Err a) (Ok x) (Ok ys) = refl
appended_next (Err a) (Ok x) (Err c) = refl
appended_next (Err a) (Err b) (Ok ys) = refl
appended_next (Err a) (Err b) (Err c) = ap Err (first_of_three a b c)

-- one value after another
pub each_next : {A V : Type 0} (seen : V → Data) (part : Data → Result A Flaw) (values : List V) (i : ℕ) (value : V)
    (parts now : Result (List A) Flaw) →
    i < length values → value ≡ get_or values i value → now ≡ with_part parts (part (seen value)) →
    appended now (each_of part (map seen (drop (i + 1) values)))
    ≡ appended parts (each_of part (map seen (drop i values)))
each_next seen part values i value parts now below is next =
    let front : drop i values ≡ value ∷ drop (i + 1) values =
    drop_more values i value below ∙ ap (λ x. x ∷ drop (i + 1) values) (sym is) in
    rw (next, front) (appended_next parts (part (seen value)) (each_of part (map seen (drop (i + 1) values))))

-- the values of an array, seen one by one
pub values_of_view : (values : List Value) → values_of (items_view values) ≡ map view values
values_of_view [] = refl
values_of_view (value ∷ rest) = ap (λ list. view value ∷ list) (values_of_view rest)
