-- Moves to what is mapped lead there.
use Rattle.std.proofs.Common.{◌≡◌, ◌∙◌, ◌⊎◌, inl, inr, ⊎_elim, ℕ, Bool, true, false, ◌&&◌, List, [], ◌∷◌, map, flat_map, All, Option, Some, None, Result, Ok, Err, IfOk, refl, sym, ap, arith}
use Rattle.std.specs.Prelude.{bytes_eq, option_and_then}
use Rattle.std.specs.List.{list_any}
use Rattle.std.specs.Option.{option_map_or}
use Rattle.std.proofs.lemmas.List.Elements.{All-append, All-cons, All-head, All-nil, All-tail}
use Rattle.std.proofs.lemmas.List.Folds.{list_any-append}
use Rattle.sw_data.specs.declared.answers.Notice.{Notice}
use Rattle.sw_data.specs.declared.histories.Entry.{Entry}
use Rattle.sw_data.specs.declared.rows.RegistrationRow.{RegistrationRow}
use Rattle.sw_laws.proofs.Lists.{by_truth, bytes_eq_equal}
use Rattle.sw_reg.specs.Table.{registration_at}
use Rattle.sw_tables.proofs.Lookups.{is_of}
use Rattle.sw_view.specs.declared.moves.Move.{Move}
use Rattle.sw_view.specs.declared.moves.Move.TheVariants.{Remove, Set}
use Rattle.sw_view.specs.Found.{Found}
use Rattle.sw_view.specs.Moves.{AreMoves, after_move, after_moves, nothing}
use Rattle.sw_view.specs.Moving.{move_to, moved_by, moves_by, moves_told, row_move}

-- a move is of this key and scope
abbrev pub is_move_of : List ℕ → List ℕ → Move → Bool
is_move_of key scope (Remove own text) = bytes_eq own key && bytes_eq text scope
is_move_of key scope (Set own text registration) = bytes_eq own key && bytes_eq text scope

-- a move is to what is mapped
abbrev pub IsTo : Found → Move → Type 0
IsTo found (Remove own text) = found own text ≡ None
IsTo found (Set own text registration) = found own text ≡ Some registration

same_place : (found : Found) (own text key scope : List ℕ) → (bytes_eq own key && bytes_eq text scope) ≡ true → found own text ≡ found key scope
same_place found own text key scope is =
    let one : own ≡ key = bytes_eq_equal own key (grind (arith, is)) in
    let other : text ≡ scope = bytes_eq_equal text scope (grind (arith, is)) in
    λ i. found (one i) (other i)

moved_here : (found before : Found) (change : Move) → IsTo found change → (key scope : List ℕ) → is_move_of key scope change ≡ true → after_move before change key scope ≡ found key scope
moved_here found before (Remove own text) to key scope is =
    rw is (sym to ∙ same_place found own text key scope is)
moved_here found before (Set own text registration) to key scope is =
    rw is (sym to ∙ same_place found own text key scope is)

moved_elsewhere : (before : Found) (change : Move) (key scope : List ℕ) → is_move_of key scope change ≡ false → after_move before change key scope ≡ before key scope
moved_elsewhere before (Remove own text) key scope is = rw is refl
moved_elsewhere before (Set own text registration) key scope is = rw is refl

-- what is as it shall be, or is moved, is so in the end
pub lead : (found : Found) (moves : List Move) → All (IsTo found) moves → (before : Found) (key scope : List ℕ)
    → (before key scope ≡ found key scope) ⊎ (list_any (is_move_of key scope) moves ≡ true)
    → after_moves before moves key scope ≡ found key scope
lead found [] all before key scope either = ⊎_elim (λ same. same) (λ some. absurd (cc (some))) either
lead found (change ∷ moves) all before key scope either =
    lead found moves (All-tail (IsTo found) change moves all) (after_move before change) key scope
    (by_truth (is_move_of key scope change)
    (λ own. inl (moved_here found before change (All-head (IsTo found) change moves all) key scope own))
    (λ other. ⊎_elim (λ same. inl (moved_elsewhere before change key scope other ∙ same)) (λ some. inr (grind (arith, other, some))) either))

-- ---- the moves of rows

to_found : (found : Found) (key scope : List ℕ) (is : Option ℕ) → found key scope ≡ is → IsTo found (move_to key scope is)
to_found found key scope None same = same
to_found found key scope (Some registration) same = same

to_row : (found : Found) (row : RegistrationRow) → IsTo found (row_move found row)
to_row found row = to_found found row.key row.scope (found row.key row.scope) refl

move_of_it : (key scope own text : List ℕ) (is : Option ℕ) → is_move_of key scope (move_to own text is) ≡ (bytes_eq own key && bytes_eq text scope)
move_of_it key scope own text None = refl
move_of_it key scope own text (Some registration) = refl

to_rows : (found : Found) (rows : List RegistrationRow) → All (IsTo found) (map (row_move found) rows)
to_rows found [] = All-nil (IsTo found)
to_rows found (row ∷ rows) = All-cons (IsTo found) (row_move found row) (map (row_move found) rows) (to_row found row) (to_rows found rows)

of_rows : (found : Found) (rows : List RegistrationRow) (key scope : List ℕ) → list_any (is_of key scope) rows ≡ true → list_any (is_move_of key scope) (map (row_move found) rows) ≡ true
of_rows found [] key scope some = some
of_rows found (row ∷ rows) key scope some =
    by_truth (is_of key scope row)
    (λ own. grind (arith, own, move_of_it key scope row.key row.scope (found row.key row.scope)))
    (λ other. grind (arith, other, some, move_of_it key scope row.key row.scope (found row.key row.scope), of_rows found rows key scope))

-- where each mapped scope is that of a row, the moves of all rows lead there from nothing
pub all_lead : (found : Found) (rows : List RegistrationRow) → ((key scope : List ℕ) (number : ℕ) → found key scope ≡ Some number → list_any (is_of key scope) rows ≡ true)
    → AreMoves nothing (map (row_move found) rows) found
all_lead found rows has key scope = lead found (map (row_move found) rows) (to_rows found rows) nothing key scope (either (found key scope) refl)
  where
    either : (is : Option ℕ) → found key scope ≡ is → (nothing key scope ≡ found key scope) ⊎ (list_any (is_move_of key scope) (map (row_move found) rows) ≡ true)
    either None is = inl (sym is)
    either (Some number) is = inr (of_rows found rows key scope (has key scope number is))

-- ---- the moves that notices tell

all_flat : {A B : Type 0} (P : B → Type 0) (f : A → List B) → ((x : A) → All P (f x)) → (xs : List A) → All P (flat_map f xs)
all_flat P f each [] = All-nil P
all_flat P f each (x ∷ xs) = All-append P (f x) (flat_map f xs) (each x) (all_flat P f each xs)

any_flat : {A B : Type 0} (p : A → Bool) (q : B → Bool) (f : A → List B) → ((x : A) → p x ≡ true → list_any q (f x) ≡ true) → (xs : List A) → list_any p xs ≡ true → list_any q (flat_map f xs) ≡ true
any_flat p q f each [] some = absurd (cc (some))
any_flat p q f each (x ∷ xs) some =
    by_truth (p x)
    (λ here. grind (arith, each x here, list_any-append q (f x) (flat_map f xs)))
    (λ there. grind (arith, there, some, any_flat p q f each xs, list_any-append q (f x) (flat_map f xs)))

-- a notice tells of a registration of this key and scope, which is there
abbrev pub names_it : List RegistrationRow → List ℕ → List ℕ → Notice → Bool
names_it rows key scope told =
    option_map_or (is_of key scope) (option_and_then (λ number. registration_at number rows) (moved_by told)) false

module _ (found : Found) (rows : List RegistrationRow) where
  abbrev move_of_row : Option RegistrationRow → List Move
  move_of_row named = option_map_or (λ row. row_move found row ∷ []) named []

  to_named : (named : Option RegistrationRow) → All (IsTo found) (move_of_row named)
  to_named None = All-nil (IsTo found)
  to_named (Some row) = All-cons (IsTo found) (row_move found row) [] (to_row found row) (All-nil (IsTo found))

  of_named : (key scope : List ℕ) (named : Option RegistrationRow) → option_map_or (is_of key scope) named false ≡ true → list_any (is_move_of key scope) (move_of_row named) ≡ true
  of_named key scope None is = is
  of_named key scope (Some row) is = grind (arith, is, move_of_it key scope row.key row.scope (found row.key row.scope))

  -- where each scope that is mapped otherwise is told of, the moves that are told lead there
  pub told_lead : (before : Found) (entries : List Entry)
      → ((key scope : List ℕ) → (before key scope ≡ found key scope) ⊎ (list_any (λ entry. list_any (names_it rows key scope) entry.notices) entries ≡ true))
      → AreMoves before (moves_told found rows entries) found
  told_lead before entries told key scope =
      lead found (moves_told found rows entries)
      (all_flat (IsTo found) _ (λ entry. all_flat (IsTo found) (moves_by found rows) (λ notice. to_named (option_and_then (λ number. registration_at number rows) (moved_by notice))) entry.notices) entries)
      before key scope
      (⊎_elim (λ same. inl same)
      (λ some. inr (any_flat (λ (entry : Entry). list_any (names_it rows key scope) entry.notices) (is_move_of key scope) _
      (λ entry. any_flat (names_it rows key scope) (is_move_of key scope) (moves_by found rows) (λ notice. of_named key scope (option_and_then (λ number. registration_at number rows) (moved_by notice))) entry.notices) entries some))
      (told key scope))

-- moves that were made, if they were
pub made_lead : {V E : Type 0} (items : V → List Move) (before now : Found) (moves : List Move) (made : Result V E) → AreMoves before moves now
    → IfOk made (λ v. items v ≡ moves) → IfOk made (λ v. AreMoves before (items v) now)
made_lead items before now moves (Ok v) lead is = λ key scope. ap (λ (all : List Move). after_moves before all key scope) is ∙ lead key scope
made_lead items before now moves (Err e) lead is = tt
