-- A new worker of a registration for the clients that use it: the loops over them.
use Rattle.std.proofs.Common.{◌≡◌, ◌∙◌, ◌≤◌, ◌+◌, ℕ, Bool, suc, zero, nat_eq, List, [], ◌∷◌, ◌++◌, map, filter, length, take, drop, slice_get, Some, refl, sym, ap, subst, arith}
use Rattle.std.proofs.lemmas.List.{length-map}
use Rattle.std.specs.Option.{option_to_list}
use Rattle.std.proofs.lemmas.Bool.Decides.{nat_tests}
use Rattle.std.specs.List.{IsDistinct}
use Rattle.std.specs.Map.{keys_of, values_of}
use Rattle.sw_list.specs.Sequence.{with_value_at}
use Rattle.sw_rules.specs.Rows.{changed}
use Rattle.sw_client.specs.declared.OpenClient.{OpenClient}
use Rattle.sw_client.specs.Keyed.{keyed}
use Rattle.sw_client.specs.Table.{CountsUsers, controlled_by, handed, users_of, uses}
use Rattle.sw_client.proofs.OfClients.{Entries, number, now_counted}

-- the rows that pass among those up to a place, and the row there, are no more than all that pass
pub passed_within : {X : Type 0} (p : X → Bool) (xs : List X) (i : ℕ) → length (filter p (take i xs)) + length (filter p (option_to_list (slice_get xs i))) ≤ length (filter p xs)
passed_within p [] zero = omega arith
passed_within p [] (suc i) = omega arith
passed_within p (x ∷ xs) zero = grind arith
passed_within p (x ∷ xs) (suc i) = grind (arith, passed_within p xs i)

-- the rows that pass among one row more
pub passed_more : {X : Type 0} (p : X → Bool) (xs : List X) (i : ℕ) → filter p (take (i + 1) xs) ≡ filter p (take i xs) ++ filter p (option_to_list (slice_get xs i))
passed_more p [] zero = refl
passed_more p [] (suc i) = grind arith
passed_more p (x ∷ xs) zero = grind arith
passed_more p (x ∷ xs) (suc i) = grind (arith, passed_more p xs i)

-- the values of the entries are changed
abbrev pub edited : {X : Type 0} → (X → X) → List (ℕ × X) → List (ℕ × X)
edited f es = map (λ e. (e.0, f e.1)) es

edited_turn : {X : Type 0} (f : X → X) (es : List (ℕ × X)) (i : ℕ) (x : X) → slice_get (values_of (edited f (take i es) ++ drop i es)) i ≡ Some x
    → with_value_at (edited f (take i es) ++ drop i es) i (f x) ≡ edited f (take (i + 1) es) ++ drop (i + 1) es
edited_turn f [] zero x is = absurd cc
edited_turn f [] (suc i) x is = absurd cc
edited_turn f (e ∷ es) zero x is = grind arith
edited_turn f (e ∷ es) (suc i) x is = grind (arith, edited_turn f es i x)

-- a turn of a loop that puts f x in the place of each value x
pub edited_more : {X : Type 0} (f : X → X) (es now : List (ℕ × X)) (i : ℕ) (x new : X) → now ≡ edited f (take i es) ++ drop i es → slice_get (values_of now) i ≡ Some x → new ≡ f x
    → with_value_at now i new ≡ edited f (take (i + 1) es) ++ drop (i + 1) es
edited_more {X} f es now i x new are there is =
    ap (λ (rows : List (ℕ × X)). with_value_at rows i new) are
    ∙ ap (λ (value : X). with_value_at (edited f (take i es) ++ drop i es) i value) is
    ∙ edited_turn f es i x (ap (λ (rows : List (ℕ × X)). slice_get (values_of rows) i) (sym are) ∙ there)

edited_keys : {X : Type 0} (f : X → X) (es : List (ℕ × X)) → keys_of (edited f es) ≡ keys_of es
edited_keys f [] = refl
edited_keys f (e ∷ es) = ap (λ (ks : List ℕ). e.0 ∷ ks) (edited_keys f es)

pub edited_values : {X : Type 0} (f : X → X) (es : List (ℕ × X)) → values_of (edited f es) ≡ map f (values_of es)
edited_values f [] = refl
edited_values f (e ∷ es) = ap (λ (xs : List _). f e.1 ∷ xs) (edited_values f es)

edited_keyed : {X : Type 0} (f : X → X) (k : X → ℕ) (rows : List X) → ((row : X) → k (f row) ≡ k row) → edited f (keyed k rows) ≡ keyed k (map f rows)
edited_keyed f k [] keeps = refl
edited_keyed f k (x ∷ xs) keeps = λ i. (sym (keeps x) i, f x) ∷ edited_keyed f k xs keeps i

handed_number : (r w : ℕ) (row : OpenClient) → number (handed r w row) ≡ number row
handed_number r w row = grind arith

-- each client uses the registration that it used
handed_users : (r w other : ℕ) (rows : List OpenClient) → users_of other (map (handed r w) rows) ≡ users_of other rows
handed_users r w other [] = refl
handed_users r w other (x ∷ xs) = grind (arith, nat_tests, handed_users r w other xs)

pub handed_rows : (r w : ℕ) (es after : Entries) → after ≡ edited (handed r w) es → values_of after ≡ changed (uses r) (controlled_by (w, r)) (values_of es)
handed_rows r w es after is = ap values_of is ∙ edited_values (handed r w) es

pub handed_counted : (r w : ℕ) (es after : Entries) (counts : List ℕ) → CountsUsers es counts → after ≡ edited (handed r w) es → CountsUsers after counts
handed_counted r w es after counts sound is =
    now_counted after (map (handed r w) (values_of es)) counts
    (is ∙ ap (edited (handed r w)) sound.keyed.rows ∙ edited_keyed (handed r w) number (values_of es) (handed_number r w))
    (subst (λ (ks : List ℕ). IsDistinct nat_eq ks) (sym (ap keys_of is ∙ edited_keys (handed r w) es)) sound.keyed.apart)
    (λ other. sound.users other ∙ sym (handed_users r w other (values_of es)))
    (omega (arith, sound.few, length-map (values_of es) (handed r w)))

-- where no client uses the registration, none is changed
pub none_handed : (r w : ℕ) (rows : List OpenClient) → users_of r rows ≡ 0 → changed (uses r) (controlled_by (w, r)) rows ≡ rows
none_handed r w [] none = refl
none_handed r w (x ∷ xs) none = grind (arith, none_handed r w xs)
