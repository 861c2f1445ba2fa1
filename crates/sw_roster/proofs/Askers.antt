-- What is found in the tables of a host of the workers and clients that ask and are asked for.
use Rattle.std.proofs.Common.{◌≡◌, ◌∙◌, ◌+◌, ◌≤◌, ℕ, Bool, true, false, not, ◌&&◌, nat_eq, List, [], ◌∷◌, ◌++◌, map, length, slice_get, take, Option, Some, None, option_map, option_and_then, refl, sym, ap, subst, arith, if◌then◌else◌, append_assoc}
use Rattle.std.specs.List.{AllByRecursion, IsDistinct, filter, filter_map, find}
use Rattle.std.specs.Option.{is_some, option_map_or, option_to_list}
use Rattle.std.proofs.lemmas.Bool.Decides.{nat_tests}
use Rattle.std.proofs.lemmas.List.{append-nil, map-append, take_all}
use Rattle.std.proofs.lemmas.List.Elements.{filter_map-append}
use Rattle.sw_client.proofs.TakeOver.{passed_more}
use Rattle.sw_data.specs.declared.rows.ClientRow.{ClientRow}
use Rattle.sw_data.specs.declared.rows.RegistrationRow.{RegistrationRow}
use Rattle.sw_data.specs.declared.rows.WorkerRow.{WorkerRow}
use Rattle.sw_data.specs.declared.workers.WorkerState.{WorkerState}
use Rattle.sw_reg.specs.Table.{registration_at}
use Rattle.sw_roster.specs.Members.{is_redundant, numbers_of}
use Rattle.sw_rules.specs.Rows as rules
use Rattle.sw_rules.specs.Rows.{is_client, key_of_worker}
use Rattle.sw_tables.proofs.Lookups.{worker_shown}
use Rattle.sw_tables.proofs.Rows.{find_map}
use Rattle.sw_tables.specs.Lent.{shown_registration, shown_worker}
use Rattle.sw_state.specs.Hosted.{Hosted, rest_of, state_of}
use Rattle.sw_worker.specs.Table.{worker_at}

-- ---- workers

-- a worker that may ask
pub asks : (host : Hosted) (worker : ℕ) → option_map_or (λ (state : WorkerState). not (is_redundant state)) (option_map (λ row. row.state) (worker_at worker host.workers.rows)) false
    ≡ option_map_or (λ row. not (is_redundant row.state)) (rules.worker_row (state_of host) worker) false
asks host worker =
    by (worker_at worker host.workers.rows)
    ∙ sym (ap (λ (o : Option _). option_map_or (λ row. not (is_redundant row.state)) o false) (worker_shown worker host.workers.rows))
  where
    by : (o : Option WorkerRow) → option_map_or (λ (state : WorkerState). not (is_redundant state)) (option_map (λ row. row.state) o) false ≡ option_map_or (λ row. not (is_redundant row.state)) (option_map shown_worker o) false
    by None = refl
    by (Some row) = refl

key_shown : (host : Hosted) (o : Option RegistrationRow) → option_map (λ row. row.key) (option_map (shown_registration host.scopes (rest_of host)) o) ≡ option_map (λ row. row.key) o
key_shown host None = refl
key_shown host (Some row) = refl

-- the key of the registration of a worker
pub key_found : (host : Hosted) (worker : ℕ) (found : Option WorkerRow) → found ≡ worker_at worker host.workers.rows
    → option_map (λ row. row.key) (option_and_then (λ (row : WorkerRow). registration_at row.registration host.registrations.rows) found) ≡ key_of_worker (state_of host) worker
key_found host worker found is =
    by found
    ∙ sym (ap (λ (o : Option _). option_map (λ row. row.key) (option_and_then (rules.registration_row (state_of host)) (option_map (λ row. row.registration) o))) (worker_shown worker host.workers.rows ∙ ap (option_map shown_worker) (sym is)))
  where
    by : (o : Option WorkerRow) → option_map (λ row. row.key) (option_and_then (λ (row : WorkerRow). registration_at row.registration host.registrations.rows) o)
        ≡ option_map (λ row. row.key) (option_and_then (rules.registration_row (state_of host)) (option_map (λ row. row.registration) (option_map shown_worker o)))
    by None = refl
    by (Some row) =
        sym
        (ap (option_map (λ row. row.key)) (find_map (rules.is_registration row.registration) (shown_registration host.scopes (rest_of host)) host.registrations.rows)
        ∙ key_shown host (registration_at row.registration host.registrations.rows))

-- ---- clients

abbrev number_of : ClientRow → ℕ
number_of row = row.number

none_kept : (n : ℕ) (test : ClientRow → Bool) (rows : List ClientRow) → AllByRecursion (λ k. nat_eq n k ≡ false) (map number_of rows) → find (is_client n) (filter test rows) ≡ None
none_kept n test [] all = refl
none_kept n test (row ∷ rows) all = let rest = none_kept n test rows all.1 in let here = all.0 in grind (arith, nat_tests)

-- a client that is found among those that pass
pub found_kept : (n : ℕ) (test : ClientRow → Bool) (rows : List ClientRow) (row : ClientRow) → IsDistinct nat_eq (map number_of rows) → find (is_client n) rows ≡ Some row → is_some (find (is_client n) (filter test rows)) ≡ test row
unfolding IsDistinct
found_kept n test [] row apart is = absurd cc
found_kept n test (first ∷ rows) row apart is =
    grind (
      arith,
      nat_tests,
      found_kept n test rows row apart.1,
      λ (same : first.number ≡ n). none_kept n test rows (subst (λ (k : ℕ). AllByRecursion (λ z. nat_eq k z ≡ false) (map number_of rows)) same apart.0),
    )

-- where none is found none is among those that pass
pub none_found_kept : (n : ℕ) (test : ClientRow → Bool) (rows : List ClientRow) → find (is_client n) rows ≡ None → find (is_client n) (filter test rows) ≡ None
none_found_kept n test [] is = refl
none_found_kept n test (first ∷ rows) is = grind (arith, nat_tests, none_found_kept n test rows)

-- ---- lists

-- what is found under a number has it
found_number : (n : ℕ) (rows : List ClientRow) → numbers_of (option_to_list (find (is_client n) rows)) ≡ (if is_some (find (is_client n) rows) then n ∷ [] else [])
found_number n [] = refl
found_number n (row ∷ rows) = grind (arith, nat_tests, found_number n rows)

one_mapped : {X Y : Type 0} (f : X → Option Y) (x : X) → filter_map f (x ∷ []) ≡ option_to_list (f x)
one_mapped f x = by (f x) refl
  where
    by : (o : Option _) → f x ≡ o → filter_map f (x ∷ []) ≡ option_to_list o
    by None is = grind (arith, is)
    by (Some y) is = grind (arith, is)

added_if : (all : List ℕ) (n : ℕ) (b : Bool) → (if b then all ++ n ∷ [] else all) ≡ all ++ (if b then n ∷ [] else [])
added_if all n true = refl
added_if all n false = sym (append-nil all)

-- one more number was asked about
pub listed_more : (rows : List ClientRow) (before after all : List ℕ) (n : ℕ) (has : Bool) → after ≡ before ++ n ∷ [] → has ≡ is_some (find (is_client n) rows)
    → all ≡ numbers_of (filter_map (λ k. find (is_client k) rows) before) → (if has then all ++ n ∷ [] else all) ≡ numbers_of (filter_map (λ k. find (is_client k) rows) after)
listed_more rows before after all n has more is so_far =
    let f = λ (k : ℕ). find (is_client k) rows in
    added_if all n has
    ∙ ap (λ (b : Bool). all ++ (if b then n ∷ [] else [])) is
    ∙ ap (λ (xs : List ℕ). all ++ xs) (sym (found_number n rows))
    ∙ ap (λ (xs : List ℕ). xs ++ numbers_of (option_to_list (f n))) so_far
    ∙ sym (map-append number_of (filter_map f before) (option_to_list (f n)))
    ∙ ap numbers_of
    (ap (λ (xs : List ClientRow). filter_map f before ++ xs) (sym (one_mapped f n))
    ∙ sym (filter_map-append f before (n ∷ []))
    ∙ ap (filter_map f) (sym more))

-- one more place was looked at
pub others_more : (test : ClientRow → Bool) (rows : List ClientRow) (i : ℕ) (first before after : List ℕ) → before ≡ first ++ numbers_of (filter test (take i rows))
    → after ≡ before ++ numbers_of (filter test (option_to_list (slice_get rows i))) → after ≡ first ++ numbers_of (filter test (take (i + 1) rows))
others_more test rows i first before after so_far is =
    let these = filter test (take i rows) in
    let this = filter test (option_to_list (slice_get rows i)) in
    is
    ∙ ap (λ (xs : List ℕ). xs ++ numbers_of this) so_far
    ∙ append_assoc first (numbers_of these) (numbers_of this)
    ∙ ap (λ (xs : List ℕ). first ++ xs) (sym (map-append number_of these this) ∙ ap numbers_of (sym (passed_more test rows i)))

-- those that pass one test of those that pass another
kept_twice : {X : Type 0} (p q : X → Bool) (xs : List X) → filter p (filter q xs) ≡ filter (λ x. q x && p x) xs
kept_twice p q [] = refl
kept_twice p q (x ∷ xs) = grind (arith, kept_twice p q xs)

-- all places were looked at
pub others_all : (p q : ClientRow → Bool) (rows : List ClientRow) (i : ℕ) (first all : List ℕ) → length rows ≤ i → all ≡ first ++ numbers_of (filter (λ row. q row && p row) (take i rows))
    → all ≡ first ++ numbers_of (filter p (filter q rows))
others_all p q rows i first all past is =
    is ∙ ap (λ (some : List ClientRow). first ++ numbers_of some) (ap (filter (λ row. q row && p row)) (take_all i rows past) ∙ sym (kept_twice p q rows))

none_passes : (test : ClientRow → Bool) (row : ClientRow) → test row ≡ false → filter test (row ∷ []) ≡ []
none_passes test row fails = grind (arith, fails)

one_passes : (test : ClientRow → Bool) (row : ClientRow) → test row ≡ true → filter test (row ∷ []) ≡ row ∷ []
one_passes test row passes = grind (arith, passes)

-- one client, where it passes
pub one_kept : (test : ClientRow → Bool) (row : ClientRow) (all : List ℕ) (b : Bool) → b ≡ test row → (if b then all ++ row.number ∷ [] else all) ≡ all ++ numbers_of (filter test (row ∷ []))
one_kept test row all true is = ap (λ (xs : List ClientRow). all ++ numbers_of xs) (sym (one_passes test row (sym is)))
one_kept test row all false is = sym (append-nil all) ∙ ap (λ (xs : List ClientRow). all ++ numbers_of xs) (sym (none_passes test row (sym is)))
