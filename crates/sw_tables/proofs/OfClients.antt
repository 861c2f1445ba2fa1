-- The clients in the table are the state's, and what it notes of them stays right.
use Rattle.std.proofs.Common.{◌≡◌, ◌∙◌, ◌≤◌, ◌==◌, ℕ, Bool, true, false, not, List, [], ◌∷◌, map, Option, Some, None, Result, Ok, Err, option_map, option_and_then, length, refl, sym, ap, subst, arith, if◌then◌else◌}
use Rattle.std.proofs.lemmas.List.Elements.{All-cons, All-filter, All-head, All-nil, All-tail}
use Rattle.std.specs.List.{All}
use Rattle.std.specs.Prelude.{◌↔◌, find, IsErr, OnErr, OnOk}
use Rattle.sw_client.specs.declared.OpenClient.{OpenClient}
use Rattle.sw_client.specs.Table as clients
use Rattle.sw_client.specs.Table.{clients_of, controlled_by, is_open, uncontrolled}
use Rattle.sw_data.specs.declared.rows.ClientRow.{ClientRow}
use Rattle.sw_data.specs.declared.rows.WorkerRow.{WorkerRow}
use Rattle.sw_reg.specs.Table as registrations
use Rattle.sw_rules.specs.Registrations as rules
use Rattle.sw_rules.specs.Registrations.{used_registration}
use Rattle.sw_rules.specs.Rows.{changed, is_client, without}
use Rattle.sw_scope.specs.Scopes.{Scopes}
use Rattle.sw_tables.proofs.Lookups.{worker_shown}
use Rattle.sw_tables.proofs.Rows.{find_map, map_changed}
use Rattle.sw_tables.specs.Lent.{Rest, lent, shown_worker}
use Rattle.sw_tables.specs.Linked.{IsNoted, Linked, registration_of}
use Rattle.sw_worker.specs.Table as workers
use Rattle.sw_worker.specs.Table.{worker_at}

abbrev client : OpenClient → ClientRow
client row = row.client

-- ---- what holds of each row

all_changed : {X : Type 0} (P : X → Type 0) (test : X → Bool) (f : X → X) → ((x : X) → P x → P (f x)) → (xs : List X) → All P xs → All P (changed test f xs)
all_changed P test f keeps [] each = All-nil P
all_changed P test f keeps (x ∷ xs) each =
    let rest = all_changed P test f keeps xs (All-tail P x xs each) in
    All-cons P (if test x then f x else x) (changed test f xs) (by (All-head P x xs each) (test x)) rest
  where
    by : P x → (b : Bool) → P (if b then f x else x)
    by first true = keeps x first
    by first false = first

all_found : {X : Type 0} (P : X → Type 0) (test : X → Bool) (xs : List X) (x : X) → All P xs → find test xs ≡ Some x → P x
all_found P test [] x each is = absurd cc
all_found P test (y ∷ ys) x each is = by (all_found P test ys x (All-tail P y ys each)) (test y) refl
  where
    by : (find test ys ≡ Some x → P x) → (b : Bool) → test y ≡ b → P x
    by later true passes = let same : y ≡ x = grind (arith, is, passes) in subst P same (All-head P y ys each)
    by later false fails = later (grind (arith, is, fails))

-- ---- a client without a controller

pub left_rows : (n : ℕ) (rows : List OpenClient) → map client (changed (is_open n) uncontrolled rows) ≡ changed (is_client n) (λ row. record row { controller = None }) (map client rows)
left_rows n rows = map_changed client (is_open n) uncontrolled (is_client n) (λ row. record row { controller = None }) (λ x. refl) (λ x. refl) rows

pub given_rows : (n worker registration : ℕ) (rows : List OpenClient) → map client (changed (is_open n) (controlled_by (worker, registration)) rows) ≡ changed (is_client n) (rules.controlled_by worker) (map client rows)
given_rows n worker registration rows = map_changed client (is_open n) (controlled_by (worker, registration)) (is_client n) (rules.controlled_by worker) (λ x. refl) (λ x. refl) rows

pub gone_rows : (n : ℕ) (rows : List OpenClient) → map client (without (is_open n) rows) ≡ without (is_client n) (map client rows)
gone_rows n [] = refl
gone_rows n (x ∷ xs) = grind (arith, gone_rows n xs)

left_noted : (of : workers.Table) (row : OpenClient) → IsNoted of row → IsNoted of (uncontrolled row)
left_noted of row is = record { registration = refl; controller = refl }

pub left_linked : (n : ℕ) (scopes : Scopes) (of_workers : workers.Table) (of : registrations.Table) (old : clients.Table)
    → Linked scopes of_workers of old → Linked scopes of_workers of (record old { rows = changed (is_open n) uncontrolled old.rows })
left_linked n scopes of_workers of old is = record {
  slots = is.slots;
  mapped = is.mapped;
  noted = all_changed (IsNoted of_workers) (is_open n) uncontrolled (left_noted of_workers) old.rows is.noted;
  known = is.known;
}

-- ---- a client that gets a controller

given_noted : (of : workers.Table) (worker registration : ℕ) → registration_of of.rows worker ≡ Some registration → (row : OpenClient) → IsNoted of row → IsNoted of (controlled_by (worker, registration) row)
given_noted of worker registration of_it row is = record { registration = sym of_it; controller = refl }

pub given_linked : (n worker registration : ℕ) (scopes : Scopes) (of_workers : workers.Table) (of : registrations.Table) (old : clients.Table) → registration_of of_workers.rows worker ≡ Some registration
    → Linked scopes of_workers of old → Linked scopes of_workers of (record old { rows = changed (is_open n) (controlled_by (worker, registration)) old.rows })
given_linked n worker registration scopes of_workers of old of_it is = record {
  slots = is.slots;
  mapped = is.mapped;
  noted = all_changed (IsNoted of_workers) (is_open n) (controlled_by (worker, registration)) (given_noted of_workers worker registration of_it) old.rows is.noted;
  known = is.known;
}

-- ---- a client that isn't there

absent_client : (n : ℕ) (rows : List OpenClient) → find (is_client n) (map client rows) ≡ None → find (is_open n) rows ≡ None
absent_client n [] none = refl
absent_client n (x ∷ xs) none = grind (arith, none, absent_client n xs)

absent_changed : {X : Type 0} (test : X → Bool) (f : X → X) (xs : List X) → find test xs ≡ None → changed test f xs ≡ xs
absent_changed test f [] none = refl
absent_changed test f (x ∷ xs) none = grind (arith, none, absent_changed test f xs)

absent_without : {X : Type 0} (test : X → Bool) (xs : List X) → find test xs ≡ None → without test xs ≡ xs
absent_without test [] none = refl
absent_without test (x ∷ xs) none = grind (arith, none, absent_without test xs)

-- a client gets a controller where it is there
pub given : {T E : Type 0} (n worker registration : ℕ) (r : Result T E) (old new : clients.Table)
    → (IsErr r ↔ (find (is_client n) (clients_of old) ≡ None)) → OnErr r (new ≡ old)
    → OnOk r (new ≡ record old { rows = changed (is_open n) (controlled_by (worker, registration)) old.rows })
    → new ≡ record old { rows = changed (is_open n) (controlled_by (worker, registration)) old.rows }
given n worker registration (Ok x) old new none same done = done
given n worker registration (Err e) old new none same done =
    let absent = absent_client n old.rows (none.0 refl) in
    let still = absent_changed (is_open n) (controlled_by (worker, registration)) old.rows absent in
    same ∙ ap (λ (rows : List OpenClient). record old { rows = rows }) (sym still)

-- a client goes where it is there
pub gone : {T E : Type 0} (n : ℕ) (r : Result T E) (old new : clients.Table)
    → (IsErr r ↔ (find (is_client n) (clients_of old) ≡ None)) → OnErr r (new ≡ old) → OnOk r (new.rows ≡ without (is_open n) old.rows)
    → new.rows ≡ without (is_open n) old.rows
gone n (Ok x) old new none same done = done
gone n (Err e) old new none same done =
    let absent = absent_client n old.rows (none.0 refl) in
    ap (λ (table : clients.Table). table.rows) same ∙ sym (absent_without (is_open n) old.rows absent)

-- ---- a client that goes

pub gone_linked : (n : ℕ) (scopes : Scopes) (of_workers : workers.Table) (of : registrations.Table) (old new : clients.Table)
    → new.rows ≡ without (is_open n) old.rows → new.known ≡ old.known → Linked scopes of_workers of old → Linked scopes of_workers of new
gone_linked n scopes of_workers of old new rows known is = record {
  slots = is.slots;
  mapped = is.mapped;
  noted = subst (All (IsNoted of_workers)) (sym rows) (All-filter (λ row. not (is_open n row)) (IsNoted of_workers) old.rows is.noted);
  known = subst (λ (n : ℕ). length of.rows ≤ n) (sym known) is.known;
}

-- ---- the registration that a client uses

-- what is noted of a client is the registration of its controller in the state
pub used_shown : (n : ℕ) (scopes : Scopes) (of_workers : workers.Table) (of : registrations.Table) (table : clients.Table) (rest : Rest) → All (IsNoted of_workers) table.rows
    → used_registration (lent scopes of_workers of table rest) n ≡ option_and_then (λ row. row.registration) (find (is_open n) table.rows)
used_shown n scopes of_workers of table rest noted =
    ap (λ (o : Option ClientRow). option_and_then (λ w. option_map (λ row. row.registration) (find (λ row. row.number == w) (map shown_worker of_workers.rows))) (option_and_then (λ row. row.controller) o))
    (find_map (is_client n) client table.rows)
    ∙ by (find (is_open n) table.rows) refl
  where
    shown : ℕ → Option ℕ
    shown w = option_map (λ row. row.registration) (find (λ row. row.number == w) (map shown_worker of_workers.rows))

    shown_is : (w : ℕ) → shown w ≡ registration_of of_workers.rows w
    shown_is w = ap (option_map (λ row. row.registration)) (worker_shown w of_workers.rows) ∙ plain (worker_at w of_workers.rows)
      where
        plain : (o : Option WorkerRow) → option_map (λ row. row.registration) (option_map shown_worker o) ≡ option_map (λ row. row.registration) o
        plain None = refl
        plain (Some x) = refl

    of_controller : (c : Option ℕ) → option_and_then shown c ≡ option_and_then (registration_of of_workers.rows) c
    of_controller None = refl
    of_controller (Some w) = shown_is w

    by : (o : Option OpenClient) → find (is_open n) table.rows ≡ o
        → option_and_then shown (option_and_then (λ row. row.controller) (option_map client o)) ≡ option_and_then (λ row. row.registration) o
    by None is = refl
    by (Some x) is =
        let right = all_found (IsNoted of_workers) (is_open n) table.rows x noted is in
        of_controller x.client.controller ∙ sym right.registration
