-- What the tables show as a state, after a change of their rows.
use Rattle.std.proofs.Common.{◌≡◌, ◌∙◌, ◌&&◌, ℕ, Bool, true, false, ◌==◌, List, [], ◌∷◌, map, Option, Some, None, option_map, option_and_then, refl, sym, ap, arith}
use Rattle.std.specs.Prelude.{find}
use Rattle.std.proofs.lemmas.Bool.{and_parts}
use Rattle.sw_client.specs.Table as clients
use Rattle.sw_data.specs.declared.rows.HandlerRow.{HandlerRow}
use Rattle.sw_data.specs.declared.rows.WorkerRow.{WorkerRow}
use Rattle.sw_data.specs.declared.workers.Slot.{Slot}
use Rattle.sw_reg.specs.Table as registrations
use Rattle.sw_reg.specs.Table.{slot_of}
use Rattle.sw_rules.specs.Calls.{counted_call}
use Rattle.sw_rules.specs.Rows as definitions
use Rattle.sw_rules.specs.Rows.{changed, in_slot, slot_worker}
use Rattle.sw_rules.specs.State.{Worker}
use Rattle.sw_scope.specs.Scopes.{Scopes}
use Rattle.sw_tables.proofs.Moves.{same_number, there}
use Rattle.sw_tables.proofs.Rows.{find_map, no_row, only}
use Rattle.sw_tables.specs.Lent.{Rest, lent, shown_registration, shown_worker}
use Rattle.sw_tables.specs.Linked.{HasSlots}
use Rattle.sw_worker.specs.Edits.{call_counted, with_handler}
use Rattle.sw_worker.specs.Table as workers
use Rattle.sw_worker.specs.Table.{is_worker, worker_at}

-- a change is seen as a change of what is seen
pub seen_changed : {X Y : Type 0} (g : X → Y) (p : X → Bool) (f : X → X) (q : Y → Bool) (h : Y → Y) → ((x : X) → q (g x) ≡ p x) → ((x : X) → g (f x) ≡ h (g x)) → (xs : List X)
    → map g (changed p f xs) ≡ changed q h (map g xs)
seen_changed g p f q h tests same [] = refl
seen_changed g p f q h tests same (x ∷ xs) = grind (arith, tests x, same x, seen_changed g p f q h tests same xs)

-- a change that isn't seen
pub unseen_changed : {X Y : Type 0} (g : X → Y) (p : X → Bool) (f : X → X) → ((x : X) → g (f x) ≡ g x) → (xs : List X) → map g (changed p f xs) ≡ map g xs
unseen_changed g p f same [] = refl
unseen_changed g p f same (x ∷ xs) = grind (arith, same x, unseen_changed g p f same xs)

-- two changes of the same rows
pub changed_twice : {X : Type 0} (p : X → Bool) (f g : X → X) → ((x : X) → p (g x) ≡ p x) → (xs : List X) → changed p f (changed p g xs) ≡ changed p (λ x. f (g x)) xs
changed_twice p f g keeps [] = refl
changed_twice p f g keeps (x ∷ xs) = grind (arith, keeps x, changed_twice p f g keeps xs)

-- one worker goes on, and registrations show the same
pub one_shown : (worker : ℕ) (edit : WorkerRow → WorkerRow) (on : Worker → Worker) → ((row : WorkerRow) → shown_worker (edit row) ≡ on (shown_worker row))
    → (old new : workers.Table) (from to : registrations.Table) (scopes : Scopes) (of_clients : clients.Table) (rest : Rest)
    → map (shown_registration scopes rest) to.rows ≡ map (shown_registration scopes rest) from.rows
    → new ≡ record old { rows = changed (is_worker worker) edit old.rows }
    → lent scopes new to of_clients rest
    ≡ (let state = lent scopes old from of_clients rest in record state { workers = changed (definitions.is_worker worker) on state.workers })
one_shown worker edit on same old new from to scopes of_clients rest unseen is =
    cc (unseen, is, seen_changed shown_worker (is_worker worker) edit (definitions.is_worker worker) on (λ row. refl) same old.rows)

-- the worker in a slot of a registration
pub slot_shown : (old : workers.Table) (from : registrations.Table) (scopes : Scopes) (of_clients : clients.Table) (rest : Rest) (place : Slot) (registration : ℕ) → HasSlots old from
    → slot_worker (lent scopes old from of_clients rest) place registration ≡ option_map shown_worker (option_and_then (λ n. worker_at n old.rows) (slot_of place registration from.rows))
slot_shown old from scopes of_clients rest place registration has =
    find_map stands shown_worker old.rows ∙ ap (option_map shown_worker) (by (slot_of place registration from.rows) refl)
  where
    stands : Worker → Bool
    stands row = row.registration == registration && in_slot place row.state

    stands_row : WorkerRow → Bool
    stands_row row = row.registration == registration && in_slot place row.state

    filled : (row : WorkerRow) → worker_at row.number old.rows ≡ Some row → stands_row row ≡ true → slot_of place registration from.rows ≡ Some row.number
    filled row is passes =
        let parts = and_parts (row.registration == registration) (in_slot place row.state) passes in
        ap (λ q. slot_of place q from.rows) (sym (same_number row.registration registration parts.0)) ∙ (has.rows row.number row is).slots place parts.1

    by : (o : Option ℕ) → slot_of place registration from.rows ≡ o → find stands_row old.rows ≡ option_and_then (λ n. worker_at n old.rows) o
    by None none = no_row (λ row. row.number) stands_row old.rows has.worker_places (λ row is. unfilled row is (stands_row row) refl)
      where
        unfilled : (row : WorkerRow) → worker_at row.number old.rows ≡ Some row → (b : Bool) → stands_row row ≡ b → stands_row row ≡ false
        unfilled row is true passes = absurd (cc (filled row is passes, none))
        unfilled row is false other = other
    by (Some n) some =
        let found = there stands_row (worker_at n old.rows) (has.filled place registration n some) in
        only (λ row. row.number) stands_row old.rows n found.0 has.worker_places found.1 found.2
        (λ row is passes. cc (filled row is passes, some)) ∙ sym found.1

-- a handler that has made a call, as it is shown
pub call_shown : (fault task : Bool) (row : WorkerRow) → shown_worker (with_handler (call_counted fault task) row)
    ≡ record (shown_worker row) { handler = option_map (counted_call fault) (shown_worker row).handler }
call_shown fault task row = by row.handler refl
  where
    by : (handler : Option HandlerRow) → row.handler ≡ handler → shown_worker (with_handler (call_counted fault task) row)
        ≡ record (shown_worker row) { handler = option_map (counted_call fault) (shown_worker row).handler }
    by None is = cc is
    by (Some handler) is = cc is
