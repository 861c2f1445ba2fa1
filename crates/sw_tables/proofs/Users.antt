-- The clients of a registration, by what the table of clients notes of them.
use Rattle.std.proofs.Common.{◌≡◌, ◌∙◌, ℕ, Bool, true, false, ◌&&◌, ◌==◌, nat_lt, List, [], ◌∷◌, All, map, filter, Option, Some, None, option_map, option_and_then, is_some, refl, sym, ap, arith, if◌then◌else◌}
use Rattle.std.specs.List.{list_any}
use Rattle.std.proofs.lemmas.Bool.{and_parts}
use Rattle.std.proofs.lemmas.Bool.Decides.{nat_tests}
use Rattle.std.proofs.lemmas.List.Elements.{All-head, All-tail}
use Rattle.sw_client.specs.declared.OpenClient.{OpenClient}
use Rattle.sw_client.specs.Table as clients
use Rattle.sw_client.specs.Table.{controlled_by, users_of, uses}
use Rattle.sw_data.specs.declared.answers.Notice.TheVariants as notice
use Rattle.sw_data.specs.declared.rows.WorkerRow.{WorkerRow}
use Rattle.sw_reg.specs.Table as registrations
use Rattle.sw_rules.specs.Registrations as rules
use Rattle.sw_rules.specs.Rows as found
use Rattle.sw_rules.specs.Rows.{changed, is_number, is_used}
use Rattle.sw_scope.specs.Scopes.{Scopes}
use Rattle.sw_tables.proofs.Moves.{same_number}
use Rattle.sw_tables.proofs.Pending.{any_found, any_here, any_map}
use Rattle.sw_tables.proofs.Rows.{found_number, no_row}
use Rattle.sw_tables.proofs.Standing.{is_same}
use Rattle.sw_tables.specs.Lent.{Rest, lent, shown_worker}
use Rattle.sw_tables.specs.Linked.{ArePlaces, HasSlots, IsNoted, registration_of}
use Rattle.sw_worker.specs.Table as workers
use Rattle.sw_worker.specs.Table.{worker_at}

module _ (of_workers : workers.Table) (are : ArePlaces (λ row. row.number) of_workers.rows) (registration : ℕ) where
  abbrev is_its : ℕ → WorkerRow → Bool
  is_its n row = row.number == n && row.registration == registration

  -- a worker of a number is one of the registration exactly where its row says so
  any_its : (n : ℕ) → list_any (is_its n) of_workers.rows ≡ is_number (registration_of of_workers.rows n) registration
  any_its n = by (worker_at n of_workers.rows) refl
    where
      other : (o : Option WorkerRow) → worker_at n of_workers.rows ≡ o → is_number (option_map (λ row. row.registration) o) registration ≡ false
          → (y : WorkerRow) → worker_at y.number of_workers.rows ≡ Some y → (b : Bool) → is_its n y ≡ b → b ≡ false
      other o is none y at_y false passes = refl
      other o is none y at_y true passes =
          let parts = and_parts (y.number == n) (y.registration == registration) passes in
          let same : o ≡ Some y = sym is ∙ (ap (λ m. worker_at m of_workers.rows) (sym (same_number y.number n parts.0)) ∙ at_y) in
          sym parts.1 ∙ (ap (λ p. is_number (option_map (λ row. row.registration) p) registration) (sym same) ∙ none)

      none_its : (o : Option WorkerRow) → worker_at n of_workers.rows ≡ o → is_number (option_map (λ row. row.registration) o) registration ≡ false → list_any (is_its n) of_workers.rows ≡ false
      none_its o is none =
          any_found (is_its n) of_workers.rows
          ∙ ap is_some (no_row (λ row. row.number) (is_its n) of_workers.rows are (λ y at_y. other o is none y at_y (is_its n y) refl))

      by_owner : (x : WorkerRow) → worker_at n of_workers.rows ≡ Some x → (b : Bool) → (x.registration == registration) ≡ b → list_any (is_its n) of_workers.rows ≡ b
      by_owner x is true own =
          any_here (λ row. row.number == n) (is_its n) of_workers.rows x is
          (cc (is_same x.number n (found_number (λ row. row.number) n of_workers.rows x is), own))
      by_owner x is false own = none_its (Some x) is own

      by : (o : Option WorkerRow) → worker_at n of_workers.rows ≡ o → list_any (is_its n) of_workers.rows ≡ is_number (registration_of of_workers.rows n) registration
      by None is = none_its None is refl ∙ ap (λ o. is_number (option_map (λ row. row.registration) o) registration) (sym is)
      by (Some x) is =
          by_owner x is (x.registration == registration) refl
          ∙ ap (λ o. is_number (option_map (λ row. row.registration) o) registration) (sym is)

  abbrev uses_it : OpenClient → Bool
  uses_it row = found.uses (map shown_worker of_workers.rows) registration row.client

  -- a client uses a registration exactly where the table notes it
  uses_noted : (row : OpenClient) → IsNoted of_workers row → uses_it row ≡ uses registration row
  uses_noted row noted = by row.client.controller ∙ ap (λ o. is_number o registration) (sym noted.registration)
    where
      by : (o : Option ℕ) → (elim o [ Some number ↦ list_any (λ w. w.number == number && w.registration == registration) (map shown_worker of_workers.rows) | None ↦ false ]) ≡ is_number (option_and_then (registration_of of_workers.rows) o) registration
      by None = refl
      by (Some n) = any_map (λ w. w.number == n && w.registration == registration) shown_worker of_workers.rows ∙ any_its n

  used_noted : (rows : List OpenClient) → All (IsNoted of_workers) rows → list_any (found.uses (map shown_worker of_workers.rows) registration) (map (λ row. row.client) rows) ≡ nat_lt 0 (users_of registration rows)
  used_noted [] noted = refl
  used_noted (x ∷ xs) noted = by (uses registration x) refl (uses_noted x (All-head (IsNoted of_workers) x xs noted)) (used_noted xs (All-tail (IsNoted of_workers) x xs noted))
    where
      by : (b : Bool) → uses registration x ≡ b → uses_it x ≡ uses registration x → list_any (found.uses (map shown_worker of_workers.rows) registration) (map (λ row. row.client) xs) ≡ nat_lt 0 (users_of registration xs)
          → list_any (found.uses (map shown_worker of_workers.rows) registration) (map (λ row. row.client) (x ∷ xs)) ≡ nat_lt 0 (users_of registration (x ∷ xs))
      by true here same later = grind (arith, nat_tests, here, same)
      by false other same later = grind (arith, nat_tests, other, same, later)

  -- the clients that get another controller
  pub taken_over : (worker : ℕ) (rows : List OpenClient) → All (IsNoted of_workers) rows
      → map (λ row. row.client) (changed (uses registration) (controlled_by (worker, registration)) rows) ≡ changed (found.uses (map shown_worker of_workers.rows) registration) (rules.controlled_by worker) (map (λ row. row.client) rows)
  taken_over worker [] noted = refl
  taken_over worker (x ∷ xs) noted =
      cc (by (uses registration x), uses_noted x (All-head (IsNoted of_workers) x xs noted), taken_over worker xs (All-tail (IsNoted of_workers) x xs noted))
    where
      by : (b : Bool) → (if b then controlled_by (worker, registration) x else x).client ≡ (if b then rules.controlled_by worker x.client else x.client)
      by true = refl
      by false = refl

  -- what they are told
  pub told_over : (rows : List OpenClient) → All (IsNoted of_workers) rows
      → map (λ client. notice.ControllerChange client.number) (filter (found.uses (map shown_worker of_workers.rows) registration) (map (λ row. row.client) rows)) ≡ map (λ row. notice.ControllerChange row.client.number) (filter (uses registration) rows)
  told_over [] noted = refl
  told_over (x ∷ xs) noted = by (uses registration x) refl (uses_noted x (All-head (IsNoted of_workers) x xs noted)) (told_over xs (All-tail (IsNoted of_workers) x xs noted))
    where
      by : (b : Bool) → uses registration x ≡ b → uses_it x ≡ uses registration x
          → map (λ client. notice.ControllerChange client.number) (filter (found.uses (map shown_worker of_workers.rows) registration) (map (λ row. row.client) xs)) ≡ map (λ row. notice.ControllerChange row.client.number) (filter (uses registration) xs)
          → map (λ client. notice.ControllerChange client.number) (filter (found.uses (map shown_worker of_workers.rows) registration) (map (λ row. row.client) (x ∷ xs))) ≡ map (λ row. notice.ControllerChange row.client.number) (filter (uses registration) (x ∷ xs))
      by true here same later = cc (here, same, later)
      by false other same later = cc (other, same, later)

pub used_count : (registration : ℕ) (scopes : Scopes) (of_workers : workers.Table) (of_registrations : registrations.Table) (of_clients : clients.Table) (rest : Rest) → HasSlots of_workers of_registrations → All (IsNoted of_workers) of_clients.rows
    → is_used (lent scopes of_workers of_registrations of_clients rest) registration ≡ nat_lt 0 (users_of registration of_clients.rows)
used_count registration scopes of_workers of_registrations of_clients rest has noted =
    used_noted of_workers has.worker_places registration of_clients.rows noted
