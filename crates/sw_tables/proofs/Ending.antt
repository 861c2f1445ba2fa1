-- A handler that has come to its end by what is kept has so in the state.
use Rattle.std.proofs.Common.{◌≡◌, ◌∙◌, ◌&&◌, ◌==◌, Bool, true, false, List, [], ◌∷◌, filter, length, Option, Some, None, option_map, option_and_then, refl, sym, ap, arith, if◌then◌else◌}
use Rattle.std.specs.Prelude.{IfSome, nat_le}
use Rattle.std.specs.List.{list_any}
use Rattle.std.specs.Option.{option_map_or}
use Rattle.std.proofs.lemmas.Bool.Decides.{nat_tests}
use Rattle.sw_client.specs.Table as clients
use Rattle.sw_data.specs.declared.recordings.Call.{Call}
use Rattle.sw_data.specs.declared.rows.HandlerRow.{HandlerRow}
use Rattle.sw_data.specs.declared.rows.WorkerRow.{WorkerRow}
use Rattle.sw_data.specs.declared.workers.Phase.{Phase}
use Rattle.sw_data.specs.declared.workers.Phase.TheVariants as phase
use Rattle.sw_reg.specs.Table as registrations
use Rattle.sw_rules.specs.Installing as rules
use Rattle.sw_rules.specs.Rows.{free_handler, is_unsettled_of}
use Rattle.sw_scope.specs.Scopes.{Scopes}
use Rattle.sw_tables.proofs.Lookups.{worker_shown}
use Rattle.sw_tables.specs.Ends.{has_ended, is_in}
use Rattle.sw_tables.specs.Happened.{CountsTasks}
use Rattle.sw_tables.specs.Lent.{Rest, lent, shown_handler, shown_worker}
use Rattle.sw_worker.specs.Table as workers
use Rattle.sw_worker.specs.Table.{calls_of, worker_at}

-- the handler that is found, by the row alone
abbrev found : Phase → WorkerRow → Option HandlerRow
found of row = option_and_then (λ handler. if has_ended of row.handlers handler then Some handler else None) row.handler

none_passes : {X : Type 0} (test : X → Bool) (xs : List X) → length (filter test xs) ≡ 0 → list_any test xs ≡ false
none_passes test [] none = refl
none_passes test (x ∷ xs) none = grind (arith, none_passes test xs)

some_passes : {X : Type 0} (test : X → Bool) (xs : List X) → (length (filter test xs) == 0) ≡ false → list_any test xs ≡ true
some_passes test [] some = absurd cc
some_passes test (x ∷ xs) some = grind (arith, some_passes test xs)

own_calls : (of other : Phase) → is_in of other ≡ true → other ≡ of
own_calls phase.Install phase.Install is = refl
own_calls phase.Install phase.Activate is = absurd cc
own_calls phase.Activate phase.Install is = absurd cc
own_calls phase.Activate phase.Activate is = refl

same_calls : (of : Phase) (row : WorkerRow) → rules.calls_of (shown_worker row) of ≡ calls_of of row.handlers
same_calls phase.Install row = refl
same_calls phase.Activate row = refl

pub runs : (of : Phase) (row : WorkerRow) → IfSome (found of row) (λ handler. (row.handler ≡ Some handler) × (is_in of handler.phase ≡ true))
runs of row = by row.handler
  where
    each : (handler : HandlerRow) (ended : Bool) → has_ended of row.handlers handler ≡ ended
        → IfSome (if ended then Some handler else None) (λ h. (Some handler ≡ Some h) × (is_in of h.phase ≡ true))
    each handler true is = (refl, grind (arith, is))
    each handler false is = tt

    by : (o : Option HandlerRow) → IfSome (option_and_then (λ handler. if has_ended of row.handlers handler then Some handler else None) o)
        (λ handler. (o ≡ Some handler) × (is_in of handler.phase ≡ true))
    by None = tt
    by (Some handler) = each handler (has_ended of row.handlers handler) refl

pub settles : (of : Phase) (row : WorkerRow) → IfSome (found of row) (λ handler. handler.unsettled ≡ 0)
settles of row = by row.handler
  where
    each : (handler : HandlerRow) (ended : Bool) → has_ended of row.handlers handler ≡ ended
        → IfSome (if ended then Some handler else None) (λ h. h.unsettled ≡ 0)
    each handler true is = grind (arith, nat_tests, is)
    each handler false is = tt

    by : (o : Option HandlerRow) → IfSome (option_and_then (λ handler. if has_ended of row.handlers handler then Some handler else None) o)
        (λ handler. handler.unsettled ≡ 0)
    by None = tt
    by (Some handler) = each handler (has_ended of row.handlers handler) refl

module _ (scopes : Scopes) (of_workers : workers.Table) (of_registrations : registrations.Table) (of_clients : clients.Table) (rest : Rest)
    (row : WorkerRow) (here : worker_at row.number of_workers.rows ≡ Some row) (counts : CountsTasks of_workers rest.tasks) where
  abbrev unsettled : Bool
  unsettled = list_any (is_unsettled_of row.number) rest.tasks

  -- the handler that may go on
  free : free_handler (lent scopes of_workers of_registrations of_clients rest) row.number
      ≡ (if unsettled then None else option_map shown_handler row.handler)
  free =
      ap (λ o. if unsettled then None else option_and_then (λ worker. worker.handler) o)
      (worker_shown row.number of_workers.rows ∙ ap (option_map shown_worker) here)

  pub ended : (of : Phase) → option_map shown_handler (found of row)
      ≡ rules.ended_handler (lent scopes of_workers of_registrations of_clients rest) (is_in of) (shown_worker row)
  ended of =
      by row.handler refl
      ∙ ap (λ o. option_and_then (λ handler. if is_in of handler.phase && rules.is_over (shown_worker row) handler then Some handler else None) o)
      (sym free)
    where
      over : (handler : HandlerRow) (b : Bool) → is_in of handler.phase ≡ b
          → (b && nat_le (length (calls_of of row.handlers)) handler.made) ≡ (b && rules.is_over (shown_worker row) (shown_handler handler))
      over handler true is =
          ap (λ (calls : List Call). nat_le (length calls) handler.made)
          (sym (ap (λ p. rules.calls_of (shown_worker row) p) (own_calls of handler.phase is) ∙ same_calls of row))
      over handler false is = refl

      settled : (handler : HandlerRow) (b : Bool) → (handler.unsettled == 0) ≡ b → handler.unsettled ≡ length (filter (is_unsettled_of row.number) rest.tasks)
          → option_map shown_handler (if has_ended of row.handlers handler then Some handler else None)
          ≡ option_and_then (λ h. if is_in of h.phase && rules.is_over (shown_worker row) h then Some h else None)
          (if unsettled then None else Some (shown_handler handler))
      settled handler true is counted =
          let none = none_passes (is_unsettled_of row.number) rest.tasks (grind (arith, nat_tests, is, counted)) in
          let same = over handler (is_in of handler.phase) refl in
          grind (arith, is, none, same)
      settled handler false is counted =
          let some = some_passes (is_unsettled_of row.number) rest.tasks (ap (λ n. n == 0) (sym counted) ∙ is) in
          grind (arith, is, some)

      by : (o : Option HandlerRow) → row.handler ≡ o
          → option_map shown_handler (option_and_then (λ handler. if has_ended of row.handlers handler then Some handler else None) o)
          ≡ option_and_then (λ h. if is_in of h.phase && rules.is_over (shown_worker row) h then Some h else None)
          (if unsettled then None else option_map shown_handler o)
      by None is = grind (arith)
      by (Some handler) is = settled handler (handler.unsettled == 0) refl (counted handler is)
        where
          counted : (h : HandlerRow) → row.handler ≡ Some h → h.unsettled ≡ length (filter (is_unsettled_of row.number) rest.tasks)
          counted h there =
              ap (λ o. option_map_or (λ (handler : HandlerRow). handler.unsettled) o 0) (sym there)
              ∙ (ap (λ o. option_map_or (λ (worker : WorkerRow). option_map_or (λ handler. handler.unsettled) worker.handler 0) o 0) (sym here)
              ∙ counts row.number)
