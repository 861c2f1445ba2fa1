-- A handler may go on by what its worker's row counts.
use Rattle.std.proofs.Common.{◌≡◌, ◌∙◌, ℕ, Bool, true, false, not, ◌==◌, ◌&&◌, ◌||◌, List, [], ◌∷◌, map, filter, length, Option, Some, None, option_map, option_and_then, refl, sym, ap, subst, arith, if◌then◌else◌}
use Rattle.std.specs.Prelude.{find}
use Rattle.std.specs.List.{list_any}
use Rattle.std.specs.Option.{option_map_or}
use Rattle.std.proofs.lemmas.Bool.Decides.{nat_tests}
use Rattle.sw_next.specs.Free.{activates, free_of}
use Rattle.sw_data.specs.declared.rows.HandlerRow.{HandlerRow}
use Rattle.sw_data.specs.declared.rows.WorkerRow.{WorkerRow}
use Rattle.sw_rules.specs.Rows.{free_handler, is_install, is_unsettled_of}
use Rattle.sw_rules.specs.State.{Handler, Worker}
use Rattle.sw_rules.specs.Tasks.{may_activate}
use Rattle.sw_tables.proofs.Lookups.{worker_shown}
use Rattle.sw_tables.proofs.Rows.{map_on}
use Rattle.sw_tables.specs.Lent.{shown_handler, shown_worker}
use Rattle.sw_state.specs.Hosted.{Hosted, IsJoined, state_of}
use Rattle.sw_worker.specs.Table.{runs_activate, worker_at}

any_counted : {X : Type 0} (test : X → Bool) (xs : List X) → (length (filter test xs) == 0) ≡ (if list_any test xs then false else true)
any_counted test [] = refl
any_counted test (x ∷ xs) = by (test x) (any_counted test xs)
  where
    by : (b : Bool) → (length (filter test xs) == 0) ≡ (if list_any test xs then false else true)
        → (length (if b then x ∷ filter test xs else filter test xs) == 0) ≡ (if b || list_any test xs then false else true)
    by true rest = grind (arith, nat_tests)
    by false rest = rest

-- the handler that may go on by the row of its worker is that of the state
free_shown : (host : Hosted) → IsJoined host → (n : ℕ)
    → option_map shown_handler (option_and_then free_of (worker_at n host.workers.rows)) ≡ free_handler (state_of host) n
free_shown host joined n =
    by (worker_at n host.workers.rows) refl
    ∙ ap (λ o. if list_any (is_unsettled_of n) host.tasks.rows then None else option_and_then (λ row. row.handler) o)
    (sym (worker_shown n host.workers.rows))
  where
    -- its own count, where it is the worker's
    counted : (row : WorkerRow) (handler : HandlerRow) → worker_at n host.workers.rows ≡ Some row → row.handler ≡ Some handler
        → handler.unsettled ≡ length (filter (is_unsettled_of n) host.tasks.rows)
    counted row handler here is =
        ap (λ o. option_map_or (λ (h : HandlerRow). h.unsettled) o 0) (sym is)
        ∙ (ap (λ o. option_map_or (λ (worker : WorkerRow). option_map_or (λ (h : HandlerRow). h.unsettled) worker.handler 0) o 0) (sym here)
        ∙ joined.counts n)

    free : (handler : HandlerRow) (none any : Bool) → none ≡ (if any then false else true)
        → option_map shown_handler (if none then Some handler else None) ≡ (if any then None else Some (shown_handler handler))
    free handler true true is = absurd cc
    free handler true false is = refl
    free handler false true is = refl
    free handler false false is = absurd cc

    nothing : (any : Bool) → ◌≡◌ {A = Option Handler} None (if any then None else None)
    nothing true = refl
    nothing false = refl

    handled : (row : WorkerRow) (o : Option HandlerRow) → worker_at n host.workers.rows ≡ Some row → row.handler ≡ o
        → option_map shown_handler (option_and_then (λ handler. if handler.unsettled == 0 then Some handler else None) o)
        ≡ (if list_any (is_unsettled_of n) host.tasks.rows then None else option_map shown_handler o)
    handled row None here is = nothing (list_any (is_unsettled_of n) host.tasks.rows)
    handled row (Some handler) here is =
        free handler (handler.unsettled == 0) (list_any (is_unsettled_of n) host.tasks.rows)
        (ap (λ m. m == 0) (counted row handler here is) ∙ any_counted (is_unsettled_of n) host.tasks.rows)

    by : (o : Option WorkerRow) → worker_at n host.workers.rows ≡ o
        → option_map shown_handler (option_and_then free_of o)
        ≡ (if list_any (is_unsettled_of n) host.tasks.rows then None else option_and_then (λ row. row.handler) (option_map shown_worker o))
    by None here = nothing (list_any (is_unsettled_of n) host.tasks.rows)
    by (Some row) here = handled row row.handler here refl

pub free_found : (host : Hosted) → IsJoined host → (n : ℕ) (o : Option WorkerRow) → o ≡ worker_at n host.workers.rows
    → option_map shown_handler (option_and_then free_of o) ≡ free_handler (state_of host) n
free_found host joined n o is = ap (λ row. option_map shown_handler (option_and_then free_of row)) is ∙ free_shown host joined n

-- ---- activate handlers

both_or_one : (b any : Bool) → (b && (if any then false else b)) ≡ (if any then false else b)
both_or_one true true = refl
both_or_one true false = refl
both_or_one false true = refl
both_or_one false false = refl

abbrev is_activate : HandlerRow → Bool
is_activate handler = not (is_install handler.phase)

-- an activate handler that may go on runs
runs_too : (host : Hosted) (row : WorkerRow) → worker_at row.number host.workers.rows ≡ Some row
    → activates (state_of host) row ≡ may_activate (state_of host) (shown_worker row)
runs_too host row here =
    subst (λ (o : Option Worker). (runs_activate row && shown o) ≡ shown o)
    (sym (worker_shown row.number host.workers.rows ∙ ap (option_map shown_worker) here)) (by row.handler any)
  where
    any : Bool
    any = list_any (is_unsettled_of row.number) host.tasks.rows

    shown : Option Worker → Bool
    shown o = option_map_or (λ (handler : Handler). not (is_install handler.phase)) (if any then None else option_and_then (λ (worker : Worker). worker.handler) o) false

    by : (o : Option HandlerRow) (b : Bool)
        → (option_map_or is_activate o false && option_map_or (λ (handler : Handler). not (is_install handler.phase)) (if b then None else option_map shown_handler o) false)
        ≡ option_map_or (λ (handler : Handler). not (is_install handler.phase)) (if b then None else option_map shown_handler o) false
    by None true = refl
    by None false = refl
    by (Some handler) true = both_or_one (is_activate handler) true
    by (Some handler) false = both_or_one (is_activate handler) false

find_alike : {X : Type 0} (p q : X → Bool) (xs : List X) → map p xs ≡ map q xs → find p xs ≡ find q xs
find_alike p q [] alike = refl
find_alike p q (x ∷ xs) alike =
    let first : p x ≡ q x = cc in
    let rest : map p xs ≡ map q xs = cc in
    grind (arith, first, find_alike p q xs rest)

-- the first activate handler that runs and may go on is the first that may go on
pub activating_found : (host : Hosted) → IsJoined host
    → find (activates (state_of host)) host.workers.rows ≡ find (λ (row : WorkerRow). may_activate (state_of host) (shown_worker row)) host.workers.rows
activating_found host joined =
    find_alike (activates (state_of host)) (λ (row : WorkerRow). may_activate (state_of host) (shown_worker row)) host.workers.rows
    (map_on (λ (row : WorkerRow). row.number) (activates (state_of host)) (λ (row : WorkerRow). may_activate (state_of host) (shown_worker row))
    host.workers.rows joined.linked.slots.worker_places (runs_too host))
