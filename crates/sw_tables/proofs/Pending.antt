-- Handlers and fetch events are pending on workers in slots alone.
use Rattle.std.proofs.Common.{◌≡◌, ◌∙◌, ℕ, Bool, true, false, ◌&&◌, ◌||◌, ◌==◌, List, [], ◌∷◌, All, map, Option, Some, None, option_map, is_some, refl, sym, ap, arith}
use Rattle.std.specs.Prelude.{find}
use Rattle.std.specs.List.{list_any}
use Rattle.std.specs.Option.{option_map_or}
use Rattle.std.proofs.lemmas.Bool.Decides.{nat_tests}
use Rattle.std.proofs.lemmas.List.Elements.{All-head, All-tail}
use Rattle.sw_client.specs.Table as clients
use Rattle.sw_data.specs.declared.rows.HandlerRow.{HandlerRow}
use Rattle.sw_data.specs.declared.rows.WorkerRow.{WorkerRow}
use Rattle.sw_data.specs.declared.workers.Slot.{Slot}
use Rattle.sw_data.specs.declared.workers.Slot.TheVariants as place
use Rattle.sw_reg.specs.Table as registrations
use Rattle.sw_reg.specs.Table.{slot_of}
use Rattle.sw_rules.specs.Rows.{has_pending_worker}
use Rattle.sw_rules.specs.State.{FetchEvent}
use Rattle.sw_scope.specs.Scopes.{Scopes}
use Rattle.sw_tables.proofs.Moves.{there}
use Rattle.sw_tables.proofs.Rows.{found_number, no_row}
use Rattle.sw_tables.proofs.Standing.{activated_state, is_same, neither, runs_in, stands, stands_where}
use Rattle.sw_tables.specs.Lent.{Rest, lent, shown_handler, shown_worker}
use Rattle.sw_tables.specs.Linked.{HasSlots}
use Rattle.sw_tables.specs.Shifts.{IsQuiet, is_of, is_pending_in}
use Rattle.sw_worker.specs.Table as workers
use Rattle.sw_worker.specs.Table.{has_pending, has_worker, is_activated, is_on, is_running, worker_at}

pub any_found : {X : Type 0} (test : X → Bool) (xs : List X) → list_any test xs ≡ is_some (find test xs)
any_found test [] = refl
any_found test (x ∷ xs) = grind (arith, any_found test xs)

pub any_map : {X Y : Type 0} (test : Y → Bool) (f : X → Y) (xs : List X) → list_any test (map f xs) ≡ list_any (λ x. test (f x)) xs
any_map test f [] = refl
any_map test f (x ∷ xs) = grind (arith, any_map test f xs)

pub any_here : {X : Type 0} (p test : X → Bool) (xs : List X) (x : X) → find p xs ≡ Some x → test x ≡ true → list_any test xs ≡ true
any_here p test [] x is passes = absurd cc
any_here p test (y ∷ ys) x is passes = grind (arith, any_here p test ys x)

pub handler_shown : (o : Option HandlerRow) → is_some (option_map shown_handler o) ≡ is_some o
handler_shown None = refl
handler_shown (Some handler) = refl

-- a worker on which a fetch event is pending is activated
pub on_activated : (rows : List WorkerRow) (n : ℕ) (events : List FetchEvent) → All (λ event. has_worker is_activated event.worker rows ≡ true) events → list_any (is_on n) events ≡ true → has_worker is_activated n rows ≡ true
on_activated rows n [] all is = absurd cc
on_activated rows n (e ∷ es) all is = by (e.worker == n) refl (on_activated rows n es (All-tail (λ event. has_worker is_activated event.worker rows ≡ true) e es all))
  where
    by : (b : Bool) → (e.worker == n) ≡ b → (list_any (is_on n) es ≡ true → has_worker is_activated n rows ≡ true) → has_worker is_activated n rows ≡ true
    by true here later =
        let same : e.worker ≡ n = grind (arith, nat_tests, here) in
        ap (λ m. has_worker is_activated m rows) (sym same) ∙ All-head (λ event. has_worker is_activated event.worker rows ≡ true) e es all
    by false other later = later (grind (arith, other, is))

module _ (of_workers : workers.Table) (of_registrations : registrations.Table) (has : HasSlots of_workers of_registrations) (registration : ℕ) where
  abbrev pending_in : Slot → Bool
  pending_in p = is_pending_in p registration of_workers of_registrations

  pending_there : (p : Slot) (n : ℕ) → slot_of p registration of_registrations.rows ≡ Some n → pending_in p ≡ has_pending n of_workers
  pending_there p n is = ap (λ o. option_map_or (λ number. has_pending number of_workers) o false) is

  -- a worker on which something is pending
  abbrev pends : WorkerRow → Bool
  pends row = is_of registration row && (is_some (option_map shown_handler row.handler) || list_any (λ event. event.worker == row.number) of_workers.events)

  slot_pends : (p : Slot) → pending_in p ≡ true → list_any pends of_workers.rows ≡ true
  slot_pends p is =
      let found = there (λ n. has_pending n of_workers) (slot_of p registration of_registrations.rows) is in
      let stood = stands of_workers of_registrations has p registration found.0 found.1 in
      let number = found_number (λ row. row.number) found.0 of_workers.rows stood.0 stood.1.is in
      let own : is_of registration stood.0 ≡ true = is_same stood.0.registration registration stood.1.owner in
      let running = ap (λ o. option_map_or is_running o false) stood.1.is in
      let events = ap (λ m. list_any (is_on m) of_workers.events) number in
      any_here (λ row. row.number == found.0) pends of_workers.rows stood.0 stood.1.is
      (cc (own, handler_shown stood.0.handler, running, found.2))

  row_rests : pending_in place.Installing ≡ false → pending_in place.Active ≡ false → (row : WorkerRow) → worker_at row.number of_workers.rows ≡ Some row → pends row ≡ false
  row_rests installing active row is = by (is_of registration row) refl
    where
      rests_in : (p : Slot) → pending_in p ≡ false → slot_of p registration of_registrations.rows ≡ Some row.number → has_pending row.number of_workers ≡ false
      rests_in p quiet here = sym (pending_there p row.number here) ∙ quiet

      rests : (p : Slot) → slot_of p registration of_registrations.rows ≡ Some row.number → (p ≡ place.Waiting → ⊥) → has_pending row.number of_workers ≡ false
      rests place.Installing here never = rests_in place.Installing installing here
      rests place.Waiting here never = absurd (never refl)
      rests place.Active here never = rests_in place.Active active here

      idle : is_of registration row ≡ true → (b : Bool) → is_some row.handler ≡ b → b ≡ false
      idle own false is_it = refl
      idle own true runs =
          let at = runs_in row.state ((has.rows row.number row is).handler runs) in
          let here = stands_where of_workers of_registrations has at.0 registration row.number row is own at.1 in
          sym runs ∙ (ap (λ o. option_map_or is_running o false) (sym is) ∙ (neither _ _ (rests at.0 here at.2)).0)

      none_on : is_of registration row ≡ true → (b : Bool) → list_any (is_on row.number) of_workers.events ≡ b → b ≡ false
      none_on own false is_it = refl
      none_on own true on =
          let found = there is_activated (worker_at row.number of_workers.rows) (on_activated of_workers.rows row.number of_workers.events has.events on) in
          let same : found.0 ≡ row = cc (found.1, is) in
          let state = ap (λ (w : WorkerRow). is_activated w) (sym same) ∙ found.2 in
          let here = stands_where of_workers of_registrations has place.Active registration row.number row is own (activated_state row.state row state) in
          sym on ∙ (neither _ _ (rests_in place.Active active here)).1

      by : (b : Bool) → is_of registration row ≡ b → pends row ≡ false
      by false other = cc other
      by true own = cc (own, handler_shown row.handler, idle own _ refl, none_on own _ refl)

  pub pending_worker : (scopes : Scopes) (of_clients : clients.Table) (rest : Rest)
      → (pending_in place.Installing || (pending_in place.Waiting || pending_in place.Active)) ≡ has_pending_worker (lent scopes of_workers of_registrations of_clients rest) registration
  pending_worker scopes of_clients rest =
      by (pending_in place.Installing) (pending_in place.Waiting) (pending_in place.Active) refl refl refl
      ∙ sym (any_map (λ row. row.registration == registration && (is_some row.handler || list_any (λ event. event.worker == row.number) of_workers.events)) shown_worker of_workers.rows)
    where
      by : (i w a : Bool) → pending_in place.Installing ≡ i → pending_in place.Waiting ≡ w → pending_in place.Active ≡ a
          → (pending_in place.Installing || (pending_in place.Waiting || pending_in place.Active)) ≡ list_any pends of_workers.rows
      by true w a is-i is-w is-a = cc (is-i, slot_pends place.Installing is-i)
      by false true a is-i is-w is-a = cc (is-i, is-w, slot_pends place.Waiting is-w)
      by false false true is-i is-w is-a = cc (is-i, is-w, is-a, slot_pends place.Active is-a)
      by false false false is-i is-w is-a =
          cc (is-i, is-w, is-a, any_found pends of_workers.rows, no_row (λ row. row.number) pends of_workers.rows has.worker_places (row_rests is-i is-a))

  pub none_pending : (pending_in place.Installing || (pending_in place.Waiting || pending_in place.Active)) ≡ false → IsQuiet registration of_workers of_registrations
  none_pending is p n here =
      let first = neither (pending_in place.Installing) (pending_in place.Waiting || pending_in place.Active) is in
      let later = neither (pending_in place.Waiting) (pending_in place.Active) first.1 in
      by p first.0 later.0 later.1 here
    where
      by : (p : Slot) → pending_in place.Installing ≡ false → pending_in place.Waiting ≡ false → pending_in place.Active ≡ false → slot_of p registration of_registrations.rows ≡ Some n → has_pending n of_workers ≡ false
      by place.Installing i w a here = sym (pending_there place.Installing n here) ∙ i
      by place.Waiting i w a here = sym (pending_there place.Waiting n here) ∙ w
      by place.Active i w a here = sym (pending_there place.Active n here) ∙ a
