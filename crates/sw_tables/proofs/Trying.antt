-- Try Clear and Try Activate, by what their tests answer.
use Rattle.std.proofs.Common.{◌≡◌, ◌∙◌, ℕ, Bool, true, false, not, ◌&&◌, ◌||◌, ◌==◌, All, Option, Some, None, option_map, option_and_then, sym, ap, subst, refl, if◌then◌else◌}
use Rattle.std.specs.List.{list_any}
use Rattle.std.specs.Option.{option_map_or}
use Rattle.std.proofs.lemmas.Bool.{and_parts}
use Rattle.std.proofs.lemmas.List.{append-nil}
use Rattle.sw_client.specs.Table as clients
use Rattle.sw_data.specs.declared.rows.WorkerRow.{WorkerRow}
use Rattle.sw_data.specs.declared.workers.Slot.{Slot}
use Rattle.sw_data.specs.declared.workers.Slot.TheVariants as place
use Rattle.sw_data.specs.declared.workers.WorkerState.{WorkerState}
use Rattle.sw_data.specs.declared.workers.WorkerState.TheVariants as worker_state
use Rattle.sw_reg.specs.Table as registrations
use Rattle.sw_reg.specs.Table.{slot_of}
use Rattle.sw_rules.specs.Noticing.{Did, NoticeList}
use Rattle.sw_rules.specs.Registrations as rules
use Rattle.sw_rules.specs.Registrations.{activate, chosen, clear, try_activate, try_clear}
use Rattle.sw_rules.specs.Rows as found
use Rattle.sw_rules.specs.Rows.{has_pending_worker, is_used, slot_worker}
use Rattle.sw_rules.specs.State.{State, Worker}
use Rattle.sw_rules.specs.Told.{quiet}
use Rattle.sw_scope.specs.Scopes.{Scopes}
use Rattle.sw_tables.proofs.Pending.{handler_shown}
use Rattle.sw_tables.proofs.Rows.{found_number}
use Rattle.sw_tables.proofs.Shown.{slot_shown}
use Rattle.sw_tables.proofs.Standing.{stands}
use Rattle.sw_tables.proofs.Users.{used_count}
use Rattle.sw_tables.specs.Lent.{Rest, lent, shown_worker}
use Rattle.sw_tables.specs.Linked.{HasSlots, IsNoted}
use Rattle.sw_tables.specs.Parts.{is_activating}
use Rattle.sw_tables.specs.Shifts.{is_free, may_replace, picked}
use Rattle.sw_worker.specs.Table as workers
use Rattle.sw_worker.specs.Table.{has_pending, is_running, worker_at}

pub quiet_did : (state : State) (before : NoticeList) → Did (quiet state) before before state
quiet_did state before = record { state = refl; notices = sym (append-nil before.rows) }

pub without : (b : Bool) → not b ≡ true → b ≡ false
without true is = absurd cc
without false is = refl

needed : (a b : Bool) → (not a && not b) ≡ false → (a || b) ≡ true
needed true b is = refl
needed false true is = refl
needed false false is = absurd cc

idle : (a b : Bool) → (not a && not b) ≡ true → (a || b) ≡ false
idle true b is = absurd cc
idle false true is = absurd cc
idle false false is = refl

pub used_not_free : (state : State) (registration : ℕ) → is_used state registration ≡ true → false ≡ is_free state registration
used_not_free state registration is = cc is

pub unused_free : (state : State) (registration : ℕ) (pending : Bool) → is_used state registration ≡ false → pending ≡ has_pending_worker state registration → not pending ≡ is_free state registration
unused_free state registration pending is same = cc (is, same)

pub not_cleared : (state : State) (registration : ℕ) (before : NoticeList) → is_free state registration ≡ false → Did (try_clear state registration) before before state
unfolding try_clear
not_cleared state registration before is =
    rw (needed (is_used state registration) (has_pending_worker state registration) is) (quiet_did state before)

pub is_cleared : (state : State) (registration : ℕ) (before after : NoticeList) (new : State) → is_free state registration ≡ true → Did (clear state registration) before after new → Did (try_clear state registration) before after new
unfolding try_clear
is_cleared state registration before after new is did =
    rw (idle (is_used state registration) (has_pending_worker state registration) is) did

pub not_activated : (state : State) (registration : ℕ) (before : NoticeList) → chosen state registration ≡ None → Did (try_activate state registration) before before state
unfolding try_activate
not_activated state registration before is =
    subst (λ (o : Option ℕ). Did (elim o [ None ↦ quiet state | Some worker ↦ activate state registration worker ]) before before state) (sym is) (quiet_did state before)

pub is_activated : (state : State) (registration worker : ℕ) (before after : NoticeList) (new : State) → chosen state registration ≡ Some worker → Did (activate state registration worker) before after new
    → Did (try_activate state registration) before after new
unfolding try_activate
is_activated state registration worker before after new is did =
    subst (λ (o : Option ℕ). Did (elim o [ None ↦ quiet state | Some number ↦ activate state registration number ]) before after new) (sym is) did

-- ---- the worker that Try Activate makes active

kept_number : (test : ℕ → Bool) (o : Option ℕ) (n : ℕ) → option_and_then (λ m. if test m then Some m else None) o ≡ Some n → (o ≡ Some n) × (test n ≡ true)
kept_number test None n is = absurd cc
kept_number test (Some m) n is = by (test m) refl
  where
    by : (b : Bool) → test m ≡ b → (Some m ≡ Some n) × (test n ≡ true)
    by true passes =
        let same : Some m ≡ Some n = cc (is, passes) in
        let one : m ≡ n = cc same in
        (same, ap test (sym one) ∙ passes)
    by false fails = absurd (cc (is, fails))

activates : (state : WorkerState) (row : Worker) → is_activating state ≡ found.is_activating (record row { state = state })
activates worker_state.Parsed row = refl
activates worker_state.Installing row = refl
activates worker_state.Installed row = refl
activates worker_state.Activating row = refl
activates worker_state.Activated row = refl
activates worker_state.Redundant row = refl

module _ (of_workers : workers.Table) (of_registrations : registrations.Table) (of_clients : clients.Table) (registration : ℕ) where
  abbrev slot : Slot → Option ℕ
  slot p = slot_of p registration of_registrations.rows

  abbrev replaces : ℕ → Bool
  replaces n = option_map_or (λ m. may_replace registration n m of_workers of_clients) (slot place.Active) true

  pub picked_waits : (n : ℕ) → picked registration of_workers of_registrations of_clients ≡ Some n → slot place.Waiting ≡ Some n
  picked_waits n is = (kept_number replaces (slot place.Waiting) n is).0

  pub picked_quiet : (n m : ℕ) → picked registration of_workers of_registrations of_clients ≡ Some n → slot place.Active ≡ Some m → has_pending m of_workers ≡ false
  picked_quiet n m is acts =
      let may : may_replace registration n m of_workers of_clients ≡ true = ap (λ o. option_map_or (λ k. may_replace registration n k of_workers of_clients) o true) (sym acts) ∙ (kept_number replaces (slot place.Waiting) n is).1 in
      without (has_pending m of_workers) (and_parts _ _ (and_parts _ _ may).0).1

  module _ (has : HasSlots of_workers of_registrations) (noted : All (IsNoted of_workers) of_clients.rows) (scopes : Scopes) (rest : Rest) where
    abbrev state : State
    state = lent scopes of_workers of_registrations of_clients rest

    one_replaces : (n m : ℕ) (waiting active : WorkerRow) → worker_at n of_workers.rows ≡ Some waiting → worker_at m of_workers.rows ≡ Some active
        → may_replace registration n m of_workers of_clients ≡ rules.may_replace state registration (shown_worker waiting) (Some (shown_worker active))
    one_replaces n m waiting active is-n is-m =
        let number = found_number (λ row. row.number) m of_workers.rows active is-m in
        let activating = ap (λ o. option_map_or (λ row. is_activating row.state) o false) is-m ∙ activates active.state (shown_worker active) in
        let running = ap (λ o. option_map_or is_running o false) is-m ∙ sym (handler_shown active.handler) in
        let events = ap (λ k. list_any (λ event. event.worker == k) of_workers.events) (sym number) in
        let skips = ap (λ o. option_map_or (λ row. row.skip_waiting) o false) is-n in
        let used = sym (used_count registration scopes of_workers of_registrations of_clients rest has noted) in
        λ i. not (activating i) && not (running i || events i) && (skips i || not (used i))

    replaces_shown : (n : ℕ) (waiting : WorkerRow) → worker_at n of_workers.rows ≡ Some waiting → replaces n ≡ rules.may_replace state registration (shown_worker waiting) (slot_worker state place.Active registration)
    replaces_shown n waiting is-n =
        by (slot place.Active) refl ∙ ap (rules.may_replace state registration (shown_worker waiting)) (sym (slot_shown of_workers of_registrations scopes of_clients rest place.Active registration has))
      where
        by : (o : Option ℕ) → slot place.Active ≡ o
            → option_map_or (λ m. may_replace registration n m of_workers of_clients) o true ≡ rules.may_replace state registration (shown_worker waiting) (option_map shown_worker (option_and_then (λ m. worker_at m of_workers.rows) o))
        by None is = refl
        by (Some m) is =
            let stood = stands of_workers of_registrations has place.Active registration m is in
            one_replaces n m waiting stood.0 is-n stood.1.is
            ∙ ap (λ o. rules.may_replace state registration (shown_worker waiting) (option_map shown_worker o)) (sym stood.1.is)

    abbrev taken : Worker → Option ℕ
    taken waiting = if rules.may_replace state registration waiting (slot_worker state place.Active registration) then Some waiting.number else None

    pub picked_chosen : picked registration of_workers of_registrations of_clients ≡ chosen state registration
    picked_chosen =
        by (slot place.Waiting) refl ∙ ap (option_and_then taken) (sym (slot_shown of_workers of_registrations scopes of_clients rest place.Waiting registration has))
      where
        by : (o : Option ℕ) → slot place.Waiting ≡ o
            → option_and_then (λ n. if replaces n then Some n else None) o ≡ option_and_then taken (option_map shown_worker (option_and_then (λ n. worker_at n of_workers.rows) o))
        by None is = refl
        by (Some n) is =
            let stood = stands of_workers of_registrations has place.Waiting registration n is in
            let number = sym (found_number (λ row. row.number) n of_workers.rows stood.0 stood.1.is) in
            let may = replaces_shown n stood.0 stood.1.is in
            (λ i. if may i then Some (number i) else None)
            ∙ ap (λ o. option_and_then taken (option_map shown_worker o)) (sym stood.1.is)
