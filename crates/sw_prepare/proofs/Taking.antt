-- The waiting worker takes the place of the active one exactly where Try Activate chooses it, in the tables as they will stand.
use Rattle.std.proofs.Common.{◌≡◌, ◌∙◌, ◌<◌, ◌≤◌, ℕ, Bool, true, false, not, ◌==◌, ◌&&◌, ◌||◌, nat_lt, List, [], ◌∷◌, All, Option, Some, None, option_map, option_and_then, is_some, length, refl, sym, ap, arith, if◌then◌else◌}
use Rattle.std.specs.Prelude.{is_none}
use Rattle.std.specs.List.{list_any}
use Rattle.std.specs.Option.{option_map_or}
use Rattle.std.proofs.lemmas.Bool.Decides.{nat_tests}
use Rattle.sw_client.specs.Table as clients
use Rattle.sw_client.specs.Table.{users_of}
use Rattle.sw_data.specs.declared.rows.ClientRow.{ClientRow}
use Rattle.sw_data.specs.declared.rows.HandlerRow.{HandlerRow}
use Rattle.sw_data.specs.declared.rows.WorkerRow.{WorkerRow}
use Rattle.sw_data.specs.declared.workers.Slot.TheVariants as slot
use Rattle.sw_data.specs.declared.workers.WorkerState.{WorkerState}
use Rattle.sw_data.specs.declared.workers.WorkerState.TheVariants as worker_state
use Rattle.sw_reg.specs.Table as registrations
use Rattle.sw_reg.specs.Table.{slot_of}
use Rattle.sw_rules.specs.Activating.{become_activated}
use Rattle.sw_rules.specs.Clients as definitions
use Rattle.sw_rules.specs.Installing.{end_handler}
use Rattle.sw_rules.specs.Registrations as rules
use Rattle.sw_rules.specs.Registrations.{become}
use Rattle.sw_rules.specs.Rows.{changed, in_slot, is_number, is_used}
use Rattle.sw_rules.specs.State.{State, FetchEvent}
use Rattle.sw_rules.specs.Told.{followed, keep}
use Rattle.sw_scope.specs.Scopes.{Scopes}
use Rattle.sw_tables.proofs.Lives.{Rests, activated_move, rests}
use Rattle.sw_tables.proofs.Moves.{same_number}
use Rattle.sw_tables.proofs.OfClients.{left_linked, left_rows}
use Rattle.sw_tables.proofs.OneMoves.{ended_puts, ended_rests, is_there_passes, one_linked, put_linked, skipping_puts}
use Rattle.sw_tables.proofs.Rows.{at_changed, at_others}
use Rattle.sw_tables.proofs.Shown.{one_shown}
use Rattle.sw_tables.proofs.Trying.{picked_chosen}
use Rattle.sw_tables.proofs.Users.{used_count}
use Rattle.sw_tables.specs.Lent.{Rest, lent}
use Rattle.sw_tables.specs.Linked.{HasSlots, IsNoted, Linked, registration_of}
use Rattle.sw_tables.specs.Parts.{is_activating, is_of_in}
use Rattle.sw_tables.specs.Shifts.{may_replace, picked}
use Rattle.sw_worker.specs.Edits.{advanced, ended, skipping}
use Rattle.sw_worker.specs.Table as workers
use Rattle.sw_worker.specs.Table.{events_on, has_pending, has_worker, is_on, is_running, is_worker, worker_at}
use Rattle.sw_prepare.proofs.ActivationChanges.{activated_state, client_left, ended_state, left_changes}
use Rattle.sw_prepare.specs.Taking.{activated, flagged, is_busy, is_busy_in, left_by, rested, skips_in, takes_place}

-- ---- whether the waiting worker is chosen

module _ (registration : ℕ) (of_workers : workers.Table) (of_registrations : registrations.Table) (of_clients : clients.Table) where
  abbrev used : Bool
  used = nat_lt 0 (users_of registration of_clients.rows)

  picked_takes : is_some (picked registration of_workers of_registrations of_clients)
      ≡ takes_place (is_busy_in registration of_workers of_registrations) (skips_in registration of_workers of_registrations) used registration of_registrations
  picked_takes = by (slot_of slot.Waiting registration of_registrations.rows) (slot_of slot.Active registration of_registrations.rows)
    where
      bools : (n : ℕ) (acts pends may : Bool) → is_some (if not acts && not pends && may then Some n else None) ≡ (not (acts || pends) && may)
      bools n true pends may = refl
      bools n false true may = refl
      bools n false false true = refl
      bools n false false false = refl

      by : (w a : Option ℕ)
          → is_some (option_and_then (λ waiting. if option_map_or (λ active. may_replace registration waiting active of_workers of_clients) a true then Some waiting else None) w)
          ≡ (is_some w && (is_none a || (not (option_map_or (λ active. is_busy active of_workers) a false) && (option_map_or (λ waiting. has_worker (λ row. row.skip_waiting) waiting of_workers.rows) w false || not used))))
      by None a = refl
      by (Some n) None = refl
      by (Some n) (Some m) =
          bools n (has_worker (λ row. is_activating row.state) m of_workers.rows) (has_pending m of_workers)
          (has_worker (λ row. row.skip_waiting) n of_workers.rows || not used)

  module _ (has : HasSlots of_workers of_registrations) (noted : All (IsNoted of_workers) of_clients.rows) (scopes : Scopes) (rest : Rest) where
    pub chosen_takes : {takes busy skips uses : Bool} → takes ≡ takes_place busy skips uses registration of_registrations
        → busy ≡ is_busy_in registration of_workers of_registrations → skips ≡ skips_in registration of_workers of_registrations → uses ≡ used
        → takes ≡ is_some (rules.chosen (lent scopes of_workers of_registrations of_clients rest) registration)
    chosen_takes is is_busy is_skipping is_used =
        is
        ∙ ((λ i. takes_place (is_busy i) (is_skipping i) (is_used i) registration of_registrations)
        ∙ (sym picked_takes ∙ ap is_some (picked_chosen of_workers of_registrations of_clients registration has noted scopes rest)))

-- ---- one worker's row has changed

-- what an edit doesn't change is found as before
has_same : (test : WorkerRow → Bool) (worker : ℕ) (edit : WorkerRow → WorkerRow) → ((row : WorkerRow) → (edit row).number ≡ row.number) → ((row : WorkerRow) → test (edit row) ≡ test row)
    → (n : ℕ) (rows : List WorkerRow) → has_worker test n (changed (is_worker worker) edit rows) ≡ has_worker test n rows
has_same test worker edit numbers same n [] = refl
has_same test worker edit numbers same n (x ∷ xs) = grind (arith, nat_tests, numbers x, same x, has_same test worker edit numbers same n xs)

module _ (worker : ℕ) (of_workers : workers.Table) (registration : ℕ) (of : registrations.Table) where
  -- a worker whose flag is set is as busy as before
  pub flagged_busy : is_busy_in registration of_workers of ≡ is_busy_in registration (flagged worker of_workers) of
  flagged_busy = by (slot_of slot.Active registration of.rows)
    where
      by : (o : Option ℕ) → option_map_or (λ n. is_busy n of_workers) o false ≡ option_map_or (λ n. is_busy n (flagged worker of_workers)) o false
      by None = refl
      by (Some n) =
          let acts = has_same (λ row. is_activating row.state) worker skipping (λ row. refl) (λ row. refl) n of_workers.rows in
          let runs = has_same is_running worker skipping (λ row. refl) (λ row. refl) n of_workers.rows in
          λ i. sym acts i || (sym runs i || list_any (is_on n) of_workers.events)

  -- its flag is set, the others' flags are as before
  pub flagged_skips : workers.is_there worker of_workers.rows ≡ true
      → (is_number (slot_of slot.Waiting registration of.rows) worker || skips_in registration of_workers of) ≡ skips_in registration (flagged worker of_workers) of
  flagged_skips is_there = by (slot_of slot.Waiting registration of.rows)
    where
      set : (o : Option WorkerRow) → is_some o ≡ true → option_map_or (λ row. row.skip_waiting) (option_map skipping o) false ≡ true
      set None is = absurd cc
      set (Some row) is = refl

      flag : (n : ℕ) (b : Bool) → (n == worker) ≡ b → (b || has_worker (λ row. row.skip_waiting) n of_workers.rows) ≡ has_worker (λ row. row.skip_waiting) n (flagged worker of_workers).rows
      flag n true is =
          sym (ap (λ m. has_worker (λ row. row.skip_waiting) m (flagged worker of_workers).rows) (same_number n worker is)
          ∙ (ap (λ o. option_map_or (λ row. row.skip_waiting) o false) (at_changed (λ row. row.number) skipping (λ row. refl) worker of_workers.rows)
          ∙ set (worker_at worker of_workers.rows) is_there))
      flag n false other =
          ap (λ o. option_map_or (λ row. row.skip_waiting) o false) (sym (at_others (λ row. row.number) skipping (λ row. refl) n worker other of_workers.rows))

      by : (o : Option ℕ) → (is_number o worker || option_map_or (λ n. has_worker (λ row. row.skip_waiting) n of_workers.rows) o false)
          ≡ option_map_or (λ n. has_worker (λ row. row.skip_waiting) n (flagged worker of_workers).rows) o false
      by None = refl
      by (Some n) = flag n (n == worker) refl

-- a worker whose registration is known is there
pub owner_there : (worker registration : ℕ) (rows : List WorkerRow) → registration_of rows worker ≡ Some registration → workers.is_there worker rows ≡ true
owner_there worker registration rows = by (worker_at worker rows)
  where
    by : (o : Option WorkerRow) → option_map (λ row. row.registration) o ≡ Some registration → is_some o ≡ true
    by None is = absurd cc
    by (Some row) is = refl

module _ (worker registration : ℕ) (of_workers : workers.Table) (of : registrations.Table) (of_clients : clients.Table) (scopes : Scopes) where
  pub flagged_linked : registration_of of_workers.rows worker ≡ Some registration → Linked scopes of_workers of of_clients → Linked scopes (flagged worker of_workers) of of_clients
  flagged_linked owner linked =
      put_linked (λ row. true) worker skipping of_workers (flagged worker of_workers) of skipping_puts linked.slots
      (is_there_passes (worker_at worker of_workers.rows) (owner_there worker registration of_workers.rows owner)) refl scopes of_clients linked

  pub flagged_shown : (rest : Rest) → lent scopes (flagged worker of_workers) of of_clients rest ≡ definitions.flagged worker (lent scopes of_workers of of_clients rest)
  flagged_shown rest =
      one_shown worker skipping (λ row. record row { skip_waiting = true }) (λ row. refl) of_workers (flagged worker of_workers) of of scopes of_clients rest refl refl

  -- ---- an activate handler that ends

  abbrev rests_then : workers.Table
  rests_then = rested worker of_workers

  abbrev acts_then : workers.Table
  acts_then = activated worker rests_then

  module _ (runs : has_worker is_running worker of_workers.rows ≡ true) (acts : has_worker (is_of_in is_activating registration) worker of_workers.rows ≡ true) (linked : Linked scopes of_workers of of_clients) where
    pub rested_linked : Linked scopes rests_then of of_clients
    rested_linked = put_linked is_running worker ended of_workers rests_then of ended_puts linked.slots runs refl scopes of_clients linked

    resting : (row : WorkerRow) × Rests is_activating registration worker row rests_then
    resting = rests is_activating registration worker rests_then (ended_rests is_activating registration worker of_workers rests_then refl acts)

    pub activated_linked : Linked scopes acts_then of of_clients
    activated_linked =
        one_linked registration worker resting.0 (advanced worker_state.Activated) _ _ _ _ _
        (activated_move registration worker resting.0 rests_then acts_then of rested_linked.slots resting.1 refl) rested_linked.slots scopes of_clients rested_linked

    -- the worker is in its slot, and only fetch events can be pending on it
    pub activated_busy : nat_lt 0 (length (events_on worker of_workers.events)) ≡ is_busy_in registration acts_then of
    activated_busy =
        counted of_workers.events
        ∙ sym (ap (λ o. option_map_or (λ n. is_busy n acts_then) o false) stands
        ∙ ap (λ o. option_map_or (λ row. is_activating row.state) o false || (option_map_or is_running o false || list_any (is_on worker) of_workers.events)) here
        ∙ ap (λ b. b || list_any (is_on worker) of_workers.events) (idle resting.0.handler resting.1.handler))
      where
        counted : (events : List FetchEvent) → nat_lt 0 (length (events_on worker events)) ≡ list_any (is_on worker) events
        counted [] = refl
        counted (x ∷ xs) = grind (arith, nat_tests, counted xs)

        acting : (state : WorkerState) → is_activating state ≡ true → in_slot slot.Active state ≡ true
        acting worker_state.Activating is = refl
        acting worker_state.Parsed is = absurd cc
        acting worker_state.Installing is = absurd cc
        acting worker_state.Installed is = absurd cc
        acting worker_state.Activated is = absurd cc
        acting worker_state.Redundant is = absurd cc

        stands : slot_of slot.Active registration of.rows ≡ Some worker
        stands =
            ap (λ q. slot_of slot.Active q of.rows) (sym resting.1.of)
            ∙ (rested_linked.slots.rows worker resting.0 resting.1.here).slots slot.Active (acting resting.0.state resting.1.state)

        here : worker_at worker acts_then.rows ≡ Some (advanced worker_state.Activated resting.0)
        here =
            at_changed (λ row. row.number) (advanced worker_state.Activated) (λ row. refl) worker rests_then.rows
            ∙ ap (option_map (advanced worker_state.Activated)) resting.1.here

        idle : (o : Option HandlerRow) → is_none o ≡ true → is_some o ≡ false
        idle None is = refl
        idle (Some handler) is = absurd cc

    pub activated_skips : skips_in registration of_workers of ≡ skips_in registration acts_then of
    activated_skips = by (slot_of slot.Waiting registration of.rows)
      where
        by : (o : Option ℕ) → option_map_or (λ n. has_worker (λ row. row.skip_waiting) n of_workers.rows) o false
            ≡ option_map_or (λ n. has_worker (λ row. row.skip_waiting) n acts_then.rows) o false
        by None = refl
        by (Some n) =
            sym (has_same (λ row. row.skip_waiting) worker (advanced worker_state.Activated) (λ row. refl) (λ row. refl) n rests_then.rows
            ∙ has_same (λ row. row.skip_waiting) worker ended (λ row. refl) (λ row. refl) n of_workers.rows)

  pub rested_shown : (rest : Rest) → lent scopes rests_then of of_clients rest ≡ ended_state worker (lent scopes of_workers of of_clients rest)
  unfolding end_handler
  rested_shown rest =
      one_shown worker ended (λ row. record row { handler = None }) (λ row. refl) of_workers rests_then of of scopes of_clients rest refl refl

  pub activated_shown : (rest : Rest) → lent scopes acts_then of of_clients rest ≡ activated_state registration worker (lent scopes rests_then of of_clients rest)
  unfolding become_activated followed keep become
  activated_shown rest =
      one_shown worker (advanced worker_state.Activated) (λ row. record row { state = worker_state.Activated }) (λ row. refl) rests_then acts_then of of scopes of_clients rest refl refl

-- ---- a client that has left

pub some_use : (n : ℕ) → 0 < n → nat_lt 0 n ≡ true
some_use n is = grind (arith, nat_tests, is)

pub none_use : (n : ℕ) → n ≤ 0 → nat_lt 0 n ≡ false
none_use n is = grind (arith, nat_tests, is)

module _ (client : ℕ) (of_workers : workers.Table) (of : registrations.Table) (of_clients : clients.Table) (scopes : Scopes) where
  pub left_shown : (rest : Rest) → lent scopes of_workers of (left_by client of_clients) rest ≡ rules.left_by client (lent scopes of_workers of of_clients rest)
  left_shown rest = ap (λ (rows : List ClientRow). record (lent scopes of_workers of of_clients rest) { clients = rows }) (left_rows client of_clients.rows)

  -- what is told where a client has left a registration, which others use or not
  module _ (registration : ℕ) (rest : Rest) (linked : Linked scopes of_workers of of_clients) where
    pub left_told : rules.used_registration (lent scopes of_workers of of_clients rest) client ≡ Some registration → (others : Bool) → nat_lt 0 (users_of registration (left_by client of_clients).rows) ≡ others
        → (definitions.leave (lent scopes of_workers of of_clients rest) client).changes ≡ left_changes (lent scopes of_workers of (left_by client of_clients) rest) registration others
    left_told uses others is =
        let after = left_linked client scopes of_workers of of_clients linked in
        client_left (lent scopes of_workers of of_clients rest) client (Some registration) uses
        ∙ (ap (λ (state : State). left_changes state registration (is_used state registration)) (sym (left_shown rest))
        ∙ ap (left_changes (lent scopes of_workers of (left_by client of_clients) rest) registration)
        (used_count registration scopes of_workers of (left_by client of_clients) rest after.slots after.noted ∙ is))
