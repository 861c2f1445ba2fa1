-- A kept registration more: the tables stay those of a restart.
use Rattle.std.proofs.Common.{◌≡◌, ◌∙◌, ℕ, ◌+◌, ◌<◌, Bool, true, false, ◌==◌, ◌&&◌, List, [], ◌∷◌, ◌++◌, All, map, Option, Some, None, option_map, option_and_then, length, length-append, is_some, refl, sym, ap, subst, arith, if◌then◌else◌}
use Rattle.std.specs.Prelude.{bytes_eq, find, slice_index_or}
use Rattle.std.specs.List.{AllByRecursion, enumerate_from}
use Rattle.std.specs.Option.{option_map_or, option_or}
use Rattle.std.specs.Cmp.Lexicographic.{bytes_decides}
use Rattle.std.proofs.lemmas.Bool.{and_parts}
use Rattle.std.proofs.lemmas.Bool.Decides.{nat_tests}
use Rattle.std.proofs.lemmas.List.{length-map, map-append}
use Rattle.std.proofs.lemmas.List.Folds.{find-append}
use Rattle.std.proofs.lemmas.List.FromFn.{length-enumerate_from}
use Rattle.sw_change.proofs.Sound.{meets_row}
use Rattle.sw_data.specs.declared.rows.HandlerRow.{HandlerRow}
use Rattle.sw_data.specs.declared.rows.RegistrationRow.{RegistrationRow}
use Rattle.sw_data.specs.declared.rows.WorkerRow.{WorkerRow}
use Rattle.sw_data.specs.declared.storage.KeptRegistration.{KeptRegistration}
use Rattle.sw_data.specs.declared.storage.KeptWorker.{KeptWorker}
use Rattle.sw_data.specs.declared.workers.Mode.{Mode}
use Rattle.sw_data.specs.declared.workers.Slot.{Slot}
use Rattle.sw_data.specs.declared.workers.Slot.TheVariants as slot
use Rattle.sw_ledgers.specs.Preloaded.{preload_of, preload_value_of}
use Rattle.sw_reg.specs.Edits.{new_registration}
use Rattle.sw_reg.specs.Table as registrations
use Rattle.sw_reg.specs.Table.{firsts, has_first, is_registration, registration_at, slot_of}
use Rattle.sw_core.proofs.LastRows.{changed_last, found_last, seated_last}
use Rattle.sw_core.specs.Restored.{Restores, IsRestored, quiet_rest}
use Rattle.sw_core.specs.Rows.{chosen_worker, is_activated, raised, registration_row, seated, worker_row}
use Rattle.sw_core.specs.declared.tables.Restored.{Restored}
use Rattle.sw_rules.specs.Restart.{active_state, no_handlers, restored_registration, restored_worker, restored_workers, worker_after_restart}
use Rattle.sw_rules.specs.Rows.{changed, in_slot, is_mapped_to, is_number}
use Rattle.sw_rules.specs.State.{Registration, Worker}
use Rattle.sw_scope.specs.Scopes.{maps, with_row}
use Rattle.sw_tables.proofs.Lookups.{mapped_number, mapped_shown}
use Rattle.sw_tables.proofs.Mapped.{made_linked}
use Rattle.sw_tables.proofs.Moves.{KeepsName, goes_edited, passing, same_number}
use Rattle.sw_tables.proofs.Rows.{found_number, map_on, places_more, within}
use Rattle.sw_tables.specs.Happened.{unsettled_of}
use Rattle.sw_tables.specs.Lent.{Rest, shown_registration, shown_worker}
use Rattle.sw_tables.specs.Linked.{ArePlaces, HasSlots, IsNoted, Linked, StandsRight, runs_handler}
use Rattle.sw_worker.specs.Edits.{new_worker}
use Rattle.sw_worker.specs.Table as workers
use Rattle.sw_worker.specs.Table.{has_worker, is_worker, worker_at}

-- ---- the definitions of a restart, with one registration more

enumerate_more : {X : Type 0} (from : ℕ) (xs : List X) (x : X) → enumerate_from from (xs ++ x ∷ []) ≡ enumerate_from from xs ++ (from + length xs, x) ∷ []
enumerate_more {X = X} from [] x = let is : from + 0 ≡ from = omega arith in ap (λ (n : ℕ). (n, x) ∷ []) (sym is)
enumerate_more {X = X} from (y ∷ ys) x =
    let later = enumerate_more (from + 1) ys x in
    let is : from + 1 + length ys ≡ from + length (y ∷ ys) = omega arith in
    ap (λ (rest : List (ℕ × X)). (from, y) ∷ rest) (later ∙ ap (λ (n : ℕ). enumerate_from (from + 1) ys ++ (n, x) ∷ []) is)

-- the workers of a restart, with that of one registration more
workers_more : (number : ℕ) (rows : List (ℕ × KeptRegistration)) (last : ℕ × KeptRegistration) (worker : Worker)
    → worker_after_restart (number + length (restored_workers number rows)) last.0 last.1 ≡ Some worker
    → restored_workers number (rows ++ last ∷ []) ≡ restored_workers number rows ++ worker ∷ []
workers_more number [] last worker is =
    let none : number + length (restored_workers number []) ≡ number = omega arith in
    let here = ap (λ (k : ℕ). worker_after_restart k last.0 last.1) (sym none) ∙ is in
    cc here
workers_more number (row ∷ rows) last worker is =
    by (worker_after_restart number row.0 row.1) refl (workers_more number rows last worker) (workers_more (number + 1) rows last worker)
  where
    by : (o : Option Worker) → worker_after_restart number row.0 row.1 ≡ o
        → (worker_after_restart (number + length (restored_workers number rows)) last.0 last.1 ≡ Some worker → restored_workers number (rows ++ last ∷ []) ≡ restored_workers number rows ++ worker ∷ [])
        → (worker_after_restart (number + 1 + length (restored_workers (number + 1) rows)) last.0 last.1 ≡ Some worker → restored_workers (number + 1) (rows ++ last ∷ []) ≡ restored_workers (number + 1) rows ++ worker ∷ [])
        → restored_workers number (row ∷ rows ++ last ∷ []) ≡ restored_workers number (row ∷ rows) ++ worker ∷ []
    by None none later next =
        let same : restored_workers number (row ∷ rows) ≡ restored_workers number rows = cc none in
        let rest = later (ap (λ (ws : List Worker). worker_after_restart (number + length ws) last.0 last.1) (sym same) ∙ is) in
        cc (none, rest)
    by (Some first) some later next =
        let longer : restored_workers number (row ∷ rows) ≡ first ∷ restored_workers (number + 1) rows = cc some in
        let size = ap length longer in
        let long : number + 1 + length (restored_workers (number + 1) rows) ≡ number + length (restored_workers number (row ∷ rows)) = omega (arith, size) in
        let rest = next (ap (λ (n : ℕ). worker_after_restart n last.0 last.1) long ∙ is) in
        cc (some, rest)

-- the worker of a kept registration
chosen_after : (number registration : ℕ) (row : KeptRegistration) (worker : KeptWorker) → chosen_worker row ≡ Some worker
    → worker_after_restart number registration row ≡ Some (restored_worker number registration worker (active_state (is_activated row)))
chosen_after number registration row worker is = by row.waiting row.active row.activated refl refl refl
  where
    by : (waiting active : Option KeptWorker) (activated : Bool) → row.waiting ≡ waiting → row.active ≡ active → row.activated ≡ activated
        → worker_after_restart number registration row ≡ Some (restored_worker number registration worker (active_state (is_activated row)))
    by (Some one) active activated waits acts was = grind (arith, is, waits, acts, was)
    by None (Some one) true waits acts was = grind (arith, is, waits, acts, was)
    by None (Some one) false waits acts was = grind (arith, is, waits, acts, was)
    by None None activated waits acts was = absurd (grind (arith, is, waits, acts))

shown_raised : (number registration : ℕ) (worker : KeptWorker) (activated : Bool) → shown_worker (worker_row number registration worker activated) ≡ restored_worker number registration worker (active_state activated)
shown_raised number registration worker true = refl
shown_raised number registration worker false = refl

-- no restored registration is that of a key and a scope which none of the kept ones has
none_found : (row : KeptRegistration) (rows : List KeptRegistration) (from : ℕ) → AllByRecursion (λ x. meets_row x row ≡ false) rows
    → find (is_mapped_to row.key row.scope) (map restored_registration (enumerate_from from rows)) ≡ None
none_found row [] from apart = refl
none_found row (x ∷ xs) from apart =
    let later = none_found row xs (from + 1) apart.1 in
    let first : (bytes_eq x.key row.key && bytes_eq x.scope row.scope) ≡ false = apart.0 in
    grind (arith, first, later)

firsts_more : (rows : List RegistrationRow) (row : RegistrationRow) → is_some row.first ≡ true → firsts (rows ++ row ∷ []) ≡ firsts rows + 1
firsts_more [] row has = grind (arith, has)
firsts_more (x ∷ xs) row has =
    let later = firsts_more xs row has in
    by (has_first x) refl later
  where
    by : (b : Bool) → has_first x ≡ b → firsts (xs ++ row ∷ []) ≡ firsts xs + 1 → firsts (x ∷ xs ++ row ∷ []) ≡ firsts (x ∷ xs) + 1
    by true is later = grind (arith, is, later)
    by false is later = grind (arith, is, later)

abbrev counted : WorkerRow → ℕ
counted row = option_map_or (λ (handler : HandlerRow). handler.unsettled) row.handler 0

counts_more : (rows : List WorkerRow) (row : WorkerRow) → counted row ≡ 0 → (number : ℕ) → unsettled_of number rows ≡ 0 → unsettled_of number (rows ++ row ∷ []) ≡ 0
counts_more rows row none number before =
    ap (λ o. option_map_or counted o 0) (find-append (is_worker number) rows (row ∷ [])) ∙ by (worker_at number rows) (is_worker number row) refl before
  where
    by : (o : Option WorkerRow) (b : Bool) → is_worker number row ≡ b → option_map_or counted o 0 ≡ 0 → option_map_or counted (option_or o (worker_at number (row ∷ []))) 0 ≡ 0
    by (Some x) b is zero = zero
    by None true is zero = grind (arith, is, none)
    by None false is zero = grind (arith, is)

raised_counts : (activated : Bool) (row : WorkerRow) → row.handler ≡ None → counted (raised activated row) ≡ 0
raised_counts true row none = cc none
raised_counts false row none = refl

-- ---- the tables

none_below : {X : Type 0} (P : X → Type 0) → All P []
none_below P k d below = absurd (omega (arith, below))

raised_number : (activated : Bool) (x : WorkerRow) → (raised activated x).number ≡ x.number
raised_number true x = refl
raised_number false x = refl

raised_owner : (activated : Bool) (x : WorkerRow) → (raised activated x).registration ≡ x.registration
raised_owner true x = refl
raised_owner false x = refl

seated_keeps : (first worker : ℕ) → KeepsName (seated first worker)
seated_keeps first worker = record { number = λ row. refl; key = λ row. refl; scope = λ row. refl }

raised_handler : (activated : Bool) (x : WorkerRow) → x.handler ≡ None → is_some (raised activated x).handler ≡ true → runs_handler (raised activated x).state ≡ true
raised_handler true x idle runs = absurd cc
raised_handler false x idle runs = refl

-- a raised worker stands in the active slot alone, and a seated registration has no other
raised_active : (activated : Bool) (x : WorkerRow) (first w n : ℕ) (key scope : List ℕ) (mode : Mode) (place : Slot) → in_slot place (raised activated x).state ≡ true
    → registrations.in_slot place (seated first w (new_registration n key scope mode)) ≡ Some w
raised_active true x first w n key scope mode slot.Installing will = absurd cc
raised_active true x first w n key scope mode slot.Waiting will = absurd cc
raised_active true x first w n key scope mode slot.Active will = refl
raised_active false x first w n key scope mode slot.Installing will = absurd cc
raised_active false x first w n key scope mode slot.Waiting will = absurd cc
raised_active false x first w n key scope mode slot.Active will = refl

active_raised : (activated : Bool) (x : WorkerRow) (first w n m : ℕ) (key scope : List ℕ) (mode : Mode) (place : Slot) → registrations.in_slot place (seated first w (new_registration n key scope mode)) ≡ Some m
    → (m ≡ w) × (in_slot place (raised activated x).state ≡ true)
active_raised activated x first w n m key scope mode slot.Installing is = absurd cc
active_raised activated x first w n m key scope mode slot.Waiting is = absurd cc
active_raised true x first w n m key scope mode slot.Active is = (cc is, refl)
active_raised false x first w n m key scope mode slot.Active is = (cc is, refl)

-- one registration more, and one worker, which stands in its slots
module _ (old new : workers.Table) (from to : registrations.Table) (x : WorkerRow) (r : RegistrationRow) (has : HasSlots old from)
    (rows : new.rows ≡ old.rows ++ x ∷ []) (events : new.events ≡ old.events) (set : to.rows ≡ from.rows ++ r ∷ [])
    (worker_place : x.number ≡ length old.rows) (place : r.number ≡ length from.rows) (owner : x.registration ≡ r.number)
    (handler : is_some x.handler ≡ true → runs_handler x.state ≡ true)
    (stands : (p : Slot) → in_slot p x.state ≡ true → registrations.in_slot p r ≡ Some x.number)
    (filled : (p : Slot) (m : ℕ) → registrations.in_slot p r ≡ Some m → (m ≡ x.number) × (in_slot p x.state ≡ true)) where
  at_new : (n : ℕ) → worker_at n new.rows ≡ option_or (worker_at n old.rows) (worker_at n (x ∷ []))
  at_new n = ap (worker_at n) rows ∙ find-append (is_worker n) old.rows (x ∷ [])

  at_to : (q : ℕ) → registration_at q to.rows ≡ option_or (registration_at q from.rows) (registration_at q (r ∷ []))
  at_to q = ap (registration_at q) set ∙ find-append (is_registration q) from.rows (r ∷ [])

  last_there : registration_at r.number to.rows ≡ Some r
  last_there = ap (registration_at r.number) set ∙ found_last (λ (y : RegistrationRow). y.number) from.rows r r.number has.registration_places refl place

  worker_there : worker_at x.number new.rows ≡ Some x
  worker_there = ap (worker_at x.number) rows ∙ found_last (λ (y : WorkerRow). y.number) old.rows x x.number has.worker_places refl worker_place

  still : (test : WorkerRow → Bool) (n : ℕ) → has_worker test n old.rows ≡ true → has_worker test n new.rows ≡ true
  still test n was = by (worker_at n old.rows) refl
    where
      by : (o : Option WorkerRow) → worker_at n old.rows ≡ o → has_worker test n new.rows ≡ true
      by None is = absurd (grind (arith, was, is))
      by (Some y) is = let now = at_new n in grind (arith, was, is, now)

  slot_same : (p : Slot) (q : ℕ) (y : RegistrationRow) → registration_at q from.rows ≡ Some y → slot_of p q to.rows ≡ slot_of p q from.rows
  slot_same p q y is = let now = at_to q in cc (is, now)

  slot_last : (p : Slot) → slot_of p r.number to.rows ≡ registrations.in_slot p r
  slot_last p = ap (λ (o : Option RegistrationRow). option_and_then (registrations.in_slot p) o) last_there

  -- a row that was there stands as before
  old_right : (n : ℕ) (y : WorkerRow) → StandsRight from n y → StandsRight to n y
  old_right n y right = by (registration_at y.registration from.rows) refl
    where
      by : (o : Option RegistrationRow) → registration_at y.registration from.rows ≡ o → StandsRight to n y
      by None is = absurd (let there = right.owner in grind (arith, is, there))
      by (Some q) is = record {
        owner = let now = at_to y.registration in grind (arith, is, now);
        slots = λ p in_place. slot_same p y.registration q is ∙ right.slots p in_place;
        handler = right.handler;
      }

  new_right : StandsRight to x.number x
  new_right = record {
    owner = ap (λ (q : ℕ). is_some (registration_at q to.rows)) owner ∙ ap is_some last_there;
    slots = λ p in_place. ap (λ (q : ℕ). slot_of p q to.rows) owner ∙ (slot_last p ∙ stands p in_place);
    handler = handler;
  }

  rows_right : (n : ℕ) (y : WorkerRow) → worker_at n new.rows ≡ Some y → StandsRight to n y
  rows_right n y there = by (worker_at n old.rows) refl
    where
      by : (o : Option WorkerRow) → worker_at n old.rows ≡ o → StandsRight to n y
      by (Some z) is =
          let now = at_new n in
          let same : z ≡ y = grind (arith, is, now, there) in
          subst (StandsRight to n) same (old_right n z (has.rows n z is))
      by None is =
          let now = at_new n in
          let same : x ≡ y = grind (arith, is, now, there) in
          let number : x.number ≡ n = found_number (λ (row : WorkerRow). row.number) n new.rows x (there ∙ ap Some (sym same)) in
          subst (StandsRight to n) same (subst (λ (m : ℕ). StandsRight to m x) number new_right)

  slots_filled : (p : Slot) (q m : ℕ) → slot_of p q to.rows ≡ Some m → has_worker (λ row. row.registration == q && in_slot p row.state) m new.rows ≡ true
  slots_filled p q m is = by (registration_at q from.rows) refl
    where
      by : (o : Option RegistrationRow) → registration_at q from.rows ≡ o → has_worker (λ row. row.registration == q && in_slot p row.state) m new.rows ≡ true
      by (Some y) there = still (λ row. row.registration == q && in_slot p row.state) m (has.filled p q m (sym (slot_same p q y there) ∙ is))
      by None none =
          let now = at_to q in
          let last : (r.number == q) ≡ true = only_last (r.number == q) refl in
          let own : r.number ≡ q = same_number r.number q last in
          let full = filled p m (sym (slot_last p) ∙ (ap (λ (k : ℕ). slot_of p k to.rows) own ∙ is)) in
          let found : worker_at m new.rows ≡ Some x = ap (λ (k : ℕ). worker_at k new.rows) full.0 ∙ worker_there in
          passing (λ row. row.registration == q && in_slot p row.state) (worker_at m new.rows) x found
          (grind (arith, nat_tests, owner, own, full.1))
        where
          only_last : (b : Bool) → (r.number == q) ≡ b → b ≡ true
          only_last true b-is = refl
          only_last false b-is = absurd (let now = at_to q in grind (arith, none, now, b-is, is))

  pub one_more_slots : HasSlots new to
  one_more_slots = record {
    worker_places = subst (ArePlaces (λ (y : WorkerRow). y.number)) (sym rows) (places_more (λ (y : WorkerRow). y.number) old.rows x has.worker_places worker_place);
    registration_places = subst (ArePlaces (λ (y : RegistrationRow). y.number)) (sym set) (places_more (λ (y : RegistrationRow). y.number) from.rows r has.registration_places place);
    rows = rows_right;
    filled = slots_filled;
    events = subst (All (λ event. has_worker workers.is_activated event.worker new.rows ≡ true)) (sym events)
        (λ k d below. still workers.is_activated (slice_index_or old.events k d).worker (has.events k d below));
  }

module _ (rows : List KeptRegistration) (row : KeptRegistration) (worker : KeptWorker) (old new : Restored)
    (was : IsRestored rows old) (adds : Restores row worker old new) (chosen : chosen_worker row ≡ Some worker)
    (apart : AllByRecursion (λ x. meets_row x row ≡ false) rows) where
  abbrev n : ℕ
  n = length old.registrations.rows

  abbrev w : ℕ
  w = length old.workers.rows

  abbrev rest_before : Rest
  rest_before = quiet_rest old.preloads old.caches.rows

  abbrev rest_after : Rest
  rest_after = quiet_rest new.preloads new.caches.rows

  abbrev made : RegistrationRow
  made = new_registration n row.key row.scope row.mode

  abbrev last : RegistrationRow
  last = registration_row (firsts old.registrations.rows) w n row

  count : n ≡ length rows
  count =
      sym (length-map old.registrations.rows (shown_registration old.map rest_before))
      ∙ (ap length was.registrations
      ∙ (length-map (enumerate_from 0 rows) restored_registration ∙ length-enumerate_from 0 rows))

  places : ArePlaces (λ (r : RegistrationRow). r.number) old.registrations.rows
  places = was.linked.slots.registration_places

  none_known : (o : Option RegistrationRow) → option_map (shown_registration old.map rest_before) o ≡ None → option_map (λ (r : RegistrationRow). r.number) o ≡ None
  none_known None none = refl
  none_known (Some r) none = absurd cc

  -- its key and its scope weren't mapped
  unmapped : maps old.map row.key row.scope ≡ None
  unmapped =
      let found = option_and_then (λ (m : ℕ). registration_at m old.registrations.rows) (maps old.map row.key row.scope) in
      sym (mapped_number old.map old.registrations places was.linked.mapped row.key row.scope)
      ∙ none_known found
      (sym (mapped_shown old.map old.registrations places was.linked.mapped row.key row.scope old.workers old.clients rest_before)
      ∙ (ap (find (is_mapped_to row.key row.scope)) was.registrations ∙ none_found row rows 0 apart))

  -- ---- what is linked

  abbrev mid : registrations.Table
  mid = record { rows = old.registrations.rows ++ made ∷ []; spare = 0 }

  longer : length new.registrations.rows ≡ n + 1
  longer = ap length adds.registrations ∙ length-append old.registrations.rows (last ∷ [])

  linked_first : Linked old.map old.workers old.registrations new.clients
  linked_first = record {
    slots = was.linked.slots;
    mapped = was.linked.mapped;
    noted = subst (All (IsNoted old.workers)) (sym adds.clients) was.linked.noted;
    known = let known = adds.known in omega (arith, known);
  }

  linked_made : Linked new.map old.workers mid new.clients
  linked_made =
      made_linked old.map new.map (record { key = row.key; scope = row.scope; number = n }) made old.registrations mid
      places adds.scopes refl refl refl refl refl refl unmapped old.workers new.clients adds.known linked_first

  abbrev parsed : WorkerRow
  parsed = new_worker w n worker.script worker.kind worker.body None no_handlers

  seated_row : new.registrations.rows ≡ changed (is_registration n) (seated (firsts old.registrations.rows) w) mid.rows
  seated_row =
      adds.registrations
      ∙ sym (changed_last (λ (r : RegistrationRow). r.number) (seated (firsts old.registrations.rows) w) old.registrations.rows made n places refl refl)

  slots_now : HasSlots new.workers new.registrations
  slots_now =
      one_more_slots old.workers new.workers old.registrations new.registrations (worker_row w n worker (is_activated row)) last was.linked.slots
      (ap (λ (t : workers.Table). t.rows) adds.workers) (ap (λ (t : workers.Table). t.events) adds.workers) adds.registrations
      (raised_number (is_activated row) parsed) refl (raised_owner (is_activated row) parsed)
      (raised_handler (is_activated row) parsed refl)
      (λ p will. raised_active (is_activated row) parsed (firsts old.registrations.rows) w n row.key row.scope row.mode p will ∙ ap Some (sym (raised_number (is_activated row) parsed)))
      (λ p m is.
      let full = active_raised (is_activated row) parsed (firsts old.registrations.rows) w n m row.key row.scope row.mode p is in
      (full.0 ∙ sym (raised_number (is_activated row) parsed), full.1))

  linked_now : Linked new.map new.workers new.registrations new.clients
  linked_now =
      let goes = goes_edited n (seated (firsts old.registrations.rows) w) (seated_keeps (firsts old.registrations.rows) w) mid new.registrations seated_row in
      record {
        slots = slots_now;
        mapped = λ key scope q is. goes.names key scope q ∙ linked_made.mapped key scope q is;
        noted = subst (All (IsNoted new.workers)) (sym (adds.clients ∙ was.clients)) (none_below (IsNoted new.workers));
        known = let known = adds.known in omega (arith, known, longer);
      }

  -- ---- what is shown

  mapped_still : (y : RegistrationRow) → (y.number == n) ≡ false → is_number (maps new.map y.key y.scope) y.number ≡ is_number (maps old.map y.key y.scope) y.number
  mapped_still y other = by (bytes_eq row.key y.key && bytes_eq row.scope y.scope) refl (adds.scopes y.key y.scope)
    where
      by : (b : Bool) → (bytes_eq row.key y.key && bytes_eq row.scope y.scope) ≡ b → maps new.map y.key y.scope ≡ (if b then Some n else maps old.map y.key y.scope)
          → is_number (maps new.map y.key y.scope) y.number ≡ is_number (maps old.map y.key y.scope) y.number
      by true same law =
          let texts = and_parts (bytes_eq row.key y.key) (bytes_eq row.scope y.scope) same in
          let own_key : row.key ≡ y.key = (bytes_decides row.key y.key).0 texts.0 in
          let own_scope : row.scope ≡ y.scope = (bytes_decides row.scope y.scope).0 texts.1 in
          let none : maps old.map y.key y.scope ≡ None = cc (own_key, own_scope, unmapped) in
          grind (arith, nat_tests, none, law, other)
      by false differs law = ap (λ (o : Option ℕ). is_number o y.number) law

  shown_still : (y : RegistrationRow) → registration_at y.number old.registrations.rows ≡ Some y → shown_registration new.map rest_after y ≡ shown_registration old.map rest_before y
  shown_still y there =
      let below = within (λ (r : RegistrationRow). r.number) y.number old.registrations.rows y places there in
      let other : (y.number == n) ≡ false = grind (arith, nat_tests, below) in
      let preload : preload_of new.preloads.rows y.number ≡ preload_of old.preloads.rows y.number = adds.preload y.number ∙ ap (λ (b : Bool). if b then row.preload else preload_of old.preloads.rows y.number) other in
      let preload_value : preload_value_of new.preloads.rows y.number ≡ preload_value_of old.preloads.rows y.number = adds.preload_value y.number ∙ ap (λ (b : Bool). if b then row.preload_value else preload_value_of old.preloads.rows y.number) other in
      cc (mapped_still y other, preload, preload_value)

  same_bytes : (x : List ℕ) → bytes_eq x x ≡ true
  same_bytes x = (bytes_decides x x).1 refl

  shown_last : shown_registration new.map rest_after last ≡ restored_registration (n, row)
  shown_last =
      let here : (n == n) ≡ true = grind (arith, nat_tests) in
      let law = adds.scopes row.key row.scope in
      let key = same_bytes row.key in
      let scope = same_bytes row.scope in
      let mapped : is_number (maps new.map row.key row.scope) n ≡ true = grind (arith, nat_tests, law, key, scope) in
      let preload : preload_of new.preloads.rows n ≡ row.preload = adds.preload n ∙ ap (λ (b : Bool). if b then row.preload else preload_of old.preloads.rows n) here in
      let preload_value : preload_value_of new.preloads.rows n ≡ row.preload_value = adds.preload_value n ∙ ap (λ (b : Bool). if b then row.preload_value else preload_value_of old.preloads.rows n) here in
      let first : firsts old.registrations.rows ≡ n = was.count ∙ sym count in
      cc (mapped, preload, preload_value, first)

  registrations_now : map (shown_registration new.map rest_after) new.registrations.rows ≡ map restored_registration (enumerate_from 0 (rows ++ row ∷ []))
  registrations_now =
      ap (map (shown_registration new.map rest_after)) adds.registrations
      ∙ (map-append (shown_registration new.map rest_after) old.registrations.rows (last ∷ [])
      ∙ (ap (λ (rs : List Registration). rs ++ shown_registration new.map rest_after last ∷ [])
      (map_on (λ (r : RegistrationRow). r.number) (shown_registration new.map rest_after) (shown_registration old.map rest_before) old.registrations.rows places shown_still
      ∙ was.registrations)
      ∙ (ap (λ (r : Registration). map restored_registration (enumerate_from 0 rows) ++ r ∷ []) (shown_last ∙ ap (λ (m : ℕ). restored_registration (m, row)) (count ∙ zero_and (length rows)))
      ∙ (sym (map-append restored_registration (enumerate_from 0 rows) ((0 + length rows, row) ∷ []))
      ∙ ap (map restored_registration) (sym (enumerate_more 0 rows row))))))
    where
      zero_and : (m : ℕ) → m ≡ 0 + m
      zero_and m = omega arith

  workers_now : map shown_worker new.workers.rows ≡ restored_workers 0 (enumerate_from 0 (rows ++ row ∷ []))
  workers_now =
      ap (λ (t : workers.Table). map shown_worker t.rows) adds.workers
      ∙ (map-append shown_worker old.workers.rows (worker_row w n worker (is_activated row) ∷ [])
      ∙ (ap (λ (ws : List Worker). ws ++ shown_worker (worker_row w n worker (is_activated row)) ∷ []) was.workers
      ∙ (ap (λ (x : Worker). restored_workers 0 (enumerate_from 0 rows) ++ x ∷ []) (shown_raised w n worker (is_activated row))
      ∙ (sym (workers_more 0 (enumerate_from 0 rows) (0 + length rows, row) (restored_worker w n worker (active_state (is_activated row))) (numbered ∙ chosen_after w n row worker chosen))
      ∙ ap (restored_workers 0) (sym (enumerate_more 0 rows row))))))
    where
      long : length (restored_workers 0 (enumerate_from 0 rows)) ≡ w
      long = sym (ap length was.workers) ∙ length-map old.workers.rows shown_worker

      first : 0 + length (restored_workers 0 (enumerate_from 0 rows)) ≡ w
      first = omega (arith, long)

      place : 0 + length rows ≡ n
      place = omega (arith, count)

      numbered : worker_after_restart (0 + length (restored_workers 0 (enumerate_from 0 rows))) (0 + length rows) row ≡ worker_after_restart w n row
      numbered = ap (λ (k : ℕ). worker_after_restart k (0 + length rows) row) first ∙ ap (λ (k : ℕ). worker_after_restart w k row) place

  pub restored_more : IsRestored (rows ++ row ∷ []) new
  restored_more = record {
    linked = linked_now;
    registrations = registrations_now;
    workers = workers_now;
    count =
        let one = firsts_more old.registrations.rows last refl in
        let before = was.count in
        let longer = length-append rows (row ∷ []) in
        ap firsts adds.registrations ∙ omega (arith, one, before, longer);
    events = ap (λ (t : workers.Table). t.events) adds.workers ∙ was.events;
    clients = adds.clients ∙ was.clients;
    counts = λ number.
        ap (λ (t : workers.Table). unsettled_of number t.rows) adds.workers
        ∙ counts_more old.workers.rows (worker_row w n worker (is_activated row))
        (raised_counts (is_activated row) (new_worker w n worker.script worker.kind worker.body None no_handlers) refl)
        number (was.counts number);
  }

-- ---- no registrations

pub nothing_restored : (tables : Restored) → tables.workers.rows ≡ [] → tables.workers.events ≡ [] → tables.registrations.rows ≡ [] → tables.clients.rows ≡ []
    → ((key scope : List ℕ) → maps tables.map key scope ≡ None) → IsRestored [] tables
nothing_restored tables no_workers no_events no_registrations no_clients no_scopes = record {
  linked = record {
    slots = record {
      worker_places = subst (ArePlaces (λ (row : WorkerRow). row.number)) (sym no_workers) refl;
      registration_places = subst (ArePlaces (λ (row : RegistrationRow). row.number)) (sym no_registrations) refl;
      rows = λ number row there. let none : worker_at number tables.workers.rows ≡ None = ap (worker_at number) no_workers in absurd cc;
      filled = λ place registration number is. let none : slot_of place registration tables.registrations.rows ≡ None = ap (slot_of place registration) no_registrations in absurd cc;
      events = subst (All (λ event. has_worker workers.is_activated event.worker tables.workers.rows ≡ true)) (sym no_events) (none_below _);
    };
    mapped = λ key scope number is. let none = no_scopes key scope in absurd cc;
    noted = subst (All (IsNoted tables.workers)) (sym no_clients) (none_below (IsNoted tables.workers));
    known = let none : length tables.registrations.rows ≡ 0 = ap length no_registrations in omega (arith, none);
  };
  registrations = ap (map (shown_registration tables.map (quiet_rest tables.preloads tables.caches.rows))) no_registrations;
  workers = ap (map shown_worker) no_workers;
  count = ap firsts no_registrations;
  events = no_events;
  clients = no_clients;
  counts = λ number. ap (unsettled_of number) no_workers;
}

-- ---- the parts of a registration more

pub added : (row : KeptRegistration) (worker : KeptWorker) (number : ℕ) (activated : Bool) (old new : Restored) (mid : registrations.Table)
    → number ≡ length old.registrations.rows → activated ≡ is_activated row → ArePlaces (λ (r : RegistrationRow). r.number) old.registrations.rows
    → ((key scope : List ℕ) → maps new.map key scope ≡ with_row old.map (record { key = row.key; scope = row.scope; number = length old.registrations.rows }) key scope)
    → new.workers ≡ record old.workers {
      rows = old.workers.rows ++ worker_row (length old.workers.rows) number worker activated ∷ [];
      spare_rows = new.workers.spare_rows;
    }
    → mid.rows ≡ old.registrations.rows ++ new_registration (length old.registrations.rows) row.key row.scope row.mode ∷ []
    → new.registrations ≡ record mid { rows = changed (is_registration number) (seated (firsts mid.rows) (length old.workers.rows)) mid.rows }
    → new.clients.rows ≡ old.clients.rows → length old.registrations.rows < new.clients.known
    → ((n : ℕ) → preload_of new.preloads.rows n ≡ (if n == number then row.preload else preload_of old.preloads.rows n))
    → ((n : ℕ) → preload_value_of new.preloads.rows n ≡ (if n == number then row.preload_value else preload_value_of old.preloads.rows n))
    → Restores row worker old new
added row worker number activated old new mid own same are scopes of_workers made set of_clients known preload preload_value = record {
  scopes = scopes;
  workers =
      of_workers
      ∙ ap (λ (x : WorkerRow). record old.workers { rows = old.workers.rows ++ x ∷ []; spare_rows = new.workers.spare_rows })
      (ap (λ (k : ℕ). worker_row (length old.workers.rows) k worker activated) own
      ∙ ap (λ (b : Bool). worker_row (length old.workers.rows) (length old.registrations.rows) worker b) same);
  registrations =
      ap (λ (t : registrations.Table). t.rows) set
      ∙ seated_last old.registrations.rows mid.rows number (length old.registrations.rows) (length old.workers.rows) row.key row.scope row.mode are refl own made;
  clients = of_clients;
  known = known;
  preload = λ n. preload n ∙ ap (λ (k : ℕ). if n == k then row.preload else preload_of old.preloads.rows n) own;
  preload_value = λ n. preload_value n ∙ ap (λ (k : ℕ). if n == k then row.preload_value else preload_value_of old.preloads.rows n) own;
}
