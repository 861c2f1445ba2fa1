-- The waiting worker becomes the active one, and the controller of each client of the registration.
use Rattle.std.proofs.Common.{◌≡◌, ◌∙◌, ◌≤◌, ℕ, ◌==◌, Bool, true, false, List, [], ◌∷◌, ◌++◌, All, map, filter, length, slice_index_or, Option, Some, None, option_map, option_and_then, is_some, sym, ap, subst, refl, arith, if◌then◌else◌}
use Rattle.std.specs.Option.{option_map_or}
use Rattle.std.proofs.lemmas.List.{append_assoc, append-nil}
use Rattle.std.proofs.lemmas.List.Elements.{All-map}
use Rattle.sw_client.specs.declared.OpenClient.{OpenClient}
use Rattle.sw_client.specs.Table as clients
use Rattle.sw_client.specs.Table.{clients_of, controlled_by, uses}
use Rattle.sw_data.specs.declared.answers.Notice.TheVariants as notice
use Rattle.sw_data.specs.declared.rows.ClientRow.{ClientRow}
use Rattle.sw_data.specs.declared.rows.RegistrationRow.{RegistrationRow}
use Rattle.sw_data.specs.declared.rows.WorkerRow.{WorkerRow}
use Rattle.sw_data.specs.declared.storage.Change.TheVariants as change
use Rattle.sw_data.specs.declared.workers.Phase.TheVariants as phase
use Rattle.sw_data.specs.declared.workers.Slot.{Slot}
use Rattle.sw_data.specs.declared.workers.Slot.TheVariants as place
use Rattle.sw_data.specs.declared.workers.WorkerState.{WorkerState}
use Rattle.sw_data.specs.declared.workers.WorkerState.TheVariants as worker_state
use Rattle.sw_reg.specs.Edits.{with_active}
use Rattle.sw_reg.specs.Table as registrations
use Rattle.sw_reg.specs.Table.{has_registration, is_registration, registration_at, slot_of}
use Rattle.sw_rules.specs.Noticing.{Did, NoticeList}
use Rattle.sw_rules.specs.Registrations as rules
use Rattle.sw_rules.specs.Registrations.{activate, become, new_handler, retire, start_handler, take_over}
use Rattle.sw_rules.specs.Rows as found
use Rattle.sw_rules.specs.Rows.{changed, in_slot}
use Rattle.sw_rules.specs.State.{State, Worker}
use Rattle.sw_rules.specs.Told.{followed, keep}
use Rattle.sw_scope.specs.Scopes.{Scopes}
use Rattle.sw_tables.proofs.Chain.{did_quietly, did_then}
use Rattle.sw_tables.proofs.Moves.{KeepsName, goes_edited, passing, slots_after, there}
use Rattle.sw_tables.proofs.OneMoves.{OneMove, one_linked}
use Rattle.sw_tables.proofs.Rows.{at_changed}
use Rattle.sw_tables.proofs.Shown.{changed_twice, seen_changed, unseen_changed}
use Rattle.sw_tables.proofs.Users.{taken_over, told_over}
use Rattle.sw_tables.proofs.Waiting.{Waits, waiting}
use Rattle.sw_tables.specs.Lent.{Rest, lent, shown_registration, shown_worker}
use Rattle.sw_tables.specs.Linked.{HasSlots, IsNoted, Linked, registration_of}
use Rattle.sw_tables.specs.Parts.{SlotsDid, StayLinked}
use Rattle.sw_tables.specs.Shifts.{Vacates, activating}
use Rattle.sw_worker.specs.Edits.{advanced, started}
use Rattle.sw_worker.specs.Table as workers
use Rattle.sw_worker.specs.Table.{has_worker, is_idle, is_worker, may_advance, worker_at}

-- ---- the waiting worker begins to activate

-- a worker that has gone on is idle as before
pub idle_still : (worker : ℕ) (to : WorkerState) (rows : List WorkerRow) → has_worker is_idle worker rows ≡ true → has_worker is_idle worker (changed (is_worker worker) (advanced to) rows) ≡ true
idle_still worker to rows idle =
    let found = there is_idle (worker_at worker rows) idle in
    passing is_idle (worker_at worker (changed (is_worker worker) (advanced to) rows)) (advanced to found.0)
    (at_changed (λ row. row.number) (advanced to) (λ row. refl) worker rows ∙ ap (option_map (advanced to)) found.1) found.2

pub begun_twice : (worker : ℕ) (rows : List WorkerRow) → changed (is_worker worker) (started phase.Activate) (changed (is_worker worker) (advanced worker_state.Activating) rows) ≡ changed (is_worker worker) activating rows
begun_twice worker rows = changed_twice (is_worker worker) (started phase.Activate) (advanced worker_state.Activating) (λ row. refl) rows

active_keeps : KeepsName with_active
active_keeps = record { number = λ row. refl; key = λ row. refl; scope = λ row. refl }

module _ (registration worker : ℕ) (old : workers.Table) (from : registrations.Table) (has : HasSlots old from) (waits : slot_of place.Waiting registration from.rows ≡ Some worker) where
  row : (x : WorkerRow) × Waits registration worker x old
  row = waiting registration worker old from has waits

  pub may_begin : (may_advance worker worker_state.Activating old.rows ≡ true) × (has_worker is_idle worker old.rows ≡ true)
  may_begin = (cc (row.1.here, row.1.state), passing is_idle (worker_at worker old.rows) row.0 row.1.here row.1.handler)

  pub has_waiting : has_registration (λ r. is_some r.waiting) registration from.rows ≡ true
  has_waiting = by (registration_at registration from.rows) waits
    where
      by : (o : Option RegistrationRow) → option_and_then (registrations.in_slot place.Waiting) o ≡ Some worker → option_map_or (λ (r : RegistrationRow). is_some r.waiting) o false ≡ true
      by None is = absurd cc
      by (Some r) is = cc is

  pub is_there : registrations.is_there registration from.rows ≡ true
  is_there = by (registration_at registration from.rows) waits
    where
      by : (o : Option RegistrationRow) → option_and_then (registrations.in_slot place.Waiting) o ≡ Some worker → is_some o ≡ true
      by None is = absurd cc
      by (Some r) is = refl

  module _ (empty : slot_of place.Active registration from.rows ≡ None) (new : workers.Table) (to : registrations.Table) (begins : new ≡ record old { rows = changed (is_worker worker) activating old.rows })
      (takes : to ≡ record from { rows = changed (is_registration registration) with_active from.rows }) where
    active_move : OneMove registration worker row.0 activating (slots_after with_active registration from) old new from to
    active_move = record {
      goes = goes_edited registration with_active active_keeps from to (ap (λ (t : registrations.Table). t.rows) takes);
      of = row.1.of;
      here = row.1.here;
      is = begins;
      number = λ x. refl;
      owner = λ x. refl;
      handler = λ runs. refl;
      activated = λ on was. absurd (cc (row.1.state, was));
      stands = stands;
      enters = enters;
      leaves = λ p will was. leaves p will (ap (λ s. in_slot p s) (sym row.1.state) ∙ was);
      stays = λ p will was. stays p will (ap (λ s. in_slot p s) (sym row.1.state) ∙ was);
    }
      where
        stands : (p : Slot) → in_slot p worker_state.Activating ≡ true → slots_after with_active registration from p ≡ Some worker
        stands place.Installing will = absurd cc
        stands place.Waiting will = absurd cc
        stands place.Active will = waits

        enters : (p : Slot) → in_slot p worker_state.Activating ≡ true → in_slot p row.0.state ≡ false → slot_of p registration from.rows ≡ None
        enters place.Installing will was = absurd cc
        enters place.Waiting will was = absurd cc
        enters place.Active will was = empty

        none_in : (o : Option RegistrationRow) → option_and_then (λ r. registrations.in_slot place.Waiting (with_active r)) o ≡ None
        none_in None = refl
        none_in (Some r) = refl

        leaves : (p : Slot) → in_slot p worker_state.Activating ≡ false → in_slot p worker_state.Installed ≡ true → slots_after with_active registration from p ≡ None
        leaves place.Installing will was = absurd cc
        leaves place.Waiting will was = none_in (registration_at registration from.rows)
        leaves place.Active will was = absurd cc

        stays : (p : Slot) → in_slot p worker_state.Activating ≡ false → in_slot p worker_state.Installed ≡ false → slots_after with_active registration from p ≡ slot_of p registration from.rows
        stays place.Installing will was = refl
        stays place.Waiting will was = absurd cc
        stays place.Active will was = absurd cc

    pub active_linked : StayLinked old from new to
    active_linked = one_linked registration worker row.0 activating _ _ _ _ _ active_move has

    owner : registration_of new.rows worker ≡ Some registration
    owner =
        ap (λ (t : workers.Table). registration_of t.rows worker) begins
        ∙ (ap (option_map (λ x. x.registration)) (at_changed (λ x. x.number) activating (λ x. refl) worker old.rows ∙ ap (option_map activating) row.1.here)
        ∙ ap (λ n. Some n) row.1.of)

    noted_over : (c : OpenClient) → IsNoted new c → IsNoted new (if uses registration c then controlled_by (worker, registration) c else c)
    noted_over c was = by (uses registration c)
      where
        by : (b : Bool) → IsNoted new (if b then controlled_by (worker, registration) c else c)
        by true = record { registration = sym owner; controller = refl }
        by false = was

    -- and the controller of each client of the registration
    pub over_linked : (had now : clients.Table) → now ≡ record had { rows = changed (uses registration) (controlled_by (worker, registration)) had.rows } → (scopes : Scopes) → Linked scopes old from had → Linked scopes new to now
    over_linked had now over scopes linked =
        let slots = active_linked scopes had linked in
        record {
          slots = slots.slots;
          mapped = slots.mapped;
          noted = subst (λ (t : clients.Table). All (IsNoted new) t.rows) (sym over)
              (All-map (IsNoted new) (λ c. if uses registration c then controlled_by (worker, registration) c else c) had.rows
              (λ k d below. noted_over (slice_index_or had.rows k d) (slots.noted k d below)));
          known = subst (λ (t : clients.Table). length to.rows ≤ t.known) (sym over) slots.known;
        }

-- ---- what is told

owned_same : (registration : ℕ) (f : Worker → Worker) → ((x : Worker) → (f x).number ≡ x.number) → ((x : Worker) → (f x).registration ≡ x.registration) → (rows : List Worker) (number : ℕ) → found.has_worker (λ row. row.registration == registration) (map f rows) number ≡ found.has_worker (λ row. row.registration == registration) rows number
owned_same registration f number owner [] n = refl
owned_same registration f number owner (x ∷ xs) n = grind (arith, number x, owner x, owned_same registration f number owner xs n)

used_by : (registration : ℕ) (f : Worker → Worker) → ((x : Worker) → (f x).number ≡ x.number) → ((x : Worker) → (f x).registration ≡ x.registration) → (rows : List Worker) (client : ClientRow) (controller : Option ℕ)
    → found.uses (map f rows) registration (record client { controller = controller }) ≡ found.uses rows registration (record client { controller = controller })
used_by registration f number owner rows client None = refl
used_by registration f number owner rows client (Some n) = owned_same registration f number owner rows n

-- clients use a registration as before, whatever the state of a worker
uses_same : (registration worker : ℕ) (rows : List Worker) → found.uses (changed (found.is_worker worker) (λ x. record x { state = worker_state.Activating }) rows) registration ≡ found.uses rows registration
uses_same registration worker rows = λ i client. used_by registration (λ x. if found.is_worker worker x then record x { state = worker_state.Activating } else x) (λ x. grind arith) (λ x. grind arith) rows client client.controller i

-- what is noted of clients stays where the active worker is retired
pub noted_still : (place : Slot) (registration : ℕ) (old mid : workers.Table) (from freed : registrations.Table) → Vacates place registration old mid from freed → (rows : List OpenClient) → All (IsNoted old) rows → All (IsNoted mid) rows
noted_still place registration old mid from freed out rows noted = λ k d below. one (slice_index_or rows k d) (noted k d below)
  where
    owner_is : (o : Option ℕ) → option_and_then (registration_of old.rows) o ≡ option_and_then (registration_of mid.rows) o
    owner_is None = refl
    owner_is (Some n) = sym (out.owners n)

    one : (row : OpenClient) → IsNoted old row → IsNoted mid row
    one row was = record { registration = was.registration ∙ owner_is row.client.controller; controller = was.controller }

module _ (registration worker : ℕ) (old mid new : workers.Table) (from freed to : registrations.Table) (had now : clients.Table) (has : HasSlots mid freed) (noted : All (IsNoted mid) had.rows)
    (begins : new ≡ record mid { rows = changed (is_worker worker) activating mid.rows }) (takes : to ≡ record freed { rows = changed (is_registration registration) with_active freed.rows })
    (over : now ≡ record had { rows = changed (uses registration) (controlled_by (worker, registration)) had.rows }) (scopes : Scopes) (rest : Rest) where
  abbrev retired_state : State
  retired_state = lent scopes mid freed had rest

  begun_did : (told middle after : NoticeList) → middle.rows ≡ told.rows ++ notice.Worker worker worker_state.Activating ∷ []
      → after.rows ≡ middle.rows ++ map (λ row. notice.ControllerChange row.client.number) (filter (uses registration) had.rows)
      → Did (followed (become retired_state worker worker_state.Activating) (λ begun. followed (take_over begun registration worker) (λ taken. start_handler taken worker phase.Activate))) told after (lent scopes new to now rest)
  unfolding followed become take_over start_handler
  begun_did told middle after first last =
      let rows = map shown_worker mid.rows in
      let same = ap (λ (t : registrations.Table). map (shown_registration scopes rest) t.rows) takes ∙ unseen_changed (shown_registration scopes rest) (is_registration registration) with_active (λ row. refl) freed.rows in
      let begun = ap (λ (t : workers.Table). map shown_worker t.rows) begins
      ∙ (seen_changed shown_worker (is_worker worker) activating (found.is_worker worker) (λ x. record x { state = worker_state.Activating; handler = Some (new_handler phase.Activate) }) (λ row. refl) (λ row. refl) mid.rows
      ∙ sym (changed_twice (found.is_worker worker) (λ x. record x { handler = Some (new_handler phase.Activate) }) (λ x. record x { state = worker_state.Activating }) (λ x. refl) rows)) in
      let controlled = ap (λ (t : clients.Table). clients_of t) over ∙ (taken_over mid has.worker_places registration worker had.rows noted ∙ sym (λ i. changed (uses_same registration worker rows i) (rules.controlled_by worker) (clients_of had))) in
      let events = ap (λ (t : workers.Table). t.events) begins in
      let changes = λ (test : ClientRow → Bool). map (λ (client : ClientRow). notice.ControllerChange client.number) (filter test (clients_of had)) in
      let told_all = sym (told_over mid has.worker_places registration had.rows noted) ∙ (sym (λ i. changes (uses_same registration worker rows i)) ∙ sym (append-nil (changes (found.uses (changed (found.is_worker worker) (λ x. record x { state = worker_state.Activating }) rows) registration)))) in
      record {
        state = λ i. record (lent scopes new to now rest) { registrations = same i; workers = begun i; clients = controlled i; fetch_events = events i };
        notices =
            last
            ∙ (ap (λ xs. xs ++ map (λ row. notice.ControllerChange row.client.number) (filter (uses registration) had.rows)) first
            ∙ (append_assoc told.rows (notice.Worker worker worker_state.Activating ∷ []) _
            ∙ ap (λ xs. told.rows ++ (notice.Worker worker worker_state.Activating ∷ [] ++ xs)) told_all));
      }

  pub activate_did : (before told middle after : NoticeList) → SlotsDid (λ state. retire state place.Active registration) before told old from mid freed
      → middle.rows ≡ told.rows ++ notice.Worker worker worker_state.Activating ∷ []
      → after.rows ≡ middle.rows ++ map (λ row. notice.ControllerChange row.client.number) (filter (uses registration) had.rows)
      → Did (activate (lent scopes old from had rest) registration worker) before after (lent scopes new to now rest)
  unfolding activate keep
  activate_did before told middle after out first last =
      let state = lent scopes old from had rest in
      did_then (keep state registration (λ row. change.Active row.key row.scope)) _ before before after state (lent scopes new to now rest) (did_quietly (keep state registration (λ row. change.Active row.key row.scope)) before state refl refl)
      (did_then (retire state place.Active registration) _ before told after retired_state (lent scopes new to now rest) (out scopes had rest) (begun_did told middle after first last))
