-- The installing worker of a registration becomes the waiting one in place of another.
use Rattle.std.proofs.Common.{◌≡◌, ◌∙◌, ℕ, Bool, true, false, ◌==◌, ◌&&◌, List, [], ◌∷◌, ◌++◌, map, Option, Some, None, option_map, option_and_then, refl, sym, ap, arith}
use Rattle.std.specs.Prelude.{is_none, is_some}
use Rattle.std.specs.List.{list_any}
use Rattle.std.specs.Option.{option_map_or}
use Rattle.sw_data.specs.declared.answers.Notice.TheVariants as notice
use Rattle.sw_data.specs.declared.rows.RegistrationRow.{RegistrationRow}
use Rattle.sw_data.specs.declared.rows.WorkerRow.{WorkerRow}
use Rattle.sw_data.specs.declared.workers.Slot.{Slot}
use Rattle.sw_data.specs.declared.workers.Slot.TheVariants as slot
use Rattle.sw_data.specs.declared.workers.WorkerState.{WorkerState}
use Rattle.sw_data.specs.declared.workers.WorkerState.TheVariants as worker_state
use Rattle.sw_reg.specs.Edits.{with_owed, with_waiting}
use Rattle.sw_reg.specs.Table as registrations
use Rattle.sw_reg.specs.Table.{firsts, has_registration, is_registration, registration_at, slot_of}
use Rattle.sw_rules.specs.Installing.{become_waiting, first_counter, owe_try_activate, placed}
use Rattle.sw_rules.specs.Noticing.{Did, NoticeList}
use Rattle.sw_rules.specs.Registrations.{become, retire}
use Rattle.sw_rules.specs.Rows as definitions
use Rattle.sw_rules.specs.Rows.{changed, in_slot, slot_worker}
use Rattle.sw_rules.specs.State.{State, Worker}
use Rattle.sw_rules.specs.Told.{followed, quiet}
use Rattle.sw_scope.specs.Scopes.{Scopes}
use Rattle.sw_tables.proofs.Chain.{did_then}
use Rattle.sw_tables.proofs.Lives.{Rests, none_runs}
use Rattle.sw_tables.proofs.Moves.{KeepsName, goes_edited, slots_after, there}
use Rattle.sw_tables.proofs.OneMoves.{OneMove, one_linked, one_moved, same_some, stands_there}
use Rattle.sw_tables.proofs.Pending.{on_activated}
use Rattle.sw_tables.proofs.Rows.{at_changed}
use Rattle.sw_tables.proofs.Shown.{changed_twice, seen_changed}
use Rattle.sw_tables.proofs.Standing.{apart}
use Rattle.sw_tables.specs.Lent.{Rest, lent, shown_registration, shown_worker}
use Rattle.sw_tables.specs.Linked.{HasSlots}
use Rattle.sw_tables.specs.Parts.{SlotsDid, StayLinked, is_installing, waits}
use Rattle.sw_tables.specs.Shifts.{IsQuietIn, Vacates}
use Rattle.sw_worker.specs.Edits.{advanced}
use Rattle.sw_worker.specs.Table as workers
use Rattle.sw_worker.specs.Table.{is_activated, is_on, is_running, is_worker, may_advance, worker_at}

-- ---- the registration

pub still_there : (registration k : ℕ) (from to : registrations.Table) → has_registration (λ row. is_some row.installing) registration from.rows ≡ true
    → to ≡ record from { rows = changed (is_registration registration) (with_waiting k) from.rows } → registrations.is_there registration to.rows ≡ true
still_there registration k from to is set =
    let found = there (λ (row : RegistrationRow). is_some row.installing) (registration_at registration from.rows) is in
    ap (λ (t : registrations.Table). registrations.is_there registration t.rows) set
    ∙ (ap is_some (at_changed (λ r. r.number) (with_waiting k) (λ r. refl) registration from.rows)
    ∙ ap (λ o. is_some (option_map (with_waiting k) o)) found.1)

pub waits_then : (registration k : ℕ) (from mid to : registrations.Table) → mid ≡ record from { rows = changed (is_registration registration) (with_waiting k) from.rows }
    → to ≡ record mid { rows = changed (is_registration registration) (with_owed true) mid.rows }
    → to ≡ record from { rows = changed (is_registration registration) (waits k) from.rows }
waits_then registration k from mid to first after =
    after ∙ (ap (λ (t : registrations.Table). record t { rows = changed (is_registration registration) (with_owed true) t.rows }) first
    ∙ ap (λ (rows : List RegistrationRow). record from { rows = rows })
    (changed_twice (is_registration registration) (with_owed true) (with_waiting k) (λ row. refl) from.rows))

waits_keeps : (k : ℕ) → KeepsName (waits k)
waits_keeps k = record { number = λ row. refl; key = λ row. refl; scope = λ row. refl }

-- ---- the workers before

-- own: what the waiting worker of a registration is known by
pub record Waits (registration worker : ℕ) (row : WorkerRow) (old : workers.Table) : Type 0 where
  pub here : worker_at worker old.rows ≡ Some row
  pub of : row.registration ≡ registration
  pub state : row.state ≡ worker_state.Installed
  pub handler : is_none row.handler ≡ true

only_waiting : (s : WorkerState) → in_slot slot.Waiting s ≡ true → s ≡ worker_state.Installed
only_waiting worker_state.Parsed is = absurd cc
only_waiting worker_state.Installing is = absurd cc
only_waiting worker_state.Installed is = refl
only_waiting worker_state.Activating is = absurd cc
only_waiting worker_state.Activated is = absurd cc
only_waiting worker_state.Redundant is = absurd cc

pub only_installing : (s : WorkerState) → is_installing s ≡ true → s ≡ worker_state.Installing
only_installing worker_state.Parsed is = absurd cc
only_installing worker_state.Installing is = refl
only_installing worker_state.Installed is = absurd cc
only_installing worker_state.Activating is = absurd cc
only_installing worker_state.Activated is = absurd cc
only_installing worker_state.Redundant is = absurd cc

no_handler : {X : Type 0} (o : Option X) → (is_some o ≡ true → ⊥) → is_none o ≡ true
no_handler None never = refl
no_handler (Some x) never = absurd (never refl)

pub waiting : (registration worker : ℕ) (old : workers.Table) (from : registrations.Table) → HasSlots old from → slot_of slot.Waiting registration from.rows ≡ Some worker
    → (row : WorkerRow) × Waits registration worker row old
waiting registration worker old from has is =
    let found = there (λ x. x.registration == registration && in_slot slot.Waiting x.state) (worker_at worker old.rows) (has.filled slot.Waiting registration worker is) in
    let stands = stands_there old from slot.Waiting registration worker found.0 has found.1 is in
    let installed = only_waiting found.0.state stands.0 in (
      found.0,
      record {
        here = found.1;
        of = stands.1;
        state = installed;
        handler = no_handler found.0.handler (λ runs. absurd (cc (installed, (has.rows worker found.0 found.1).handler runs)));
      },
    )

-- nothing is pending on a waiting worker
pub waiting_quiet : (registration : ℕ) (old : workers.Table) (from : registrations.Table) → HasSlots old from → IsQuietIn slot.Waiting registration old from
waiting_quiet registration old from has n is = cc (ap (λ o. option_map_or is_running o false) row.1.here, none_there row.0.handler row.1.handler, none_on (list_any (is_on n) old.events) refl)
  where
    row : (r : WorkerRow) × Waits registration n r old
    row = waiting registration n old from has is

    none_there : {X : Type 0} (o : Option X) → is_none o ≡ true → is_some o ≡ false
    none_there None none = refl
    none_there (Some x) none = absurd cc

    none_on : (b : Bool) → list_any (is_on n) old.events ≡ b → b ≡ false
    none_on false on = refl
    none_on true on =
        let found = there is_activated (worker_at n old.rows) (on_activated old.rows n old.events has.events on) in
        let same = same_some (worker_at n old.rows) row.0 found.0 row.1.here found.1 in
        absurd (cc (same, row.1.state, found.2))

-- the installing worker stays where the waiting slot is left
pub still_rests : (registration worker : ℕ) (row : WorkerRow) (old mid : workers.Table) (from freed : registrations.Table) → HasSlots old from → Vacates slot.Waiting registration old mid from freed
    → Rests is_installing registration worker row old → Rests is_installing registration worker row mid
still_rests registration worker row old mid from freed has out known = record {
  here = out.workers worker (apart old from has slot.Installing slot.Waiting (λ s is. grind (arith, is)) registration worker own) ∙ known.here;
  of = known.of;
  state = known.state;
  handler = known.handler;
}
  where
    own : slot_of slot.Installing registration from.rows ≡ Some worker
    own =
        ap (λ q. slot_of slot.Installing q from.rows) (sym known.of)
        ∙ (has.rows worker row known.here).slots slot.Installing (ap (λ s. in_slot slot.Installing s) (only_installing row.state known.state))

module _ (registration worker : ℕ) (row : WorkerRow) (old : workers.Table) (from : registrations.Table) (has : HasSlots old from) (known : Rests is_installing registration worker row old) (empty : slot_of slot.Waiting registration from.rows ≡ None) where
  installs : row.state ≡ worker_state.Installing
  installs = only_installing row.state known.state

  pub own_slot : slot_of slot.Installing registration from.rows ≡ Some worker
  own_slot =
      ap (λ q. slot_of slot.Installing q from.rows) (sym known.of)
      ∙ (has.rows worker row known.here).slots slot.Installing (ap (λ s. in_slot slot.Installing s) installs)

  pub has_installing : has_registration (λ r. is_some r.installing) registration from.rows ≡ true
  has_installing = by (registration_at registration from.rows) own_slot
    where
      by : (o : Option RegistrationRow) → option_and_then (registrations.in_slot slot.Installing) o ≡ Some worker → option_map_or (λ (r : RegistrationRow). is_some r.installing) o false ≡ true
      by None is = absurd cc
      by (Some r) is = cc is

  pub may_wait : may_advance worker worker_state.Installed old.rows ≡ true
  may_wait = cc (known.here, installs)

  module _ (k : ℕ) (new : workers.Table) (to : registrations.Table) (set : to ≡ record from { rows = changed (is_registration registration) (waits k) from.rows })
      (is : new ≡ record old { rows = changed (is_worker worker) (advanced worker_state.Installed) old.rows }) where
    waiting_move : OneMove registration worker row (advanced worker_state.Installed) (slots_after (waits k) registration from) old new from to
    waiting_move = record {
      goes = goes_edited registration (waits k) (waits_keeps k) from to (ap (λ (t : registrations.Table). t.rows) set);
      of = known.of;
      here = known.here;
      is = is;
      number = λ x. refl;
      owner = λ x. refl;
      handler = λ runs. absurd (none_runs row.handler known.handler runs);
      activated = λ on was. absurd (cc (installs, was));
      stands = stands;
      enters = enters;
      leaves = λ place will was. leaves place will (ap (λ s. in_slot place s) (sym installs) ∙ was);
      stays = λ place will was. stays place will (ap (λ s. in_slot place s) (sym installs) ∙ was);
    }
      where
        stands : (place : Slot) → in_slot place worker_state.Installed ≡ true → slots_after (waits k) registration from place ≡ Some worker
        stands slot.Installing will = absurd cc
        stands slot.Waiting will = own_slot
        stands slot.Active will = absurd cc

        enters : (place : Slot) → in_slot place worker_state.Installed ≡ true → in_slot place row.state ≡ false → slot_of place registration from.rows ≡ None
        enters slot.Installing will was = absurd cc
        enters slot.Waiting will was = empty
        enters slot.Active will was = absurd cc

        none_in : (o : Option RegistrationRow) → option_and_then (λ r. registrations.in_slot slot.Installing (waits k r)) o ≡ None
        none_in None = refl
        none_in (Some r) = refl

        leaves : (place : Slot) → in_slot place worker_state.Installed ≡ false → in_slot place worker_state.Installing ≡ true → slots_after (waits k) registration from place ≡ None
        leaves slot.Installing will was = none_in (registration_at registration from.rows)
        leaves slot.Waiting will was = absurd cc
        leaves slot.Active will was = absurd cc

        stays : (place : Slot) → in_slot place worker_state.Installed ≡ false → in_slot place worker_state.Installing ≡ false → slots_after (waits k) registration from place ≡ slot_of place registration from.rows
        stays slot.Installing will was = absurd cc
        stays slot.Waiting will was = absurd cc
        stays slot.Active will was = refl

    pub waiting_slots : HasSlots new to
    waiting_slots = one_moved registration worker row (advanced worker_state.Installed) _ _ _ _ _ waiting_move has

    pub waiting_linked : StayLinked old from new to
    waiting_linked = one_linked registration worker row (advanced worker_state.Installed) _ _ _ _ _ waiting_move has

firsts_shown : (scopes : Scopes) (rest : Rest) (rows : List RegistrationRow) → firsts rows ≡ first_counter (map (shown_registration scopes rest) rows)
firsts_shown scopes rest [] = refl
firsts_shown scopes rest (x ∷ xs) = grind (arith, firsts_shown scopes rest xs)

abbrev owing : ℕ → State → State
owing registration state = record state { registrations = changed (definitions.is_registration registration) (placed (first_counter state.registrations)) state.registrations }

-- a worker is retired as well where a Try Activate is owed
owed_retired : (state new : State) (registration : ℕ) (of : Worker) (before after : NoticeList) → Did (retire state slot.Waiting registration) before after new
    → Did (followed (owe_try_activate state registration of) (λ owed. retire owed slot.Waiting registration)) before after (owe_try_activate new registration of).state
unfolding retire followed owe_try_activate become
owed_retired state new registration of before after = by (slot_worker state slot.Waiting registration)
  where
    by : (o : Option Worker) → Did (elim o [ None ↦ quiet state | Some old ↦ become state old.number worker_state.Redundant ]) before after new
        → Did (followed (owe_try_activate state registration of) (λ owed. elim o [ None ↦ quiet owed | Some old ↦ become owed old.number worker_state.Redundant ])) before after (owing registration new)
    by None did = record { state = ap (owing registration) did.state; notices = did.notices }
    by (Some old) did = record { state = ap (owing registration) did.state; notices = did.notices }

pub waiting_did : (registration worker : ℕ) (old mid new : workers.Table) (from freed to : registrations.Table) (before told after : NoticeList)
    → SlotsDid (λ state. retire state slot.Waiting registration) before told old from mid freed
    → to ≡ record freed { rows = changed (is_registration registration) (waits (firsts freed.rows)) freed.rows }
    → new ≡ record mid { rows = changed (is_worker worker) (advanced worker_state.Installed) mid.rows }
    → after.rows ≡ told.rows ++ notice.Worker worker worker_state.Installed ∷ []
    → (of : Worker) → of.number ≡ worker → SlotsDid (λ state. become_waiting state registration of) before after old from new to
unfolding become_waiting followed become owe_try_activate
waiting_did registration worker old mid new from freed to before told after out set moved tells of number scopes of_clients rest =
    let first = owed_retired (lent scopes old from of_clients rest) (lent scopes mid freed of_clients rest) registration of before told (out scopes of_clients rest) in
    let did = did_then (followed (owe_try_activate (lent scopes old from of_clients rest) registration of) (λ owed. retire owed slot.Waiting registration)) (λ retired. become retired of.number worker_state.Installed) before told after
    (owe_try_activate (lent scopes mid freed of_clients rest) registration of).state (lent scopes new to of_clients rest) first
    (record {
      state = cc (
        registrations_shown,
        ap (λ (t : workers.Table). t.events) moved,
        ap (λ (t : workers.Table). map shown_worker t.rows) moved,
        seen_changed shown_worker (is_worker worker) (advanced worker_state.Installed) (definitions.is_worker worker) (λ row. record row { state = worker_state.Installed }) (λ row. refl) (λ row. refl) mid.rows,
        number,
      );
      notices = tells ∙ ap (λ m. told.rows ++ notice.Worker m worker_state.Installed ∷ []) (sym number);
    }) in
    record { state = did.state; notices = did.notices }
  where
    registrations_shown : map (shown_registration scopes rest) to.rows
        ≡ changed (definitions.is_registration registration) (placed (first_counter (map (shown_registration scopes rest) freed.rows))) (map (shown_registration scopes rest) freed.rows)
    registrations_shown =
        ap (λ (t : registrations.Table). map (shown_registration scopes rest) t.rows) set
        ∙ (seen_changed (shown_registration scopes rest) (is_registration registration) (waits (firsts freed.rows)) (definitions.is_registration registration) (placed (firsts freed.rows)) (λ r. refl) (λ r. refl) freed.rows
        ∙ ap (λ n. changed (definitions.is_registration registration) (placed n) (map (shown_registration scopes rest) freed.rows)) (firsts_shown scopes rest freed.rows))
