-- A worker from parsed to activated or redundant, and the slots of its registration.
use Rattle.std.proofs.Common.{◌≡◌, ◌∙◌, ℕ, Bool, true, false, List, map, Option, Some, None, option_map, option_and_then, refl, sym, ap, subst, true≢false, arith, if◌then◌else◌}
use Rattle.std.specs.Prelude.{is_none, is_some}
use Rattle.std.specs.List.{list_any}
use Rattle.std.specs.Option.{option_map_or}
use Rattle.std.proofs.lemmas.Bool.Decides.{nat_tests}
use Rattle.sw_data.specs.declared.rows.RegistrationRow.{RegistrationRow}
use Rattle.sw_data.specs.declared.rows.WorkerRow.{WorkerRow}
use Rattle.sw_data.specs.declared.workers.Phase.TheVariants as phase
use Rattle.sw_data.specs.declared.workers.Slot.{Slot}
use Rattle.sw_data.specs.declared.workers.Slot.TheVariants as slot
use Rattle.sw_data.specs.declared.workers.WorkerState.{WorkerState}
use Rattle.sw_data.specs.declared.workers.WorkerState.TheVariants as worker_state
use Rattle.sw_reg.specs.Edits.{with_installing, without}
use Rattle.sw_reg.specs.Table as registrations
use Rattle.sw_reg.specs.Table.{is_registration, registration_at, slot_of}
use Rattle.sw_rules.specs.Rows.{changed, in_slot, is_number}
use Rattle.sw_tables.proofs.Moves.{Goes, KeepsName, goes_edited, goes_same, passing, slots_after, there}
use Rattle.sw_tables.proofs.OneMoves.{OneMove, stands_there}
use Rattle.sw_scope.specs.Scopes.{Scopes}
use Rattle.sw_tables.proofs.Rows.{at_changed}
use Rattle.sw_tables.proofs.Shown.{changed_twice, unseen_changed}
use Rattle.sw_tables.specs.Lent.{Rest, shown_registration}
use Rattle.sw_tables.specs.Linked.{HasSlots}
use Rattle.sw_tables.specs.Parts.{is_activating, is_installing, is_parsed, is_young, rests_in}
use Rattle.sw_worker.specs.Edits.{advanced, started}
use Rattle.sw_worker.specs.Table as workers
use Rattle.sw_worker.specs.Table.{has_worker, is_activated, is_idle, is_on, is_worker, worker_at}

-- own: what a worker that rests in some states is known by
pub record Rests (test : WorkerState → Bool) (registration worker : ℕ) (row : WorkerRow) (old : workers.Table) : Type 0 where
  pub here : worker_at worker old.rows ≡ Some row
  pub of : row.registration ≡ registration
  pub state : test row.state ≡ true
  pub handler : is_none row.handler ≡ true

pub rests : (test : WorkerState → Bool) (registration worker : ℕ) (old : workers.Table) → has_worker (rests_in test registration) worker old.rows ≡ true → (row : WorkerRow) × Rests test registration worker row old
rests test registration worker old is =
    let found = there (rests_in test registration) (worker_at worker old.rows) is in (
      found.0,
      record {
        here = found.1;
        of = grind (arith, nat_tests, found.2);
        state = grind (arith, found.2);
        handler = grind (arith, found.2);
      },
    )

pub none_runs : {X : Type 0} (o : Option X) → is_none o ≡ true → is_some o ≡ true → ⊥
none_runs None none some = absurd cc
none_runs (Some x) none some = absurd cc

-- ---- a worker becomes redundant

in_redundant : (place : Slot) → in_slot place worker_state.Redundant ≡ true → ⊥
in_redundant slot.Installing is = absurd cc
in_redundant slot.Waiting is = absurd cc
in_redundant slot.Active is = absurd cc

-- a worker that no handler and no event needs becomes redundant, and leaves its slots
pub gone_move : (registration worker : ℕ) (row : WorkerRow) (slots : Slot → Option ℕ) (old new : workers.Table) (from to : registrations.Table)
    → Goes registration slots from to → row.registration ≡ registration → worker_at worker old.rows ≡ Some row → is_none row.handler ≡ true → (list_any (is_on worker) old.events ≡ true → is_activated row ≡ false)
    → ((place : Slot) → in_slot place row.state ≡ true → slots place ≡ None) → ((place : Slot) → in_slot place row.state ≡ false → slots place ≡ slot_of place registration from.rows)
    → new ≡ record old { rows = changed (is_worker worker) (advanced worker_state.Redundant) old.rows }
    → OneMove registration worker row (advanced worker_state.Redundant) slots old new from to
gone_move registration worker row slots old new from to goes of here idle passive leaves stays is = record {
  goes = goes;
  of = of;
  here = here;
  is = is;
  number = λ x. refl;
  owner = λ x. refl;
  handler = λ runs. absurd (none_runs row.handler idle runs);
  activated = λ on was. absurd (true≢false (sym was ∙ passive on));
  stands = λ place in_place. absurd (in_redundant place in_place);
  enters = λ place in_place was. absurd (in_redundant place in_place);
  leaves = λ place will was. leaves place was;
  stays = λ place will was. stays place was;
}

young_slots : (s : WorkerState) → is_young s ≡ true → (place : Slot) → (in_slot place s ≡ true) → (place ≡ slot.Installing) × (is_installing s ≡ true)
young_slots worker_state.Parsed young slot.Installing is = absurd cc
young_slots worker_state.Parsed young slot.Waiting is = absurd cc
young_slots worker_state.Parsed young slot.Active is = absurd cc
young_slots worker_state.Installing young slot.Installing is = (refl, refl)
young_slots worker_state.Installing young slot.Waiting is = absurd cc
young_slots worker_state.Installing young slot.Active is = absurd cc
young_slots worker_state.Installed young place is = absurd cc
young_slots worker_state.Activating young place is = absurd cc
young_slots worker_state.Activated young place is = absurd cc
young_slots worker_state.Redundant young place is = absurd cc

young_passive : (s : WorkerState) (row : WorkerRow) → row.state ≡ s → is_young s ≡ true → is_activated row ≡ false
young_passive worker_state.Parsed row is young = cc is
young_passive worker_state.Installing row is young = cc is
young_passive worker_state.Installed row is young = absurd cc
young_passive worker_state.Activating row is young = absurd cc
young_passive worker_state.Activated row is young = absurd cc
young_passive worker_state.Redundant row is young = absurd cc

is_this : (o : Option ℕ) (n : ℕ) → is_number o n ≡ true → o ≡ Some n
is_this None n is = absurd cc
is_this (Some m) n is = ap (λ k. Some k) (grind (arith, nat_tests, is))

self_number : (o : Option ℕ) (n : ℕ) → o ≡ Some n → is_number o n ≡ true
self_number None n is = absurd cc
self_number (Some m) n is = grind (arith, nat_tests, is)

without_keeps : KeepsName (without slot.Installing)
without_keeps = record { number = λ row. refl; key = λ row. refl; scope = λ row. refl }

none_left : (o : Option RegistrationRow) → option_and_then (λ row. registrations.in_slot slot.Installing (without slot.Installing row)) o ≡ None
none_left None = refl
none_left (Some row) = refl

module _ (registration worker : ℕ) (row : WorkerRow) (old new : workers.Table) (from to : registrations.Table) (has : HasSlots old from) (known : Rests is_young registration worker row old)
    (is : new ≡ record old { rows = changed (is_worker worker) (advanced worker_state.Redundant) old.rows }) where
  own_slot : (place : Slot) → in_slot place row.state ≡ true → slot_of place registration from.rows ≡ Some worker
  own_slot place was = ap (λ q. slot_of place q from.rows) (sym known.of) ∙ (has.rows worker row known.here).slots place was

  installing_out : is_number (slot_of slot.Installing registration from.rows) worker ≡ true → to ≡ record from { rows = changed (is_registration registration) (without slot.Installing) from.rows }
      → (slots : Slot → Option ℕ) × OneMove registration worker row (advanced worker_state.Redundant) slots old new from to
  installing_out installs out = (
    _,
    gone_move registration worker row (slots_after (without slot.Installing) registration from) old new from to
        (goes_edited registration (without slot.Installing) without_keeps from to (ap (λ (t : registrations.Table). t.rows) out))
        known.of known.here known.handler (λ on. young_passive row.state row refl known.state)
        (λ place was. subst (λ p. slots_after (without slot.Installing) registration from p ≡ None) (sym (young_slots row.state known.state place was).0) (none_left (registration_at registration from.rows)))
        stays is,
  )
    where
      stays : (place : Slot) → in_slot place row.state ≡ false → slots_after (without slot.Installing) registration from place ≡ slot_of place registration from.rows
      stays slot.Installing was =
          let own = is_this (slot_of slot.Installing registration from.rows) worker installs in
          absurd (true≢false (sym (stands_there old from slot.Installing registration worker row has known.here own).0 ∙ was))
      stays slot.Waiting was = refl
      stays slot.Active was = refl

  parsed_out : is_number (slot_of slot.Installing registration from.rows) worker ≡ false → to ≡ from
      → (slots : Slot → Option ℕ) × OneMove registration worker row (advanced worker_state.Redundant) slots old new from to
  parsed_out apart same = subst (λ t. (slots : Slot → Option ℕ) × OneMove registration worker row (advanced worker_state.Redundant) slots old new from t) (sym same) (
    _,
    gone_move registration worker row (λ place. slot_of place registration from.rows) old new from from (goes_same registration from)
        known.of known.here known.handler (λ on. young_passive row.state row refl known.state)
        (λ place was. absurd (never place was)) (λ place was. refl) is,
  )
    where
      never : (place : Slot) → in_slot place row.state ≡ true → ⊥
      never place was =
          let own = subst (λ p. slot_of p registration from.rows ≡ Some worker) (young_slots row.state known.state place was).0 (own_slot place was) in
          true≢false (sym (self_number (slot_of slot.Installing registration from.rows) worker own) ∙ apart)

  pub discard_move : to ≡ (if is_number (slot_of slot.Installing registration from.rows) worker then record from { rows = changed (is_registration registration) (without slot.Installing) from.rows } else from)
      → (slots : Slot → Option ℕ) × OneMove registration worker row (advanced worker_state.Redundant) slots old new from to
  discard_move left = by (is_number (slot_of slot.Installing registration from.rows) worker) refl left
    where
      by : (b : Bool) → is_number (slot_of slot.Installing registration from.rows) worker ≡ b → to ≡ (if b then record from { rows = changed (is_registration registration) (without slot.Installing) from.rows } else from)
          → (slots : Slot → Option ℕ) × OneMove registration worker row (advanced worker_state.Redundant) slots old new from to
      by true installs out = installing_out installs out
      by false apart out = parsed_out apart out

pub discarded_shown : (registration worker : ℕ) (from to : registrations.Table) (scopes : Scopes) (rest : Rest)
    → to ≡ (if is_number (slot_of slot.Installing registration from.rows) worker then record from { rows = changed (is_registration registration) (without slot.Installing) from.rows } else from)
    → map (shown_registration scopes rest) to.rows ≡ map (shown_registration scopes rest) from.rows
discarded_shown registration worker from to scopes rest left = by (is_number (slot_of slot.Installing registration from.rows) worker) left
  where
    by : (b : Bool) → to ≡ (if b then record from { rows = changed (is_registration registration) (without slot.Installing) from.rows } else from)
        → map (shown_registration scopes rest) to.rows ≡ map (shown_registration scopes rest) from.rows
    by true out =
        ap (λ (t : registrations.Table). map (shown_registration scopes rest) t.rows) out
        ∙ unseen_changed (shown_registration scopes rest) (is_registration registration) (without slot.Installing) (λ row. refl) from.rows
    by false same = ap (λ (t : registrations.Table). map (shown_registration scopes rest) t.rows) same

-- ---- a parsed worker begins to install

only_parsed : (s : WorkerState) → is_parsed s ≡ true → s ≡ worker_state.Parsed
only_parsed worker_state.Parsed is = refl
only_parsed worker_state.Installing is = absurd cc
only_parsed worker_state.Installed is = absurd cc
only_parsed worker_state.Activating is = absurd cc
only_parsed worker_state.Activated is = absurd cc
only_parsed worker_state.Redundant is = absurd cc

-- own: a worker's state and handler when it begins to install
abbrev pub begun : WorkerRow → WorkerRow
begun row = started phase.Install (advanced worker_state.Installing row)

with_keeps : (worker : ℕ) → KeepsName (with_installing worker)
with_keeps worker = record { number = λ row. refl; key = λ row. refl; scope = λ row. refl }

pub slot_empty : (o : Option RegistrationRow) → is_some o ≡ true → option_and_then (registrations.in_slot slot.Installing) o ≡ None → option_map_or (λ (row : RegistrationRow). is_none row.installing) o false ≡ true
slot_empty None is empty = is
slot_empty (Some row) is empty = cc empty

pub install_move : (registration worker : ℕ) (row : WorkerRow) (old new : workers.Table) (from to : registrations.Table) → HasSlots old from → Rests is_parsed registration worker row old
    → slot_of slot.Installing registration from.rows ≡ None → new ≡ record old { rows = changed (is_worker worker) begun old.rows }
    → to ≡ record from { rows = changed (is_registration registration) (with_installing worker) from.rows }
    → OneMove registration worker row begun (slots_after (with_installing worker) registration from) old new from to
install_move registration worker row old new from to has known empty is set = record {
  goes = goes_edited registration (with_installing worker) (with_keeps worker) from to (ap (λ (t : registrations.Table). t.rows) set);
  of = known.of;
  here = known.here;
  is = is;
  number = λ x. refl;
  owner = λ x. refl;
  handler = λ runs. refl;
  activated = λ on was. absurd (cc (parsed, was));
  stands = stands;
  enters = enters;
  leaves = λ place will was. absurd (never place was);
  stays = stays;
}
  where
    parsed : row.state ≡ worker_state.Parsed
    parsed = only_parsed row.state known.state

    filled : (o : Option RegistrationRow) → is_some o ≡ true → option_and_then (λ row. registrations.in_slot slot.Installing (with_installing worker row)) o ≡ Some worker
    filled None is = absurd cc
    filled (Some row) is = refl

    owner : registrations.is_there registration from.rows ≡ true
    owner = ap (λ q. registrations.is_there q from.rows) (sym known.of) ∙ (has.rows worker row known.here).owner

    stands : (place : Slot) → in_slot place worker_state.Installing ≡ true → slots_after (with_installing worker) registration from place ≡ Some worker
    stands slot.Installing in_place = filled (registration_at registration from.rows) owner
    stands slot.Waiting in_place = absurd cc
    stands slot.Active in_place = absurd cc

    enters : (place : Slot) → in_slot place worker_state.Installing ≡ true → in_slot place row.state ≡ false → slot_of place registration from.rows ≡ None
    enters slot.Installing in_place was = empty
    enters slot.Waiting in_place was = absurd cc
    enters slot.Active in_place was = absurd cc

    in_none : (place : Slot) → in_slot place worker_state.Parsed ≡ true → ⊥
    in_none slot.Installing is = absurd cc
    in_none slot.Waiting is = absurd cc
    in_none slot.Active is = absurd cc

    never : (place : Slot) → in_slot place row.state ≡ true → ⊥
    never place was = in_none place (ap (λ s. in_slot place s) (sym parsed) ∙ was)

    stays : (place : Slot) → in_slot place worker_state.Installing ≡ false → in_slot place row.state ≡ false → slots_after (with_installing worker) registration from place ≡ slot_of place registration from.rows
    stays slot.Installing will was = absurd cc
    stays slot.Waiting will was = refl
    stays slot.Active will was = refl

pub is_idle_still : (registration worker : ℕ) (row : WorkerRow) (old new : workers.Table) (to : WorkerState) → Rests is_parsed registration worker row old
    → new ≡ record old { rows = changed (is_worker worker) (advanced to) old.rows } → has_worker is_idle worker new.rows ≡ true
is_idle_still registration worker row old new to known is =
    passing is_idle (worker_at worker new.rows) (advanced to row)
    (ap (λ (t : workers.Table). worker_at worker t.rows) is
    ∙ (at_changed (λ r. r.number) (advanced to) (λ r. refl) worker old.rows ∙ ap (option_map (advanced to)) known.here)) known.handler

-- its state and its handler are written one after the other
pub begins : (worker : ℕ) (old mid new : workers.Table) → mid ≡ record old { rows = changed (is_worker worker) (advanced worker_state.Installing) old.rows }
    → new ≡ record mid { rows = changed (is_worker worker) (started phase.Install) mid.rows }
    → new ≡ record old { rows = changed (is_worker worker) begun old.rows }
begins worker old mid new first after =
    after ∙ (ap (λ (t : workers.Table). record t { rows = changed (is_worker worker) (started phase.Install) t.rows }) first
    ∙ ap (λ (rows : List WorkerRow). record old { rows = rows })
    (changed_twice (is_worker worker) (started phase.Install) (advanced worker_state.Installing) (λ row. refl) old.rows))

-- ---- a worker that was activating is activated

only_activating : (s : WorkerState) → is_activating s ≡ true → s ≡ worker_state.Activating
only_activating worker_state.Parsed is = absurd cc
only_activating worker_state.Installing is = absurd cc
only_activating worker_state.Installed is = absurd cc
only_activating worker_state.Activating is = refl
only_activating worker_state.Activated is = absurd cc
only_activating worker_state.Redundant is = absurd cc

pub activated_move : (registration worker : ℕ) (row : WorkerRow) (old new : workers.Table) (of : registrations.Table) → HasSlots old of → Rests is_activating registration worker row old
    → new ≡ record old { rows = changed (is_worker worker) (advanced worker_state.Activated) old.rows }
    → OneMove registration worker row (advanced worker_state.Activated) (λ place. slot_of place registration of.rows) old new of of
activated_move registration worker row old new of has known is = record {
  goes = goes_same registration of;
  of = known.of;
  here = known.here;
  is = is;
  number = λ x. refl;
  owner = λ x. refl;
  handler = λ runs. absurd (none_runs row.handler known.handler runs);
  activated = λ on was. refl;
  stands = λ place will. ap (λ q. slot_of place q of.rows) (sym known.of) ∙ (has.rows worker row known.here).slots place (as_before place ∙ will);
  enters = λ place will was. absurd (true≢false (sym will ∙ (sym (as_before place) ∙ was)));
  leaves = λ place will was. absurd (true≢false (sym was ∙ (as_before place ∙ will)));
  stays = λ place will was. refl;
}
  where
    same_slots : (place : Slot) → in_slot place worker_state.Activating ≡ in_slot place worker_state.Activated
    same_slots slot.Installing = refl
    same_slots slot.Waiting = refl
    same_slots slot.Active = refl

    as_before : (place : Slot) → in_slot place row.state ≡ in_slot place worker_state.Activated
    as_before place = ap (λ s. in_slot place s) (only_activating row.state known.state) ∙ same_slots place
