-- The worker in a slot of a registration, where there is one, becomes redundant, and the slot is empty.
use Rattle.std.proofs.Common.{◌≡◌, ◌∙◌, ℕ, Bool, true, false, List, [], ◌∷◌, ◌++◌, map, Option, Some, None, option_map, option_and_then, refl, sym, ap, subst, true≢false, arith, if◌then◌else◌}
use Rattle.std.specs.Prelude.{is_none, is_some}
use Rattle.std.specs.List.{list_any}
use Rattle.std.specs.Option.{option_map_or}
use Rattle.std.proofs.lemmas.Bool.Decides.{nat_tests}
use Rattle.sw_client.specs.Table as clients
use Rattle.sw_data.specs.declared.rows.RegistrationRow.{RegistrationRow}
use Rattle.sw_data.specs.declared.rows.WorkerRow.{WorkerRow}
use Rattle.sw_data.specs.declared.workers.Slot.{Slot}
use Rattle.sw_data.specs.declared.workers.Slot.TheVariants as slot
use Rattle.sw_data.specs.declared.workers.WorkerState.{WorkerState}
use Rattle.sw_data.specs.declared.workers.WorkerState.TheVariants as worker_state
use Rattle.sw_reg.specs.Edits.{without}
use Rattle.sw_reg.specs.Table as registrations
use Rattle.sw_reg.specs.Table.{is_registration, registration_at, slot_of}
use Rattle.sw_rules.specs.Noticing.{Did, NoticeList}
use Rattle.sw_rules.specs.Registrations.{become, clear, retire}
use Rattle.sw_rules.specs.Rows.{changed, in_slot, is_number, slot_worker}
use Rattle.sw_rules.specs.State.{State, Worker}
use Rattle.sw_rules.specs.Told.{quiet}
use Rattle.sw_scope.specs.Scopes.{Scopes}
use Rattle.sw_tables.proofs.Chain.{did_then}
use Rattle.sw_tables.proofs.Lives.{gone_move}
use Rattle.sw_tables.proofs.Moves.{Goes, KeepsName, goes_edited, passing, same_number, slots_after}
use Rattle.sw_tables.proofs.OneMoves.{OneMove, one_linked, one_moved}
use Rattle.sw_tables.proofs.Rows.{at_others, found_number, map_on}
use Rattle.sw_tables.proofs.Shown.{one_shown, slot_shown, unseen_changed}
use Rattle.sw_tables.proofs.Standing.{InSlot, follows, neither, stands}
use Rattle.sw_tables.specs.Lent.{Rest, lent, shown_registration, shown_worker}
use Rattle.sw_tables.specs.Linked.{HasSlots, registration_of}
use Rattle.sw_tables.specs.Parts.{SlotsDid, StayLinked}
use Rattle.sw_tables.specs.Shifts.{IsQuietIn, Vacates, retired, told_redundant}
use Rattle.sw_worker.specs.Edits.{advanced}
use Rattle.sw_worker.specs.Table as workers
use Rattle.sw_worker.specs.Table.{has_worker, is_on, is_running, may_advance, may_follow, worker_at}

-- ---- a slot that is left

without_keeps : (place : Slot) → KeepsName (without place)
without_keeps slot.Installing = record { number = λ row. refl; key = λ row. refl; scope = λ row. refl }
without_keeps slot.Waiting = record { number = λ row. refl; key = λ row. refl; scope = λ row. refl }
without_keeps slot.Active = record { number = λ row. refl; key = λ row. refl; scope = λ row. refl }

-- a slot that is left is empty
left_slot : (place : Slot) (o : Option RegistrationRow) → option_and_then (λ row. registrations.in_slot place (without place row)) o ≡ None
left_slot place None = refl
left_slot slot.Installing (Some row) = refl
left_slot slot.Waiting (Some row) = refl
left_slot slot.Active (Some row) = refl

-- and the others stay
other_slot : (place other : Slot) → (other ≡ place → ⊥) → (row : RegistrationRow) → registrations.in_slot other (without place row) ≡ registrations.in_slot other row
other_slot slot.Installing slot.Installing differ row = absurd (differ refl)
other_slot slot.Installing slot.Waiting differ row = refl
other_slot slot.Installing slot.Active differ row = refl
other_slot slot.Waiting slot.Installing differ row = refl
other_slot slot.Waiting slot.Waiting differ row = absurd (differ refl)
other_slot slot.Waiting slot.Active differ row = refl
other_slot slot.Active slot.Installing differ row = refl
other_slot slot.Active slot.Waiting differ row = refl
other_slot slot.Active slot.Active differ row = absurd (differ refl)

other_slots : (place other : Slot) → (other ≡ place → ⊥) → (o : Option RegistrationRow) → option_and_then (λ row. registrations.in_slot other (without place row)) o ≡ option_and_then (registrations.in_slot other) o
other_slots place other differ None = refl
other_slots place other differ (Some row) = other_slot place other differ row

-- one that was empty is as it was
empty_left : (place : Slot) (row : RegistrationRow) → registrations.in_slot place row ≡ None → without place row ≡ row
empty_left slot.Installing row is = ap (λ o. record row { installing = o }) (sym is)
empty_left slot.Waiting row is = ap (λ o. record row { waiting = o }) (sym is)
empty_left slot.Active row is = ap (λ o. record row { active = o }) (sym is)

without_shown : (scopes : Scopes) (rest : Rest) (place : Slot) (row : RegistrationRow) → shown_registration scopes rest (without place row) ≡ shown_registration scopes rest row
without_shown scopes rest slot.Installing row = refl
without_shown scopes rest slot.Waiting row = refl
without_shown scopes rest slot.Active row = refl

-- a state stands in one slot
one_slot : (p q : Slot) (state : WorkerState) → in_slot p state ≡ true → in_slot q state ≡ true → p ≡ q
one_slot slot.Installing slot.Installing state is was = refl
one_slot slot.Installing slot.Waiting state is was = absurd (grind (arith, is, was))
one_slot slot.Installing slot.Active state is was = absurd (grind (arith, is, was))
one_slot slot.Waiting slot.Installing state is was = absurd (grind (arith, is, was))
one_slot slot.Waiting slot.Waiting state is was = refl
one_slot slot.Waiting slot.Active state is was = absurd (grind (arith, is, was))
one_slot slot.Active slot.Installing state is was = absurd (grind (arith, is, was))
one_slot slot.Active slot.Waiting state is was = absurd (grind (arith, is, was))
one_slot slot.Active slot.Active state is was = refl

same_rows : (rows : List RegistrationRow) → map (λ row. row) rows ≡ rows
same_rows [] = refl
same_rows (x ∷ xs) = ap (λ rest. x ∷ rest) (same_rows xs)

no_handler : {X : Type 0} (o : Option X) → is_some o ≡ false → is_none o ≡ true
no_handler None is = refl
no_handler (Some x) is = absurd cc

-- ---- a worker that becomes redundant

has_still : (test : WorkerRow → Bool) → ((row : WorkerRow) → test (advanced worker_state.Redundant row) ≡ test row) → (o : Option ℕ) (n : ℕ) (rows : List WorkerRow) → has_worker test n (retired o rows) ≡ has_worker test n rows
has_still test same None n rows = refl
has_still test same (Some m) n [] = refl
has_still test same (Some m) n (x ∷ xs) = grind (arith, same x, has_still test same (Some m) n xs)

owner_still : (o : Option ℕ) (n : ℕ) (rows : List WorkerRow) → registration_of (retired o rows) n ≡ registration_of rows n
owner_still None n rows = refl
owner_still (Some m) n [] = refl
owner_still (Some m) n (x ∷ xs) = grind (arith, owner_still (Some m) n xs)

others_still : (o : Option ℕ) (n : ℕ) (rows : List WorkerRow) → is_number o n ≡ false → worker_at n (retired o rows) ≡ worker_at n rows
others_still None n rows other = refl
others_still (Some m) n rows other = at_others (λ row. row.number) (advanced worker_state.Redundant) (λ row. refl) n m (grind (arith, nat_tests, other)) rows

module _ (place : Slot) (registration : ℕ) (old : workers.Table) (from : registrations.Table) (has : HasSlots old from) where
  abbrev here : Option ℕ
  here = slot_of place registration from.rows

  pub may_retire : option_map_or (λ n. may_advance n worker_state.Redundant old.rows) here true ≡ true
  may_retire = by here refl
    where
      by : (o : Option ℕ) → here ≡ o → option_map_or (λ n. may_advance n worker_state.Redundant old.rows) o true ≡ true
      by None is = refl
      by (Some n) is =
          let stood = stands old from has place registration n is in
          passing (λ row. may_follow row.state worker_state.Redundant) (worker_at n old.rows) stood.0 stood.1.is (follows place stood.0.state stood.1.state)

  module _ (mid : workers.Table) (to : registrations.Table) (out : mid ≡ record old { rows = retired here old.rows }) (left : to ≡ record from { rows = changed (is_registration registration) (without place) from.rows }) where
    goes : Goes registration (slots_after (without place) registration from) from to
    goes = goes_edited registration (without place) (without_keeps place) from to (ap (λ (t : registrations.Table). t.rows) left)

    rows_out : mid.rows ≡ retired here old.rows
    rows_out = ap (λ (t : workers.Table). t.rows) out

    pub vacates : Vacates place registration old mid from to
    vacates = record {
      empty = goes.become place ∙ left_slot place (registration_at registration from.rows);
      others = λ other differ. goes.become other ∙ other_slots place other differ (registration_at registration from.rows);
      there = goes.there registration;
      workers = λ n other. ap (worker_at n) rows_out ∙ others_still here n old.rows other;
      pending = λ n. cc (ap (λ rows. has_worker is_running n rows) rows_out, has_still is_running (λ row. refl) here n old.rows, ap (λ (t : workers.Table). t.events) out);
      owners = λ n. ap (λ rows. registration_of rows n) rows_out ∙ owner_still here n old.rows;
    }

    -- where none stood there
    none : here ≡ None → (mid ≡ old) × (to ≡ from)
    none is = (
      out ∙ ap (λ o. record old { rows = retired o old.rows }) is,
      left ∙ ap (λ rows. record from { rows = rows }) (map_on (λ row. row.number) (λ row. if is_registration registration row then without place row else row) (λ row. row) from.rows has.registration_places same ∙ same_rows from.rows),
    )
      where
        by : (row : RegistrationRow) → registration_at row.number from.rows ≡ Some row → (b : Bool) → is_registration registration row ≡ b → (if b then without place row else row) ≡ row
        by row at false other = refl
        by row at true own =
            let found : registration_at registration from.rows ≡ Some row = ap (λ n. registration_at n from.rows) (sym (same_number row.number registration own)) ∙ at in
            empty_left place row (ap (option_and_then (registrations.in_slot place)) (sym found) ∙ is)

        same : (row : RegistrationRow) → registration_at row.number from.rows ≡ Some row → (if is_registration registration row then without place row else row) ≡ row
        same row at = by row at (is_registration registration row) refl

    -- where one did
    module _ (quiet_there : IsQuietIn place registration old from) where
      some : (n : ℕ) → here ≡ Some n → (row : WorkerRow) × OneMove registration n row (advanced worker_state.Redundant) (slots_after (without place) registration from) old mid from to
      some n is = (
        stood.0,
        gone_move registration n stood.0 (slots_after (without place) registration from) old mid from to goes stood.1.owner stood.1.is
            (no_handler stood.0.handler (ap (λ o. option_map_or is_running o false) (sym stood.1.is) ∙ pending.0))
            (λ on. absurd (true≢false (sym on ∙ pending.1)))
            (λ p was. subst (λ q. slots_after (without place) registration from q ≡ None) (sym (one_slot p place stood.0.state was stood.1.state)) (left_slot place (registration_at registration from.rows)))
            (λ p was. other_slots place p (λ same. true≢false (sym stood.1.state ∙ (sym (ap (λ q. in_slot q stood.0.state) same) ∙ was))) (registration_at registration from.rows))
            (out ∙ ap (λ o. record old { rows = retired o old.rows }) is),
      )
        where
          stood : (row : WorkerRow) × InSlot place registration n old.rows row
          stood = stands old from has place registration n is

          pending : (has_worker is_running n old.rows ≡ false) × (list_any (is_on n) old.events ≡ false)
          pending = neither (has_worker is_running n old.rows) (list_any (is_on n) old.events) (quiet_there n is)

      pub retired_slots : HasSlots mid to
      retired_slots = by here refl
        where
          by : (o : Option ℕ) → here ≡ o → HasSlots mid to
          by None is = let same = none is in subst (λ t. HasSlots t to) (sym same.0) (subst (HasSlots old) (sym same.1) has)
          by (Some n) is = let move = some n is in one_moved registration n move.0 (advanced worker_state.Redundant) _ _ _ _ _ move.1 has

      pub retired_linked : StayLinked old from mid to
      retired_linked = by here refl
        where
          by : (o : Option ℕ) → here ≡ o → StayLinked old from mid to
          by None is = let same = none is in subst (λ t. StayLinked old from t to) (sym same.0) (subst (StayLinked old from old) (sym same.1) (λ scopes of_clients linked. linked))
          by (Some n) is = let move = some n is in one_linked registration n move.0 (advanced worker_state.Redundant) _ _ _ _ _ move.1 has

    -- what is told of a worker that is found, where one is
    abbrev goes_on : Scopes → clients.Table → Rest → NoticeList → NoticeList → Option Worker → Type 0
    goes_on scopes of_clients rest before after o =
        let state = lent scopes old from of_clients rest in
        Did (elim o [ None ↦ quiet state | Some w ↦ become state w.number worker_state.Redundant ]) before after (lent scopes mid to of_clients rest)

    pub retired_did : (before after : NoticeList) → after.rows ≡ before.rows ++ told_redundant here → SlotsDid (λ state. retire state place registration) before after old from mid to
    unfolding retire become
    retired_did before after told scopes of_clients rest = by here refl
      where
        found : (o : Option ℕ) → here ≡ o → slot_worker (lent scopes old from of_clients rest) place registration ≡ option_map shown_worker (option_and_then (λ n. worker_at n old.rows) o)
        found o is = slot_shown old from scopes of_clients rest place registration has ∙ ap (λ p. option_map shown_worker (option_and_then (λ n. worker_at n old.rows) p)) is

        by : (o : Option ℕ) → here ≡ o → Did (retire (lent scopes old from of_clients rest) place registration) before after (lent scopes mid to of_clients rest)
        by None is =
            let same = none is in
            subst (goes_on scopes of_clients rest before after) (sym (found None is)) (record {
              state = ap (λ t. lent scopes t to of_clients rest) same.0 ∙ ap (λ t. lent scopes old t of_clients rest) same.1;
              notices = told ∙ ap (λ o. before.rows ++ told_redundant o) is;
            })
        by (Some n) is =
            let stood = stands old from has place registration n is in
            let number : stood.0.number ≡ n = found_number (λ row. row.number) n old.rows stood.0 stood.1.is in
            subst (goes_on scopes of_clients rest before after) (sym (found (Some n) is ∙ ap (option_map shown_worker) stood.1.is)) (record {
              state =
                  one_shown n (advanced worker_state.Redundant) (λ row. record row { state = worker_state.Redundant }) (λ row. refl) old mid from to scopes of_clients rest
                  (ap (λ (t : registrations.Table). map (shown_registration scopes rest) t.rows) left ∙ unseen_changed (shown_registration scopes rest) (is_registration registration) (without place) (without_shown scopes rest place) from.rows)
                  (out ∙ ap (λ o. record old { rows = retired o old.rows }) is)
                  ∙ ap (λ m. (become (lent scopes old from of_clients rest) m worker_state.Redundant).state) (sym number);
              notices = told ∙ (ap (λ o. before.rows ++ told_redundant o) is ∙ ap (λ m. before.rows ++ told_redundant (Some m)) (sym number));
            })

-- ---- one slot after another

-- nothing is pending in another slot
pub still_quiet : (place other : Slot) (registration : ℕ) (old mid : workers.Table) (from to : registrations.Table) → (other ≡ place → ⊥) → Vacates place registration old mid from to → IsQuietIn other registration old from → IsQuietIn other registration mid to
still_quiet place other registration old mid from to differ out quiet_there n is = out.pending n ∙ quiet_there n (sym (out.others other differ) ∙ is)

pub clear_did : (registration : ℕ) (old one two new : workers.Table) (from first second to : registrations.Table) (before told more after : NoticeList)
    → SlotsDid (λ state. retire state slot.Installing registration) before told old from one first → SlotsDid (λ state. retire state slot.Waiting registration) told more one first two second
    → SlotsDid (λ state. retire state slot.Active registration) more after two second new to → SlotsDid (λ state. clear state registration) before after old from new to
unfolding clear
clear_did registration old one two new from first second to before told more after installing waiting active scopes of_clients rest =
    let at : workers.Table → registrations.Table → State = λ t r. lent scopes t r of_clients rest in
    did_then (retire (at old from) slot.Installing registration) _ before told after (at one first) (at new to) (installing scopes of_clients rest)
    (did_then (retire (at one first) slot.Waiting registration) _ told more after (at two second) (at new to) (waiting scopes of_clients rest) (active scopes of_clients rest))
