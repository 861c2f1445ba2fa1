-- Where workers stand: in the slots of their registrations that their states name.
use Rattle.std.proofs.Common.{◌≡◌, ◌∙◌, ℕ, Bool, true, false, ◌&&◌, ◌||◌, ◌==◌, List, Option, Some, refl, sym, ap, true≢false, arith}
use Rattle.std.proofs.lemmas.Bool.{and_parts}
use Rattle.std.proofs.lemmas.Bool.Decides.{nat_tests}
use Rattle.sw_data.specs.declared.rows.WorkerRow.{WorkerRow}
use Rattle.sw_data.specs.declared.workers.Slot.{Slot}
use Rattle.sw_data.specs.declared.workers.Slot.TheVariants as place
use Rattle.sw_data.specs.declared.workers.WorkerState.{WorkerState}
use Rattle.sw_data.specs.declared.workers.WorkerState.TheVariants as worker_state
use Rattle.sw_reg.specs.Table as registrations
use Rattle.sw_reg.specs.Table.{slot_of}
use Rattle.sw_rules.specs.Rows.{in_slot, is_number}
use Rattle.sw_tables.proofs.Moves.{same_number, there}
use Rattle.sw_tables.specs.Linked.{HasSlots, runs_handler}
use Rattle.sw_tables.specs.Shifts.{is_of}
use Rattle.sw_worker.specs.Table as workers
use Rattle.sw_worker.specs.Table.{is_activated, may_follow, worker_at}

pub is_same : (a b : ℕ) → a ≡ b → (a == b) ≡ true
is_same a b is = grind (arith, nat_tests, is)

pub follows : (p : Slot) (state : WorkerState) → in_slot p state ≡ true → may_follow state worker_state.Redundant ≡ true
follows place.Installing state is = grind (arith, is)
follows place.Waiting state is = grind (arith, is)
follows place.Active state is = grind (arith, is)

both_in : (p : Slot) (row : WorkerRow) (registration : ℕ) → (row.registration == registration) ≡ true → in_slot p row.state ≡ true → (is_of registration row && in_slot p row.state) ≡ true
both_in p row registration own is = cc (own, is)

pub neither : (a b : Bool) → (a || b) ≡ false → (a ≡ false) × (b ≡ false)
neither false b is = (refl, is)
neither true b is = absurd cc

pub activated_state : (state : WorkerState) (row : WorkerRow) → is_activated (record row { state = state }) ≡ true → in_slot place.Active state ≡ true
activated_state worker_state.Activated row is = refl
activated_state worker_state.Parsed row is = absurd cc
activated_state worker_state.Installing row is = absurd cc
activated_state worker_state.Installed row is = absurd cc
activated_state worker_state.Activating row is = absurd cc
activated_state worker_state.Redundant row is = absurd cc

-- a handler runs in a slot other than the waiting one
pub runs_in : (state : WorkerState) → runs_handler state ≡ true → (p : Slot) × (in_slot p state ≡ true) × (p ≡ place.Waiting → ⊥)
runs_in worker_state.Installing is = (place.Installing, refl, λ same. absurd cc)
runs_in worker_state.Activating is = (place.Active, refl, λ same. absurd cc)
runs_in worker_state.Parsed is = absurd cc
runs_in worker_state.Installed is = absurd cc
runs_in worker_state.Activated is = absurd cc
runs_in worker_state.Redundant is = absurd cc

-- own: a worker of this number stands in a slot of a registration
pub record InSlot (p : Slot) (registration number : ℕ) (rows : List WorkerRow) (row : WorkerRow) : Type 0 where
  pub is : worker_at number rows ≡ Some row
  pub owner : row.registration ≡ registration
  pub state : in_slot p row.state ≡ true

module _ (of_workers : workers.Table) (of_registrations : registrations.Table) (has : HasSlots of_workers of_registrations) where
  abbrev slot : Slot → ℕ → Option ℕ
  slot p registration = slot_of p registration of_registrations.rows

  pub stands : (p : Slot) (registration n : ℕ) → slot p registration ≡ Some n → (row : WorkerRow) × InSlot p registration n of_workers.rows row
  stands p registration n is =
      let found = there (λ row. row.registration == registration && in_slot p row.state) (worker_at n of_workers.rows) (has.filled p registration n is) in
      let parts = and_parts (found.0.registration == registration) (in_slot p found.0.state) found.2 in
      (found.0, record { is = found.1; owner = same_number found.0.registration registration parts.0; state = parts.1 })

  -- a worker is the one in a slot exactly where its row says so
  pub in_its_slot : (p : Slot) (registration n : ℕ) (row : WorkerRow) → worker_at n of_workers.rows ≡ Some row → is_number (slot p registration) n ≡ (is_of registration row && in_slot p row.state)
  in_its_slot p registration n row is = by (is_of registration row) (in_slot p row.state) refl refl
    where
      other : (a : Bool) → is_number (slot p registration) n ≡ a → (a ≡ true → ⊥) → is_number (slot p registration) n ≡ false
      other true passes never = absurd (never refl)
      other false passes never = passes

      told : is_number (slot p registration) n ≡ true → (is_of registration row ≡ true) × (in_slot p row.state ≡ true)
      told passes =
          let found = there (λ m. m == n) (slot p registration) passes in
          let stood = stands p registration found.0 found.1 in
          let same : Some stood.0 ≡ Some row = sym stood.1.is ∙ (ap (λ m. worker_at m of_workers.rows) (same_number found.0 n found.2) ∙ is) in
          let one : stood.0 ≡ row = cc same in
          (is_same row.registration registration (ap (λ (w : WorkerRow). w.registration) (sym one) ∙ stood.1.owner), ap (λ (w : WorkerRow). in_slot p w.state) (sym one) ∙ stood.1.state)

      by : (a b : Bool) → is_of registration row ≡ a → in_slot p row.state ≡ b → is_number (slot p registration) n ≡ (is_of registration row && in_slot p row.state)
      by true true own here =
          ap (λ o. is_number o n) (ap (slot p) (sym (same_number row.registration registration own)) ∙ (has.rows n row is).slots p here)
          ∙ (is_same n n refl ∙ sym (both_in p row registration own here))
      by false b own here = other _ refl (λ passes. true≢false (sym (told passes).0 ∙ own)) ∙ cc own
      by true false own here = other _ refl (λ passes. true≢false (sym (told passes).1 ∙ here)) ∙ cc (own, here)

  -- a worker of a registration in a slot's state stands there
  pub stands_where : (p : Slot) (registration n : ℕ) (row : WorkerRow) → worker_at n of_workers.rows ≡ Some row → is_of registration row ≡ true → in_slot p row.state ≡ true → slot p registration ≡ Some n
  stands_where p registration n row is own here =
      ap (λ q. slot_of p q of_registrations.rows) (sym (same_number row.registration registration own)) ∙ (has.rows n row is).slots p here

  -- no worker stands in two slots
  pub apart : (p q : Slot) → ((state : WorkerState) → in_slot p state ≡ true → in_slot q state ≡ false) → (registration n : ℕ) → slot p registration ≡ Some n → is_number (slot q registration) n ≡ false
  apart p q differ registration n is =
      let stood = stands p registration n is in
      in_its_slot q registration n stood.0 stood.1.is ∙ cc (is_same stood.0.registration registration stood.1.owner, differ stood.0.state stood.1.state)
