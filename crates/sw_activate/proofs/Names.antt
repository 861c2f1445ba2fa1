-- Try Clear, Try Activate and a client that leaves keep the names of all rows.
use Rattle.std.proofs.Common.{◌≡◌, ◌∙◌, ◌==◌, ◌||◌, ℕ, Bool, true, false, List, [], ◌∷◌, map, Option, Some, None, option_map, option_and_then, refl, sym, ap, subst, arith, if◌then◌else◌}
use Rattle.std.specs.Prelude.{find, IfSome}
use Rattle.sw_client.specs.Table as clients
use Rattle.sw_data.specs.declared.rows.ClientRow.{ClientRow}
use Rattle.sw_data.specs.declared.rows.WorkerRow.{WorkerRow}
use Rattle.sw_data.specs.declared.workers.Phase.TheVariants as phase
use Rattle.sw_data.specs.declared.workers.Slot.{Slot}
use Rattle.sw_data.specs.declared.workers.Slot.TheVariants as slot
use Rattle.sw_data.specs.declared.workers.WorkerState.{WorkerState}
use Rattle.sw_data.specs.declared.workers.WorkerState.TheVariants as worker_state
use Rattle.sw_reg.specs.Table as registrations
use Rattle.sw_rules.specs.Registrations as rules
use Rattle.sw_rules.specs.Told.{Told, followed, keep, quiet}
use Rattle.sw_rules.specs.Rows as rows_of
use Rattle.sw_rules.specs.Rows.{changed, has_pending_worker, is_used}
use Rattle.sw_rules.specs.State.{State, Registration, Worker}
use Rattle.sw_scope.specs.Scopes.{Scopes}
use Rattle.sw_tables.proofs.Rows.{find_map}
use Rattle.sw_tables.specs.Lent.{Rest, lent, shown_registration, shown_worker}
use Rattle.sw_tables.specs.Linked.{HasSlots, registration_of}
use Rattle.sw_worker.specs.Table as workers
use Rattle.sw_worker.specs.Table.{worker_at}
use Rattle.sw_activate.specs.Names.{KeepNames, numbers}

abbrev pub of_worker : Worker → ℕ × ℕ
of_worker row = (row.number, row.registration)

-- own: two states name the same rows
pub record Alike (old new : State) : Type 0 where
  pub registrations : map (λ row. row.number) new.registrations ≡ map (λ row. row.number) old.registrations
  pub workers : map of_worker new.workers ≡ map of_worker old.workers
  pub clients : map (λ row. row.number) new.clients ≡ map (λ row. row.number) old.clients

pub seen_same : {X Y : Type 0} (seen : X → Y) (test : X → Bool) (f : X → X) → ((x : X) → seen (f x) ≡ seen x) → (xs : List X) → map seen (changed test f xs) ≡ map seen xs
seen_same seen test f same [] = refl
seen_same seen test f same (x ∷ xs) = grind (arith, same x, seen_same seen test f same xs)

pub map_map : {X Y Z : Type 0} (g : Y → Z) (f : X → Y) (xs : List X) → map g (map f xs) ≡ map (λ x. g (f x)) xs
map_map g f [] = refl
map_map g f (x ∷ xs) = grind (arith, map_map g f xs)

same : (state : State) → Alike state state
same state = record { registrations = refl; workers = refl; clients = refl }

alike_then : (one two three : State) → Alike one two → Alike two three → Alike one three
alike_then one two three a b = record {
  registrations = b.registrations ∙ a.registrations;
  workers = b.workers ∙ a.workers;
  clients = b.clients ∙ a.clients;
}

become_alike : (state : State) (worker : ℕ) (to : WorkerState) → Alike state (rules.become state worker to).state
unfolding rules.become
become_alike state worker to = record {
  registrations = refl;
  workers = seen_same of_worker (rows_of.is_worker worker) (λ row. record row { state = to }) (λ row. refl) state.workers;
  clients = refl;
}

retire_alike : (state : State) (place : Slot) (registration : ℕ) → Alike state (rules.retire state place registration).state
unfolding rules.retire
retire_alike state place registration = by (rows_of.slot_worker state place registration)
  where
    by : (o : Option Worker) → Alike state (let told : Told = elim o [ None ↦ quiet state | Some old ↦ rules.become state old.number worker_state.Redundant ] in told.state)
    by None = same state
    by (Some old) = become_alike state old.number worker_state.Redundant

pub clear_alike : (state : State) (registration : ℕ) → Alike state (rules.clear state registration).state
unfolding rules.clear followed
clear_alike state registration =
    let one = (rules.retire state slot.Installing registration).state in
    let two = (rules.retire one slot.Waiting registration).state in
    alike_then state one _ (retire_alike state slot.Installing registration) (alike_then one two _ (retire_alike one slot.Waiting registration) (retire_alike two slot.Active registration))

pub try_clear_alike : (state : State) (registration : ℕ) → Alike state (rules.try_clear state registration).state
unfolding rules.try_clear
try_clear_alike state registration = by (is_used state registration || has_pending_worker state registration)
  where
    by : (b : Bool) → Alike state (if b then quiet state else rules.clear state registration).state
    by true = same state
    by false = clear_alike state registration

-- a worker is the controller of each client of a registration, and its handler starts
begun_alike : (state : State) (registration worker : ℕ) → Alike state (rules.start_handler (rules.take_over state registration worker).state worker phase.Activate).state
unfolding rules.take_over rules.start_handler
begun_alike state registration worker = record {
  registrations = refl;
  workers = seen_same of_worker (rows_of.is_worker worker) (λ row. record row { handler = Some (rules.new_handler phase.Activate) }) (λ row. refl) state.workers;
  clients = seen_same (λ (row : ClientRow). row.number) (rows_of.uses state.workers registration) (rules.controlled_by worker) (λ row. refl) state.clients;
}

pub activate_alike : (state : State) (registration worker : ℕ) → Alike state (rules.activate state registration worker).state
unfolding rules.activate followed keep
activate_alike state registration worker =
    let retired = (rules.retire state slot.Active registration).state in
    let activating = (rules.become retired worker worker_state.Activating).state in
    alike_then state retired _ (retire_alike state slot.Active registration) (alike_then retired activating _ (become_alike retired worker worker_state.Activating) (begun_alike activating registration worker))

pub try_activate_alike : (state : State) (registration : ℕ) → Alike state (rules.try_activate state registration).state
unfolding rules.try_activate
try_activate_alike state registration = by (rules.chosen state registration)
  where
    by : (o : Option ℕ) → Alike state (let told : Told = elim o [ None ↦ quiet state | Some worker ↦ rules.activate state registration worker ] in told.state)
    by None = same state
    by (Some worker) = activate_alike state registration worker

pub left_alike : (state : State) (client : ℕ) → Alike state (rules.left_by client state)
left_alike state client = record {
  registrations = refl;
  workers = refl;
  clients = seen_same (λ (row : ClientRow). row.number) (rows_of.is_client client) (λ row. record row { controller = None }) (λ row. refl) state.clients;
}

-- ---- the same of the tables

-- nothing else stands in any table
abbrev pub empty_rest : Rest
empty_rest = record {
  jobs = [];
  preload = λ number. false;
  preload_value = λ number. [];
  promises = [];
  tasks = [];
  caches = [];
  draws = [];
}

pub kept : (scopes : Scopes) (old_workers new_workers : workers.Table) (old_registrations new_registrations : registrations.Table) (old_clients new_clients : clients.Table)
    → {state : State} → Alike (lent scopes old_workers old_registrations old_clients empty_rest) state
    → lent scopes new_workers new_registrations new_clients empty_rest ≡ state
    → KeepNames old_workers old_registrations old_clients new_workers new_registrations new_clients
kept scopes old_workers new_workers old_registrations new_registrations old_clients new_clients alike is = record {
  registrations =
      sym (map_map (λ (row : Registration). row.number) (shown_registration scopes empty_rest) new_registrations.rows)
      ∙ (ap (λ (s : State). map (λ row. row.number) s.registrations) is ∙ (alike.registrations ∙ map_map (λ (row : Registration). row.number) (shown_registration scopes empty_rest) old_registrations.rows));
  workers =
      sym (map_map of_worker shown_worker new_workers.rows)
      ∙ (ap (λ (s : State). map of_worker s.workers) is ∙ (alike.workers ∙ map_map of_worker shown_worker old_workers.rows));
  clients = ap (λ (s : State). map (λ row. row.number) s.clients) is ∙ alike.clients;
}

pub keeps_all : (of_workers : workers.Table) (of_registrations : registrations.Table) (of_clients : clients.Table)
    → KeepNames of_workers of_registrations of_clients of_workers of_registrations of_clients
keeps_all of_workers of_registrations of_clients = record { registrations = refl; workers = refl; clients = refl }

module _ (w0 w1 w2 : workers.Table) (r0 r1 r2 : registrations.Table) (c0 c1 c2 : clients.Table) where
  pub then_keeps : KeepNames w0 r0 c0 w1 r1 c1 → KeepNames w1 r1 c1 w2 r2 c2 → KeepNames w0 r0 c0 w2 r2 c2
  then_keeps one two = record {
    registrations = two.registrations ∙ one.registrations;
    workers = two.workers ∙ one.workers;
    clients = two.clients ∙ one.clients;
  }

-- ---- what is found by its name

abbrev pub owner_in : ℕ → List (ℕ × ℕ) → Option ℕ
owner_in number pairs = option_map (λ pair. pair.1) (find (λ pair. pair.0 == number) pairs)

owned : (number : ℕ) (rows : List WorkerRow) → registration_of rows number ≡ owner_in number (map numbers rows)
owned number rows =
    by (worker_at number rows)
    ∙ ap (option_map (λ (pair : ℕ × ℕ). pair.1))
    (sym (find_map (λ (pair : ℕ × ℕ). pair.0 == number) numbers rows))
  where
    by : (o : Option WorkerRow) → option_map (λ row. row.registration) o ≡ option_map (λ (pair : ℕ × ℕ). pair.1) (option_map numbers o)
    by None = refl
    by (Some row) = refl

pub still_owned : (number : ℕ) (old new : List WorkerRow) → map numbers new ≡ map numbers old
    → registration_of new number ≡ registration_of old number
still_owned number old new are = owned number new ∙ (ap (owner_in number) are ∙ sym (owned number old))

-- ---- registrations that are there

-- a worker's registration is there
pub owner_there : (of_workers : workers.Table) (of : registrations.Table) → HasSlots of_workers of → (worker registration : ℕ)
    → registration_of of_workers.rows worker ≡ Some registration → registrations.is_there registration of.rows ≡ true
owner_there of_workers of has worker registration is = by (worker_at worker of_workers.rows) refl is
  where
    by : (o : Option WorkerRow) → worker_at worker of_workers.rows ≡ o → option_map (λ row. row.registration) o ≡ Some registration
        → registrations.is_there registration of.rows ≡ true
    by None here owned = absurd cc
    by (Some row) here owned =
        let own : row.registration ≡ registration = cc (owned) in
        ap (λ n. registrations.is_there n of.rows) (sym own) ∙ (has.rows worker row here).owner

-- a worker's registration is that of the state
pub registration_shown : (scopes : Scopes) (of_workers : workers.Table) (of : registrations.Table) (of_clients : clients.Table) (rest : Rest) (worker : ℕ)
    → rows_of.registration_of (lent scopes of_workers of of_clients rest) worker ≡ registration_of of_workers.rows worker
registration_shown scopes of_workers of of_clients rest worker =
    ap (option_map (λ (row : Worker). row.registration)) (find_map (rows_of.is_worker worker) shown_worker of_workers.rows)
    ∙ seen (worker_at worker of_workers.rows)
  where
    seen : (o : Option WorkerRow) → option_map (λ (row : Worker). row.registration) (option_map shown_worker o) ≡ option_map (λ row. row.registration) o
    seen None = refl
    seen (Some row) = refl

-- what holds of a worker's row
pub of_row : (scopes : Scopes) (of_workers : workers.Table) (of : registrations.Table) (of_clients : clients.Table) (rest : Rest) (worker : ℕ) (row : WorkerRow)
    → worker_at worker of_workers.rows ≡ Some row → (holds : Worker → Type 0) → holds (shown_worker row)
    → IfSome (rows_of.worker_row (lent scopes of_workers of of_clients rest) worker) holds
of_row scopes of_workers of of_clients rest worker row here holds is =
    subst (λ o. IfSome o holds)
    (sym (find_map (rows_of.is_worker worker) shown_worker of_workers.rows ∙ ap (option_map shown_worker) here)) is

-- the registration that a client uses is there
pub used_there : (scopes : Scopes) (of_workers : workers.Table) (of : registrations.Table) (of_clients : clients.Table) (rest : Rest) → HasSlots of_workers of → (client registration : ℕ)
    → rules.used_registration (lent scopes of_workers of of_clients rest) client ≡ Some registration → registrations.is_there registration of.rows ≡ true
used_there scopes of_workers of of_clients rest has client registration is =
    by (option_and_then (λ (row : ClientRow). row.controller) (rows_of.client_row (lent scopes of_workers of of_clients rest) client)) is
  where
    by : (o : Option ℕ) → option_and_then (rows_of.registration_of (lent scopes of_workers of of_clients rest)) o ≡ Some registration
        → registrations.is_there registration of.rows ≡ true
    by None owned = absurd cc
    by (Some worker) owned = owner_there of_workers of has worker registration (sym (registration_shown scopes of_workers of of_clients rest worker) ∙ owned)
