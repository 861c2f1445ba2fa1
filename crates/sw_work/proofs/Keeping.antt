-- What a call of a handler does leaves its own handler alone.
use Rattle.std.proofs.Common.{◌≡◌, ◌∙◌, ℕ, true, false, ◌&&◌, ◌==◌, List, map, Option, Some, None, option_map, is_some, refl, ap, arith, if◌then◌else◌}
use Rattle.std.specs.List.{list_all}
use Rattle.std.specs.Option.{option_map_or}
use Rattle.std.specs.Prelude.{find}
use Rattle.sw_data.specs.declared.recordings.Handlers.{Handlers}
use Rattle.sw_rules.specs.Clients.{claim_clients, flagged, skip_waiting, take_control}
use Rattle.sw_rules.specs.Registrations.{activate, clear, left_by}
use Rattle.sw_rules.specs.Rows.{has_worker, is_active, is_worker, worker_row}
use Rattle.sw_rules.specs.State.{State, Worker, Handler}
use Rattle.sw_rules.specs.Told.{Told, followed}
use Rattle.sw_laws.specs.Coherent.{Coherent, has_its_handler}
use Rattle.sw_laws.proofs.ActivateSteps.{is_chosen}
use Rattle.sw_laws.proofs.AtOnce.{activated_at_once, are_apart, clear_state, cleared_at_once, promote}
use Rattle.sw_laws.proofs.ClaimSteps.{Beside, claims-law, rechecks_coherently}
use Rattle.sw_laws.proofs.Lists.{find_changed}
use Rattle.sw_laws.proofs.Places.{all_at_found}
use Rattle.sw_laws.proofs.Split.{IsRecheckLaw, law_of, try_activate-law}
use Rattle.sw_laws.proofs.WorkerSteps.{flagged-coherent}
use Rattle.sw_work.specs.Keeping.{KeepsHandler, handling}

-- ---- a change of workers

-- own: a change of a worker leaves a handler that runs, and the calls of its handlers
record KeepsCalls (f : Worker → Worker) : Type 0 where
  pub number : (row : Worker) → (f row).number ≡ row.number
  pub handler : (row : Worker) → has_its_handler row ≡ true → is_some row.handler ≡ true → (f row).handler ≡ row.handler
  pub handlers : (row : Worker) → (f row).handlers ≡ row.handlers

found_kept : (f : Worker → Worker) → KeepsCalls f → (rows : List Worker) (worker : ℕ) (row : Worker) → list_all has_its_handler rows ≡ true → find (is_worker worker) rows ≡ Some row → is_some row.handler ≡ true
    → option_map handling (find (is_worker worker) (map f rows)) ≡ Some (handling row)
found_kept f keeps rows worker row has is runs =
    let moved = find_changed (is_worker worker) (is_worker worker) f (λ x. grind (arith, keeps.number x)) rows in
    let handler = keeps.handler row (all_at_found (is_worker worker) has_its_handler rows row is has) runs in
    cc (moved, is, handler, keeps.handlers row)

-- ---- what a step keeps of a handler

unmoved : (worker : ℕ) (old new : State) → new.workers ≡ old.workers → KeepsHandler worker old new
unmoved worker old new is = record { stays = λ row found runs. cc (is, found) }

moved : (worker : ℕ) (f : Worker → Worker) → KeepsCalls f → (old new : State) → new.workers ≡ map f old.workers → Coherent old → KeepsHandler worker old new
moved worker f keeps old new is sound = record {
  stays = λ row found runs. let now = found_kept f keeps old.workers worker row sound.workers.handlers found runs in cc (is, now);
}

onwards : (worker : ℕ) (one two three : State) → KeepsHandler worker one two → KeepsHandler worker two three → KeepsHandler worker one three
onwards worker one two three first second = record { stays = λ row found runs. by row (worker_row two worker) refl runs (first.stays row found runs) }
  where
    by : (row : Worker) (o : Option Worker) → worker_row two worker ≡ o → is_some row.handler ≡ true → option_map handling o ≡ Some (handling row)
        → option_map handling (worker_row three worker) ≡ Some (handling row)
    by row None there runs got = absurd cc
    by row (Some mid) there runs got =
        let running : is_some mid.handler ≡ is_some row.handler = ap (λ (o : Option (Option Handler × Handlers)). option_map_or (λ h. is_some h.0) o false) got in
        second.stays mid there (running ∙ runs) ∙ got

promote_keeps : (registration : ℕ) → KeepsCalls (λ row. if row.registration == registration then promote row else row)
promote_keeps registration = record {
  number = λ row. grind arith;
  handler = λ row is runs. grind (arith, is, runs);
  handlers = λ row. grind arith;
}

clear_keeps : (registration : ℕ) → KeepsCalls (λ row. if row.registration == registration then record row { state = clear_state row.state } else row)
clear_keeps registration = record {
  number = λ row. grind arith;
  handler = λ row is runs. grind arith;
  handlers = λ row. grind arith;
}

flag_keeps : (worker : ℕ) → KeepsCalls (λ row. if is_worker worker row then record row { skip_waiting = true } else row)
flag_keeps worker = record {
  number = λ row. grind arith;
  handler = λ row is runs. grind arith;
  handlers = λ row. grind arith;
}

-- own: the handler of a worker stays
abbrev Keeps : ℕ → State → Told → Type 0
Keeps worker state told = KeepsHandler worker state told.state

-- where a registration is rechecked
rechecks_keep : (worker : ℕ) → IsRecheckLaw (Beside (Keeps worker))
unfolding followed
rechecks_keep worker = record {
  nothing = λ state sound. (sound, unmoved worker state state refl);
  further = λ state told next one other sound.
      let first = one sound in
      let second = other first.0 in
      (second.0, onwards worker state told.state (next told.state).state first.1 second.1);
  activating = λ state registration chosen is sound.
      let picked = is_chosen state registration chosen is sound in (
        rechecks_coherently.activating state registration chosen is sound,
        moved worker _ (promote_keeps registration) state (activate state registration chosen).state
            (ap (λ (s : State). s.workers) (activated_at_once state registration chosen picked.waiting (are_apart state.registrations state.workers sound.workers) picked.found picked.number)) sound,
      );
  clearing = λ state registration gone unused calm sound. (
    rechecks_coherently.clearing state registration gone unused calm sound,
    moved worker _ (clear_keeps registration) state (clear state registration).state
        (ap (λ (s : State). s.workers) (cleared_at_once state registration (are_apart state.registrations state.workers sound.workers))) sound,
  );
}

control_keeps : (worker : ℕ) (state : State) (controller client : ℕ) → Keeps worker state (take_control state controller client)
unfolding take_control
control_keeps worker state controller client = unmoved worker state (take_control state controller client).state refl

-- ---- the calls

-- claiming leaves each handler that runs alone
pub claim_keeps : (state : State) (worker registration : ℕ) (clients : List ℕ) (other : ℕ) → has_worker (λ row. row.registration == registration && is_active row.state) state.workers worker ≡ true → Coherent state
    → KeepsHandler other state (claim_clients state worker registration clients).state
claim_keeps state worker registration clients other active sound =
    claims-law (Keeps other) (rechecks_keep other) (λ before client. unmoved other before (left_by client before) refl) (control_keeps other) clients state worker registration active sound

-- skipping the waiting leaves each handler that runs alone
pub skip_waiting_keeps : (state : State) (registration worker other : ℕ) → Coherent state → KeepsHandler other state (skip_waiting state registration worker).state
unfolding skip_waiting followed
skip_waiting_keeps state registration worker other sound =
    onwards other state (flagged worker state) _ (moved other _ (flag_keeps worker) state (flagged worker state) refl sound)
    (try_activate-law (Beside (Keeps other)) registration (law_of registration (rechecks_keep other)) (flagged worker state) (flagged-coherent state worker sound)).1
