-- Values of promises that stay, and workers whose states move.
use Rattle.std.proofs.Common.{◌≡◌, ◌∙◌, ◌⊎◌, inl, inr, ⊎_elim, ℕ, Bool, true, ◌==◌, List, [], ◌∷◌, ◌++◌, map, Option, Some, None, option_map, refl, sym, ap, subst}
use Rattle.std.specs.List.{list_all}
use Rattle.std.specs.Prelude.{find, option_and_then}
use Rattle.std.specs.Option.{option_or}
use Rattle.std.proofs.lemmas.List.Folds.{find-append}
use Rattle.sw_data.specs.declared.answers.Settlement.{Settlement}
use Rattle.sw_data.specs.declared.rows.JobRow.{JobRow}
use Rattle.sw_data.specs.declared.workers.WorkerState.{WorkerState}
use Rattle.sw_data.specs.declared.workers.WorkerState.TheVariants as worker_state
use Rattle.sw_rules.specs.Rows.{is_worker}
use Rattle.sw_rules.specs.State.{Worker, AddAll}
use Rattle.sw_laws.specs.Laws.{GoesOnTo, next_state}
use Rattle.sw_laws.proofs.Lists.{find_changed}
use Rattle.sw_laws.proofs.Moves.{Keeps}
use Rattle.sw_laws.proofs.Places.{all_at_found}

module _ {X : Type 0} (number : X → ℕ) (settled : X → Option Settlement) where
  -- the value of the promise of the row of a number
  abbrev value_in : List X → ℕ → Option Settlement
  value_in rows n = option_and_then settled (find (λ row. number row == n) rows)

  -- promises keep their values
  abbrev pub KeepValues : List X → List X → Type 0
  KeepValues old new = (n : ℕ) (result : Settlement) → value_in old n ≡ Some result → value_in new n ≡ Some result

  value_plain : (g : X → X) (found : Option X) (result : Settlement) → ((x : X) → found ≡ Some x → settled x ≡ Some result → settled (g x) ≡ Some result) → option_and_then settled found ≡ Some result → option_and_then settled (option_map g found) ≡ Some result
  value_plain g None result keeps is = absurd cc
  value_plain g (Some row) result keeps is = keeps row refl is

  value_there : (found other : Option X) (result : Settlement) → option_and_then settled found ≡ Some result → option_and_then settled (option_or found other) ≡ Some result
  value_there None other result is = absurd cc
  value_there (Some row) other result is = is

  -- a change keeps them that keeps the values of the rows that are found by a number
  pub values_changed : (g : X → X) → ((x : X) → number (g x) ≡ number x) → (rows : List X) → ((n : ℕ) (x : X) (result : Settlement) → find (λ row. number row == n) rows ≡ Some x → settled x ≡ Some result → settled (g x) ≡ Some result) → KeepValues rows (map g rows)
  values_changed g same rows keeps n result is =
      rw (find_changed (λ row. number row == n) (λ row. number row == n) g (λ x. ap (λ m. m == n) (same x)) rows) (value_plain g (find (λ row. number row == n) rows) result (λ x. keeps n x result) is)

  pub values_pushed : (rows : List X) (new : X) → KeepValues rows (rows ++ new ∷ [])
  values_pushed rows new n result is =
      rw (find-append (λ row. number row == n) rows (new ∷ [])) (value_there (find (λ row. number row == n) rows) (find (λ row. number row == n) (new ∷ [])) result is)

-- jobs keep their values
abbrev pub KeepJobs : List JobRow → List JobRow → Type 0
KeepJobs = KeepValues (λ row. row.job.number) (λ row. row.settled)

-- addAlls keep theirs
abbrev pub KeepTasks : List AddAll → List AddAll → Type 0
KeepTasks = KeepValues (λ row. row.number) (λ row. row.settled)

-- ---- workers move

-- a worker is still there, of the same registration, and its state has moved in this way
pub record HasMoved (Moves : WorkerState → WorkerState → Type 0) (before : Worker) (workers : List Worker) (number : ℕ) : Type 0 where
  pub now : Worker
  pub found : find (is_worker number) workers ≡ Some now
  pub registration : now.registration ≡ before.registration
  pub state : Moves before.state now.state

-- each worker has moved in this way
abbrev pub Move : (WorkerState → WorkerState → Type 0) → List Worker → List Worker → Type 0
Move Moves old new = (number : ℕ) (row : Worker) → find (is_worker number) old ≡ Some row → HasMoved Moves row new number

module _ (Moves : WorkerState → WorkerState → Type 0) (stays : (state : WorkerState) → Moves state state) where
  pub workers_stand : (workers : List Worker) → Move Moves workers workers
  workers_stand workers number row is = record { now = row; found = is; registration = refl; state = stays row.state }

  pub workers_pushed : (workers : List Worker) (new : Worker) → Move Moves workers (workers ++ new ∷ [])
  workers_pushed workers new number row is = record {
    now = row;
    found = find-append (is_worker number) workers (new ∷ []) ∙ ap (λ (o : Option Worker). option_or o (find (is_worker number) (new ∷ []))) is;
    registration = refl;
    state = stays row.state;
  }

pub workers_changed : (Moves : WorkerState → WorkerState → Type 0) (f : Worker → Worker) → Keeps f → (known : Worker → Bool) (workers : List Worker) → list_all known workers ≡ true → ((x : Worker) → known x ≡ true → Moves x.state (f x).state) → Move Moves workers (map f workers)
workers_changed Moves f keeps known workers knows moves number row is = record {
  now = f row;
  found = find_changed (is_worker number) (is_worker number) f (λ x. ap (λ n. n == number) (keeps.number x)) workers ∙ ap (option_map f) is;
  registration = keeps.registration row;
  state = moves row (all_at_found (is_worker number) known workers row is knows);
}

-- one move, and then another
pub moved_both : (First Second Both : WorkerState → WorkerState → Type 0) → ((a b c : WorkerState) → First a b → Second b c → Both a c) → (one two three : List Worker) → Move First one two → Move Second two three → Move Both one three
moved_both First Second Both joins one two three first second number row is =
    let a = first number row is in
    let b = second number a.now a.found in
    record { now = b.now; found = b.found; registration = b.registration ∙ a.registration; state = joins row.state a.now.state b.now.state a.state b.state }

-- ---- the ways in which a worker's state moves

-- a recheck leaves it, makes it redundant, or makes a waiting worker the active one
abbrev pub Rechecked : WorkerState → WorkerState → Type 0
Rechecked old new = (new ≡ old) ⊎ ((new ≡ worker_state.Redundant) ⊎ ((old ≡ worker_state.Installed) × (new ≡ worker_state.Activating)))

-- the end of an activate handler leaves it, or makes an activating worker activated
abbrev pub EndsActivating : WorkerState → WorkerState → Type 0
EndsActivating old new = (new ≡ old) ⊎ ((old ≡ worker_state.Activating) × (new ≡ worker_state.Activated))

pub rechecked_both : (a b c : WorkerState) → Rechecked a b → Rechecked b c → Rechecked a c
rechecked_both a b c first second =
    ⊎_elim (λ same. subst (λ s. Rechecked s c) same second)
    (⊎_elim (λ gone. inr (inl (⊎_elim (λ same. same ∙ gone) (⊎_elim (λ is. is) (λ active. absurd cc)) second)))
    (λ active. ⊎_elim (λ same. inr (inr (active.0, same ∙ active.1))) (⊎_elim (λ gone. inr (inl gone)) (λ other. absurd cc)) second)) first

pub rechecked_goes : (a b : WorkerState) → Rechecked a b → GoesOnTo a b
rechecked_goes a b = ⊎_elim (λ same. inl same) (⊎_elim (λ gone. inr (inr gone)) (λ active. inr (inl (active.1 ∙ sym (ap next_state active.0)))))

pub ended_goes : (a b c : WorkerState) → EndsActivating a b → Rechecked b c → GoesOnTo a c
ended_goes a b c first second =
    ⊎_elim (λ same. rechecked_goes a c (subst (λ s. Rechecked s c) same second))
    (λ ends. ⊎_elim (λ same. inr (inl (same ∙ ends.1 ∙ sym (ap next_state ends.0)))) (⊎_elim (λ gone. inr (inr gone)) (λ active. absurd cc)) second) first
