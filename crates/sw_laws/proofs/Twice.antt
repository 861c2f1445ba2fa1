-- Restarting twice is restarting once.
use Rattle.std.proofs.Common.{◌≡◌, ◌∙◌, ℕ, ◌+◌, List, [], ◌∷◌, map, refl, ap, arith}
use Rattle.std.specs.List.{enumerate_from}
use Rattle.sw_data.specs.declared.storage.Change.TheVariants as change
use Rattle.sw_data.specs.declared.storage.Kept.{Kept}
use Rattle.sw_data.specs.declared.storage.KeptRegistration.{KeptRegistration}
use Rattle.sw_rules.specs.Restart.{restart, restored_registration, restored_workers, worker_after_restart}
use Rattle.sw_rules.specs.State.{State, Registration, Worker, initial}
use Rattle.sw_rules.specs.Storage.{applied, promoted}
use Rattle.sw_laws.specs.Laws.{RestartsOnce}
use Rattle.sw_laws.proofs.Reopened.{restart_keeps}

promoted_twice : (row : KeptRegistration) → promoted (promoted row) ≡ promoted row
promoted_twice row = grind arith

all_promoted : (rows : List KeptRegistration) → map promoted (map promoted rows) ≡ map promoted rows
all_promoted [] = refl
all_promoted (row ∷ rows) = cc (promoted_twice row, all_promoted rows)

registration_same : (at : ℕ) (row : KeptRegistration) → restored_registration (at, promoted row) ≡ restored_registration (at, row)
registration_same at row = grind arith

registrations_same : (rows : List KeptRegistration) (from : ℕ) → map restored_registration (enumerate_from from (map promoted rows)) ≡ map restored_registration (enumerate_from from rows)
registrations_same [] from = refl
registrations_same (row ∷ rows) from = cc (registration_same from row, registrations_same rows (from + 1))

worker_same : (number at : ℕ) (row : KeptRegistration) → worker_after_restart number at (promoted row) ≡ worker_after_restart number at row
worker_same number at row = grind arith

workers_same : (rows : List KeptRegistration) (number from : ℕ) → restored_workers number (enumerate_from from (map promoted rows)) ≡ restored_workers number (enumerate_from from rows)
workers_same [] number from = refl
workers_same (row ∷ rows) number from = grind (arith, worker_same number from row, workers_same rows number (from + 1), workers_same rows (number + 1) (from + 1))

-- the state of a restart, from its rows
abbrev state_of : Kept → List Registration → List Worker → State
state_of kept registrations workers = record initial { registrations = registrations; workers = workers; caches = kept.caches }

same_state : (kept : Kept) → restart (applied kept change.Restarted) ≡ restart kept
same_state kept =
    ap (λ (rows : List Registration). state_of kept rows (restored_workers 0 (enumerate_from 0 (map promoted kept.registrations)))) (registrations_same kept.registrations 0)
    ∙ ap (λ (rows : List Worker). state_of kept (map restored_registration (enumerate_from 0 kept.registrations)) rows) (workers_same kept.registrations 0 0)

pub restarts_once : RestartsOnce
restarts_once = record {
  content = λ kept. ap (λ (rows : List KeptRegistration). record kept { registrations = rows }) (all_promoted kept.registrations);
  state = λ kept. same_state kept;
  durable = λ base made. restart_keeps base made;
}
