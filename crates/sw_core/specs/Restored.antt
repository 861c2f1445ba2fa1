-- The tables of a host in the midst of a restart.
use Rattle.std.specs.Prelude.{◌≡◌, ◌<◌, ℕ, ◌==◌, List, [], ◌∷◌, ◌++◌, map, length, if◌then◌else◌}
use Rattle.std.specs.List.{enumerate_from}
use Rattle.sw_data.specs.declared.storage.KeptCache.{KeptCache}
use Rattle.sw_data.specs.declared.storage.KeptRegistration.{KeptRegistration}
use Rattle.sw_data.specs.declared.storage.KeptWorker.{KeptWorker}
use Rattle.sw_ledgers.specs.Preloaded as preloads
use Rattle.sw_ledgers.specs.Preloaded.{preload_of, preload_value_of}
use Rattle.sw_reg.specs.Table.{firsts}
use Rattle.sw_core.specs.Rows.{is_activated, registration_row, worker_row}
use Rattle.sw_core.specs.declared.tables.Restored.{Restored}
use Rattle.sw_rules.specs.Restart.{restored_registration, restored_workers}
use Rattle.sw_scope.specs.Scopes.{maps, with_row}
use Rattle.sw_tables.specs.Happened.{CountsTasks}
use Rattle.sw_tables.specs.Lent.{Rest, shown_registration, shown_worker}
use Rattle.sw_tables.specs.Linked.{Linked}

-- own: no jobs, promises, addAlls and draws, beside these preloads and caches
abbrev pub quiet_rest : preloads.Table → List KeptCache → Rest
quiet_rest of_preloads caches = record {
  jobs = [];
  preload = preload_of of_preloads.rows;
  preload_value = preload_value_of of_preloads.rows;
  promises = [];
  tasks = [];
  caches = caches;
  draws = [];
}

-- own: a kept registration with this worker is added to the tables
pub record Restores (row : KeptRegistration) (worker : KeptWorker) (old new : Restored) : Type 0 where
  pub scopes : (key scope : List ℕ) → maps new.map key scope
      ≡ with_row old.map (record { key = row.key; scope = row.scope; number = length old.registrations.rows }) key scope
  pub workers : new.workers ≡ record old.workers {
    rows = old.workers.rows
        ++ worker_row (length old.workers.rows) (length old.registrations.rows) worker (is_activated row) ∷ [];
    spare_rows = new.workers.spare_rows;
  }
  pub registrations : new.registrations.rows ≡ old.registrations.rows
      ++ registration_row (firsts old.registrations.rows) (length old.workers.rows) (length old.registrations.rows) row ∷ []
  pub clients : new.clients.rows ≡ old.clients.rows
  pub known : length old.registrations.rows < new.clients.known
  pub preload : (n : ℕ) → preload_of new.preloads.rows n
      ≡ (if n == length old.registrations.rows then row.preload else preload_of old.preloads.rows n)
  pub preload_value : (n : ℕ) → preload_value_of new.preloads.rows n
      ≡ (if n == length old.registrations.rows then row.preload_value else preload_value_of old.preloads.rows n)

-- own: the tables are those of a restart from these registrations
pub record IsRestored (rows : List KeptRegistration) (tables : Restored) : Type 0 where
  pub linked : Linked tables.map tables.workers tables.registrations tables.clients
  pub registrations : map (shown_registration tables.map (quiet_rest tables.preloads tables.caches.rows)) tables.registrations.rows
      ≡ map restored_registration (enumerate_from 0 rows)
  pub workers : map shown_worker tables.workers.rows ≡ restored_workers 0 (enumerate_from 0 rows)
  pub count : firsts tables.registrations.rows ≡ length rows
  pub events : tables.workers.events ≡ []
  pub clients : tables.clients.rows ≡ []
  pub counts : CountsTasks tables.workers []
