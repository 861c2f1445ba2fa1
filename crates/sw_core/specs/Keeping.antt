-- What is kept of the rows of the tables.
use Rattle.std.specs.Prelude.{ℕ, Bool, false, ◌&&◌, ◌||◌, List, find, is_some, Option, option_map, option_and_then}
use Rattle.std.specs.Option.{option_map_or}
use Rattle.sw_data.specs.declared.rows.RegistrationRow.{RegistrationRow}
use Rattle.sw_data.specs.declared.rows.WorkerRow.{WorkerRow}
use Rattle.sw_data.specs.declared.storage.KeptRegistration.{KeptRegistration}
use Rattle.sw_data.specs.declared.storage.KeptWorker.{KeptWorker}
use Rattle.sw_ledgers.specs.Preloaded.{PreloadRow, preload_of, preload_value_of}
use Rattle.sw_reg.specs.Table.{registration_at}
use Rattle.sw_rules.specs.Installing.{kept_worker}
use Rattle.sw_rules.specs.Rows.{is_number}
use Rattle.sw_scope.specs.Scopes.{Scopes, maps}
use Rattle.sw_tables.specs.Lent.{shown_worker}
use Rattle.sw_worker.specs.Table.{is_activated, worker_at}

-- own: a registration that is kept: it is mapped, and has a waiting or an active worker
abbrev pub is_kept : Scopes → RegistrationRow → Bool
is_kept scopes row =
    is_number (maps scopes row.key row.scope) row.number && (is_some row.waiting || is_some row.active)

-- own: it was the one of this place to get a waiting worker
abbrev pub is_kept_at : Scopes → ℕ → RegistrationRow → Bool
is_kept_at scopes place row = is_kept scopes row && is_number row.first place

-- own: the number of the kept registration that was the one of this place to get a waiting worker
abbrev pub number_at : Scopes → List RegistrationRow → ℕ → Option ℕ
number_at scopes rows place = option_map (λ row. row.number) (find (is_kept_at scopes place) rows)

-- own: the worker of a number, where there is one
abbrev pub numbered : List WorkerRow → Option ℕ → Option WorkerRow
numbered rows number = option_and_then (λ n. worker_at n rows) number

-- own: what is kept of it
abbrev pub kept_of : Option WorkerRow → Option KeptWorker
kept_of worker = option_map (λ row. kept_worker (shown_worker row)) worker

-- own: what is kept of a registration
abbrev pub kept_registration : List WorkerRow → List PreloadRow → RegistrationRow → KeptRegistration
kept_registration of_workers of_preloads row = record {
  key = row.key;
  scope = row.scope;
  mode = row.mode;
  waiting = kept_of (numbered of_workers row.waiting);
  active = kept_of (numbered of_workers row.active);
  activated = option_map_or is_activated (numbered of_workers row.active) false;
  preload = preload_of of_preloads row.number;
  preload_value = preload_value_of of_preloads row.number;
}

-- own: what is kept of the registration of a number, where there is one
abbrev pub kept_numbered : List WorkerRow → List PreloadRow → List RegistrationRow → Option ℕ → Option KeptRegistration
kept_numbered of_workers of_preloads rows number =
    option_map (kept_registration of_workers of_preloads) (option_and_then (λ n. registration_at n rows) number)
