-- Forgetting a key: its registrations leave the map and are cleared, and its caches are removed (own).
use Rattle.std.specs.Prelude.{ℕ, Bool, false, not, ◌&&◌, ◌||◌, List, [], ◌∷◌, filter, bytes_eq, is_none, is_some, if◌then◌else◌}
use Rattle.std.specs.List.{list_any}
use Rattle.std.specs.Option.{option_map_or}
use Rattle.sw_data.specs.declared.answers.Answer.TheVariants as answer
use Rattle.sw_data.specs.declared.storage.Change.TheVariants as change
use Rattle.sw_rules.specs.Registrations.{clear, unmap}
use Rattle.sw_rules.specs.Rows.{is_unfinished, key_of_worker}
use Rattle.sw_rules.specs.State.{State, Registration}
use Rattle.sw_rules.specs.Told.{Told, Outcome, answered, followed, quiet}

-- a worker's registration has this key
abbrev pub is_worker_of_key : State → List ℕ → ℕ → Bool
is_worker_of_key state key worker = option_map_or (bytes_eq key) (key_of_worker state worker) false

-- a key has an open client, an unfinished job, a running handler, a pending fetch event or an unsettled addAll
abbrev pub is_busy : State → List ℕ → Bool
is_busy state key =
    list_any (λ row. bytes_eq row.key key) state.clients
    || list_any (λ row. is_unfinished row && bytes_eq row.job.key key) state.jobs
    || list_any (λ row. is_some row.handler && is_worker_of_key state key row.number) state.workers
    || list_any (λ row. is_worker_of_key state key row.worker) state.fetch_events
    || list_any (λ row. is_none row.settled && bytes_eq row.key key) state.tasks

-- a mapped registration of a key
abbrev pub is_mapped_of : List ℕ → Registration → Bool
is_mapped_of key row = row.mapped && bytes_eq row.key key

-- these registrations leave the map and are cleared, one after another
unfoldable pub forget_registrations : State → List Registration → Told
forget_registrations state [] = quiet state
forget_registrations state (row ∷ rest) =
    followed (unmap state row.number) (λ unmapped.
    followed (clear unmapped row.number) (λ cleared. forget_registrations cleared rest))

-- each mapped registration of a key is forgotten, and the caches of the key are removed; that is kept as one change
unfoldable pub forget_key : State → List ℕ → Told
forget_key state key =
    let told = forget_registrations state (filter (is_mapped_of key) state.registrations) in
    record told {
      state = record told.state { caches = filter (λ row. not (bytes_eq row.key key)) told.state.caches };
      changes = change.Forgot key ∷ [];
    }

abbrev pub forget : State → List ℕ → Outcome
forget state key =
    if is_busy state key then answered state answer.Busy
    else record { answer = answer.Ok; told = forget_key state key }
