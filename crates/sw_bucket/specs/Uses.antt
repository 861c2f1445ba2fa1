-- Which key an entry uses, and the last use of a key (own).
use Rattle.std.specs.Prelude.{ℕ, ◌+◌, Bool, true, false, List, [], ◌∷◌, bytes_eq, Option, Some, None, option_map, option_and_then, Ok, Err, if◌then◌else◌}
use Rattle.std.specs.Option.{option_map_or, option_or}
use Rattle.sw_data.specs.declared.events.Event.{Event}
use Rattle.sw_data.specs.declared.events.Event.TheVariants as event
use Rattle.sw_data.specs.declared.events.Who.{Who}
use Rattle.sw_data.specs.declared.events.Who.TheVariants as who
use Rattle.sw_data.specs.declared.histories.Entry.{Entry}
use Rattle.sw_data.specs.declared.recordings.Place.{Place}
use Rattle.sw_data.specs.declared.storage.Kept.{Kept}
use Rattle.sw_data.specs.Events.{named_client, named_page}
use Rattle.sw_rules.specs.Caching.{place_key}
use Rattle.sw_rules.specs.History.{moved}
use Rattle.sw_rules.specs.Restart.{restart}
use Rattle.sw_rules.specs.Rows.{client_row, job_row, key_of_worker, registration_row, task_row}
use Rattle.sw_rules.specs.State.{State}
use Rattle.sw_rules.specs.Step.{state_after}

-- ---- keys

abbrev pub client_key : State → ℕ → Option (List ℕ)
client_key state number = option_map (λ row. row.key) (client_row state number)

-- the key of a page, where it has one
abbrev pub page_key : Place → Option (List ℕ)
page_key place = elim (place_key place) [ Ok key ↦ Some key | Err why ↦ None ]

abbrev pub job_key : State → ℕ → Option (List ℕ)
job_key state number = option_map (λ row. row.job.key) (job_row state number)

abbrev pub registration_key : State → ℕ → Option (List ℕ)
registration_key state number = option_map (λ row. row.key) (registration_row state number)

abbrev pub task_key : State → ℕ → Option (List ℕ)
task_key state number = option_map (λ row. row.key) (task_row state number)

-- the key of the worker whose handler makes a call
abbrev pub caller_key : State → Who → Option (List ℕ)
caller_key state (who.Handler worker phase number) = key_of_worker state worker
caller_key state _ = None

-- the key of the worker whose handler makes a call, or of the job, registration, worker or addAll that an event of the
-- host names
unfoldable pub work_key : State → Event → Option (List ℕ)
work_key state (event.Call maker asked) = caller_key state maker
work_key state (event.Run maker job) = job_key state job
work_key state (event.Fetched maker job line) = job_key state job
work_key state (event.Evaluated maker job) = job_key state job
work_key state (event.Installed maker job) = job_key state job
work_key state (event.TryActivate maker registration) = registration_key state registration
work_key state (event.Activated maker worker) = key_of_worker state worker
work_key state (event.Added maker task lines) = task_key state task
work_key state _ = None

-- the key of what an event names, clients having these keys
abbrev pub named_key : (ℕ → Option (List ℕ)) → State → Event → Option (List ℕ)
named_key key_of_client state happened =
    option_or (option_and_then key_of_client (named_client happened))
    (option_or (option_and_then page_key (named_page happened)) (work_key state happened))

-- ---- uses

abbrev pub is_close : Event → Bool
is_close (event.Close maker client) = true
is_close _ = false

-- the key that an event uses: that of what it names. A client that closes has the key of its row before the event, and
-- any other that of its row after it
abbrev pub used_key : State → Event → Option (List ℕ)
used_key state happened =
    let after = state_after state happened in
    named_key (client_key (if is_close happened then state else after)) after happened

-- the keys that entries use, in order, each from the state before it
abbrev pub used_from : State → List Entry → List (Option (List ℕ))
used_from state [] = []
used_from state (entry ∷ entries) = used_key state entry.event ∷ used_from (moved state entry) entries

-- the keys that the entries of a history use; the restart uses none
abbrev pub used_in : Kept → List Entry → List (Option (List ℕ))
used_in base [] = []
used_in base (opening ∷ entries) = None ∷ used_from (restart base) entries

-- the last place of a key among these uses, the first of which stands at a place, and this one where it isn't among them
abbrev pub last_from : List ℕ → ℕ → ℕ → List (Option (List ℕ)) → ℕ
last_from key place last [] = last
last_from key place last (used ∷ rest) =
    last_from key (place + 1) (if option_map_or (bytes_eq key) used false then place else last) rest

-- the last use of a key: the position of the last entry that uses it, and 0 where none does
abbrev pub last_use : Kept → List Entry → List ℕ → ℕ
last_use base history key = last_from key 0 0 (used_in base history)
