-- What kept registrations take, part by part, and what changes do to it (own).
use Rattle.std.specs.Prelude.{◌≡◌, ℕ, ◌+◌, Bool, not, ◌&&◌, List, [], ◌∷◌, ◌++◌, codes, bytes_eq, filter, map, sum_by, Option, Some, None, option_map, false, true, if◌then◌else◌}
use Rattle.std.specs.List.{list_any}
use Rattle.sw_data.specs.declared.storage.Change.{Change}
use Rattle.sw_data.specs.declared.storage.Change.TheVariants as change
use Rattle.sw_data.specs.declared.storage.Kept.{Kept}
use Rattle.sw_data.specs.declared.storage.KeptRegistration.{KeptRegistration}
use Rattle.sw_data.specs.declared.storage.KeptWorker.{KeptWorker}
use Rattle.sw_data.specs.Sizes.{text_size}
use Rattle.sw_list.specs.Named.{Label, is_at, is_of}
use Rattle.sw_sizes.specs.declared.row.Edit.{Edit}
use Rattle.sw_sizes.specs.declared.row.Edit.TheVariants as edit
use Rattle.sw_sizes.specs.declared.row.Parts.{Parts}

-- ---- the parts of a registration

-- the bytes of a worker's script and body
abbrev pub worker_size : KeptWorker → ℕ
worker_size worker = text_size worker.script + text_size worker.body

-- the bytes of a preload value, none where preload is as it first is
abbrev pub preload_size : Bool → List ℕ → Option ℕ
preload_size on value = if not on && bytes_eq value (codes "true") then None else Some (text_size value)

-- a registration under its key and its scope
abbrev pub Row : Type 0
Row = Label × Parts

-- the parts of a registration, under its key and its scope
abbrev pub parts_of : KeptRegistration → Row
parts_of row = (
  (row.key, row.scope),
  record {
    names = text_size row.key + text_size row.scope;
    waiting = option_map worker_size row.waiting;
    active = option_map worker_size row.active;
    activated = row.activated;
    preload = preload_size row.preload row.preload_value;
  },
)

-- these are the parts of what a content keeps of registrations
abbrev pub ArePartsOf : Kept → List Row → Type 0
ArePartsOf kept rows = rows ≡ map parts_of kept.registrations

-- ---- bytes

-- the bytes of the change that makes a waiting worker
abbrev pub waiting_bytes : ℕ → Option ℕ → ℕ
waiting_bytes names None = 0
waiting_bytes names (Some worker) = 3 + names + worker

-- the bytes of the changes that make a worker active
abbrev pub active_bytes : ℕ → Bool → Option ℕ → ℕ
active_bytes names activated None = 0
active_bytes names activated (Some worker) = 3 + names + worker + (1 + names) + (if activated then 1 + names else 0)

-- the bytes of the change of preload
abbrev pub preload_bytes : ℕ → Option ℕ → ℕ
preload_bytes names None = 0
preload_bytes names (Some value) = 2 + names + value

abbrev pub parts_bytes : Parts → ℕ
parts_bytes parts =
    active_bytes parts.names parts.activated parts.active
    + waiting_bytes parts.names parts.waiting
    + preload_bytes parts.names parts.preload

abbrev pub row_bytes : Row → ℕ
row_bytes row = parts_bytes row.1

abbrev pub rows_bytes : List Row → ℕ
rows_bytes rows = sum_by row_bytes rows

-- the bytes of the rows of a key
abbrev pub bytes_at : List ℕ → List Row → ℕ
bytes_at key rows = rows_bytes (filter (is_of key) rows)

-- ---- changes

-- the parts of a registration with its first waiting worker
abbrev pub first_parts : ℕ → ℕ → Parts
first_parts names worker = record { names = names; waiting = Some worker; active = None; activated = false; preload = None }

abbrev pub promoted_by : Parts → Option ℕ → Parts
promoted_by parts None = parts
promoted_by parts (Some worker) = record parts { waiting = None; active = Some worker; activated = false }

abbrev pub activated_by : Parts → Option ℕ → Parts
activated_by parts None = parts
activated_by parts (Some worker) = record parts { activated = true }

-- what an edit does to the parts of a registration
abbrev pub edited : Edit → Parts → Parts
edited (edit.Waiting worker) parts = record parts { waiting = Some worker }
edited edit.Active parts = promoted_by parts parts.waiting
edited edit.Activated parts = activated_by parts parts.active
edited (edit.Preload value) parts = record parts { preload = value }

-- the rows of a key and a scope, changed
abbrev pub with_parts : List ℕ → List ℕ → (Parts → Parts) → List Row → List Row
with_parts key scope f rows = map (λ row. if is_at key scope row then (row.0, f row.1) else row) rows

-- the rows after a worker waits, with a row that is added last where there is none
abbrev pub with_waiting : List ℕ → List ℕ → ℕ → List Row → List Row
with_waiting key scope worker rows =
    if list_any (is_at key scope) rows then with_parts key scope (edited (edit.Waiting worker)) rows
    else rows ++ ((key, scope), first_parts (text_size key + text_size scope) worker) ∷ []

-- the rows after a change
abbrev pub noted : Change → List Row → List Row
noted (change.Waiting key scope mode worker) rows = with_waiting key scope (worker_size worker) rows
noted (change.Active key scope) rows = with_parts key scope (edited edit.Active) rows
noted (change.Activated key scope) rows = with_parts key scope (edited edit.Activated) rows
noted (change.Gone key scope) rows = filter (λ row. not (is_at key scope row)) rows
noted (change.Forgot key) rows = filter (λ row. not (is_of key row)) rows
noted change.Restarted rows = map (λ row. (row.0, edited edit.Active row.1)) rows
noted (change.Preload key scope on text) rows = with_parts key scope (edited (edit.Preload (preload_size on text))) rows
noted _ rows = rows
