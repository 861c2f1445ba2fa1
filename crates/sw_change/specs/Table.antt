-- The table of kept registrations: entries by key and scope, seen as the rows that are kept.
use Rattle.std.specs.Prelude.{ℕ, Bool, ◌&&◌, List, bytes_eq, map, false, Some, None}
use Rattle.sw_data.specs.declared.storage.KeptRegistration.{KeptRegistration}
use Rattle.sw_rules.specs.Storage.{marked_activated, promoted}
use Rattle.sw_change.specs.declared.registration.Edit.{Edit}
use Rattle.sw_change.specs.declared.registration.Edit.TheVariants as edit
use Rattle.sw_change.specs.declared.registration.Registration.{Registration}

-- own: a key, and a scope or a name under it
abbrev pub Place : Type 0
Place = List ℕ × List ℕ

abbrev pub is_same : Place → Place → Bool
is_same one other = bytes_eq one.0 other.0 && bytes_eq one.1 other.1

-- own: what is kept of a registration at its place
abbrev pub kept_row : Place × Registration → KeptRegistration
kept_row entry = record {
  key = entry.0.0;
  scope = entry.0.1;
  mode = entry.1.mode;
  waiting = entry.1.waiting;
  active = entry.1.active;
  activated = entry.1.activated;
  preload = entry.1.preload;
  preload_value = entry.1.preload_value;
}

abbrev pub kept_rows : List (Place × Registration) → List KeptRegistration
kept_rows entries = map kept_row entries

-- the waiting worker, where there is one, becomes the active one, not activated
abbrev pub promoted_registration : Registration → Registration
promoted_registration row =
    elim row.waiting [
      | Some worker ↦ record row { waiting = None; active = Some worker; activated = false }
      | None ↦ row
    ]

-- own: what an edit does to a registration
abbrev pub edited : Edit → KeptRegistration → KeptRegistration
edited (edit.Waiting mode worker) row = record row { mode = mode; waiting = Some worker }
edited edit.Active row = promoted row
edited edit.Activated row = marked_activated row
edited (edit.Mode mode) row = record row { mode = mode }
edited (edit.Preload on text) row = record row { preload = on; preload_value = text }
