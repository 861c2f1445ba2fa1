-- What becomes of the row of a registration.
use Rattle.std.specs.Prelude.{ℕ, Bool, false, List, Some, None}
use Rattle.std.specs.Option.{option_or}
use Rattle.sw_data.specs.declared.rows.RegistrationRow.{RegistrationRow}
use Rattle.sw_data.specs.declared.workers.Mode.{Mode}
use Rattle.sw_data.specs.declared.workers.Slot.{Slot}
use Rattle.sw_data.specs.declared.workers.Slot.TheVariants as slot
use Rattle.sw_reg.specs.declared.edit.Edit.{Edit}
use Rattle.sw_reg.specs.declared.edit.Edit.TheVariants as edit

-- a new registration, which has no worker (Service Workers, Appendix A, "Set Registration")
abbrev pub new_registration : ℕ → List ℕ → List ℕ → Mode → RegistrationRow
new_registration number key scope mode = record {
  number = number;
  key = key;
  scope = scope;
  mode = mode;
  first = None;
  owed = false;
  installing = None;
  waiting = None;
  active = None;
}

-- a worker becomes the installing one (Service Workers, Appendix A, "Update Registration State", with the target "installing")
abbrev pub with_installing : ℕ → RegistrationRow → RegistrationRow
with_installing worker row = record row { installing = Some worker }

-- the installing worker becomes the waiting one (Service Workers, Appendix A, "Update Registration State", with the target "waiting"); that the registration is numbered at the first time is own
abbrev pub with_waiting : ℕ → RegistrationRow → RegistrationRow
with_waiting number row = record row {
  first = option_or row.first (Some number);
  installing = None;
  waiting = row.installing;
}

-- the waiting worker becomes the active one (Service Workers, Appendix A, "Update Registration State", with the target "active")
abbrev pub with_active : RegistrationRow → RegistrationRow
with_active row = record row { waiting = None; active = row.waiting }

-- there is no worker in a slot any more (Service Workers, Appendix A, "Update Registration State", with this target and null)
abbrev pub without : Slot → RegistrationRow → RegistrationRow
without slot.Installing row = record row { installing = None }
without slot.Waiting row = record row { waiting = None }
without slot.Active row = record row { active = None }

-- the registration has this mode (Service Workers, "update via cache mode")
abbrev pub with_mode : Mode → RegistrationRow → RegistrationRow
with_mode mode row = record row { mode = mode }

-- own: the registration is owed a Try Activate, or not
abbrev pub with_owed : Bool → RegistrationRow → RegistrationRow
with_owed owed row = record row { owed = owed }

-- own: what an edit does to a row
abbrev pub edited : Edit → RegistrationRow → RegistrationRow
edited (edit.Installing worker) row = with_installing worker row
edited (edit.Waiting number) row = with_waiting number row
edited edit.Active row = with_active row
edited (edit.Leave place) row = without place row
edited (edit.Mode mode) row = with_mode mode row
edited (edit.Owed owed) row = with_owed owed row
