-- The table of registrations, and what is found in it.
use Rattle.std.specs.Prelude.{ℕ, ◌+◌, Bool, false, ◌==◌, List, find, filter, length, drop, position, slice_get, bytes_eq, Option, is_some, option_and_then}
use Rattle.std.specs.List.{position_from}
use Rattle.std.specs.Option.{option_map_or, option_or}
use Rattle.sw_data.specs.declared.rows.RegistrationRow.{RegistrationRow}
use Rattle.sw_data.specs.declared.workers.Slot.{Slot}
use Rattle.sw_data.specs.declared.workers.Slot.TheVariants as slot

-- own: the rows of the registrations, and for how many more there is room
pub record Table : Type 0 where
  pub rows : List RegistrationRow
  pub spare : ℕ

abbrev pub is_registration : ℕ → RegistrationRow → Bool
is_registration number row = row.number == number

-- the registration of a number
abbrev pub registration_at : ℕ → List RegistrationRow → Option RegistrationRow
registration_at number rows = find (is_registration number) rows

-- the registration of a number is there
abbrev pub is_there : ℕ → List RegistrationRow → Bool
is_there number rows = is_some (registration_at number rows)

-- the registration of a number is there, and passes
abbrev pub has_registration : (RegistrationRow → Bool) → ℕ → List RegistrationRow → Bool
has_registration test number rows = option_map_or test (registration_at number rows) false

-- the worker in a slot (Service Workers, "installing worker", "waiting worker", "active worker")
abbrev pub in_slot : Slot → RegistrationRow → Option ℕ
in_slot slot.Installing row = row.installing
in_slot slot.Waiting row = row.waiting
in_slot slot.Active row = row.active

-- the worker in a slot of the registration of a number
abbrev pub slot_of : Slot → ℕ → List RegistrationRow → Option ℕ
slot_of place number rows = option_and_then (in_slot place) (registration_at number rows)

-- the newest worker of the registration of a number (Service Workers, Appendix A, "Get Newest Worker")
abbrev pub newest_of : ℕ → List RegistrationRow → Option ℕ
newest_of number rows =
    option_and_then (λ row. option_or row.installing (option_or row.waiting row.active)) (registration_at number rows)

-- own: a registration has got a waiting worker at some time
abbrev pub has_first : RegistrationRow → Bool
has_first row = is_some row.first

-- own: how many registrations have got a waiting worker
abbrev pub firsts : List RegistrationRow → ℕ
firsts rows = length (filter has_first rows)

-- own: a registration is one of this key
abbrev pub is_of : List ℕ → RegistrationRow → Bool
is_of key row = bytes_eq row.key key

-- own: the number, which is the place, of the first registration of a key
abbrev pub first_of : List ℕ → List RegistrationRow → Option ℕ
first_of key rows = position (is_of key) rows

-- own: the number of the first registration behind that of a number which has the same key
abbrev pub next_of : ℕ → List RegistrationRow → Option ℕ
next_of number rows =
    option_and_then (λ row. position_from (is_of row.key) (number + 1) (drop (number + 1) rows)) (slice_get rows number)
