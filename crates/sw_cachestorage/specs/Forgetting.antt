-- What forgetting a key asks of a state, and what it does to it.
use Rattle.std.specs.Prelude.{ℕ, Bool, ◌&&◌, List, filter, bytes_eq, slice_get, Option, Some, None, option_and_then, if◌then◌else◌}
use Rattle.std.specs.List.{list_any}
use Rattle.std.specs.Option.{option_map_or}
use Rattle.sw_rules.specs.Forgetting.{is_mapped_of}
use Rattle.sw_rules.specs.Registrations.{clear, unmap}
use Rattle.sw_rules.specs.Rows.{has_pending_worker}
use Rattle.sw_rules.specs.State.{State, Registration}
use Rattle.sw_rules.specs.Told.{Told, followed, quiet}

-- own: a handler or a fetch event of a worker of a registration of this key is pending
abbrev pub has_pending_of : List ℕ → State → Bool
has_pending_of key state =
    list_any (λ row. bytes_eq row.key key && has_pending_worker state row.number) state.registrations

-- own: the mapped registrations of a key
abbrev pub mapped_of : List ℕ → State → List Registration
mapped_of key state = filter (is_mapped_of key) state.registrations

-- own: the number of the registration at a place, where it is a mapped one of the key
abbrev pub mapped_at : List ℕ → State → ℕ → Option ℕ
mapped_at key state place =
    option_and_then (λ row. if is_mapped_of key row then Some row.number else None) (slice_get state.registrations place)

-- own: the room that is asked where the registration of a number, if any, leaves the map and is cleared
abbrev pub room_of : Option ℕ → ℕ
room_of number = option_map_or (λ n. 4) number 0

-- own: a registration leaves the map and is cleared
abbrev pub forget_one : State → ℕ → Told
forget_one state number = followed (unmap state number) (λ left. clear left number)

-- own: the registration at a place does so, where it is a mapped one of the key
abbrev pub forget_at : List ℕ → State → ℕ → Told
forget_at key state place = option_map_or (forget_one state) (mapped_at key state place) (quiet state)
