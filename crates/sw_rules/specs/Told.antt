-- What a part of an algorithm comes to: the state that it leaves, what it tells and what is to be kept, and how one part follows another.
use Rattle.std.specs.Prelude.{ℕ, Bool, ◌&&◌, ◌||◌, List, [], ◌∷◌, ◌++◌, is_some, None, if◌then◌else◌}
use Rattle.std.specs.Option.{option_map_or}
use Rattle.sw_data.specs.declared.answers.Answer.{Answer}
use Rattle.sw_data.specs.declared.answers.Answer.TheVariants as answer
use Rattle.sw_data.specs.declared.answers.Cause.{Cause}
use Rattle.sw_data.specs.declared.answers.Fault.{Fault}
use Rattle.sw_data.specs.declared.answers.Fault.TheVariants as fault
use Rattle.sw_data.specs.declared.answers.Notice.{Notice}
use Rattle.sw_data.specs.declared.storage.Change.{Change}
use Rattle.sw_data.specs.declared.workers.Slot.TheVariants as slot
use Rattle.sw_rules.specs.Rows.{registration_row, slot_worker}
use Rattle.sw_rules.specs.State.{State, Registration}

-- own: a state, with the notices and the durable changes on the way to it, in order
pub record Told : Type 0 where
  pub state : State
  pub notices : List Notice
  pub changes : List Change

-- a state to which nothing was told on the way
abbrev pub quiet : State → Told
quiet state = record { state = state; notices = []; changes = [] }

-- one part, and then another on the state that it leaves
unfoldable pub followed : Told → (State → Told) → Told
followed told next =
    let after = next told.state in
    record {
      state = after.state;
      notices = told.notices ++ after.notices;
      changes = told.changes ++ after.changes;
    }

-- own: what an event comes to
pub record Outcome : Type 0 where
  pub answer : Answer
  pub told : Told

-- an answer that leaves the state as it is
abbrev pub answered : State → Answer → Outcome
answered state reply = record { answer = reply; told = quiet state }

-- a fault, which leaves the state as it is
abbrev pub refused : State → Fault → Outcome
refused state why = answered state (answer.Fault why)

-- a TypeError without an index
abbrev pub type_error : Cause → Fault
type_error why = fault.TypeError why None

-- a registration that is kept: it is mapped, and has a waiting or an active worker
abbrev pub is_kept : State → Registration → Bool
is_kept state row =
    row.mapped
    && (is_some (slot_worker state slot.Waiting row.number) || is_some (slot_worker state slot.Active row.number))

-- the durable change of a registration, made only where it is kept in the state before (own)
abbrev pub kept_change : State → ℕ → (Registration → Change) → List Change
kept_change state number change_of =
    option_map_or (λ row. if is_kept state row then change_of row ∷ [] else []) (registration_row state number) []

-- that change is made, and the state stays as it is
unfoldable pub keep : State → ℕ → (Registration → Change) → Told
keep state number change_of = record { state = state; notices = []; changes = kept_change state number change_of }
