-- What is noted of a history for the last uses of keys (own).
use Rattle.std.specs.Prelude.{◌≡◌, ℕ, ◌+◌, Bool, true, false, List, bytes_eq, fold, length, nat_eq, Option, Some, None, if◌then◌else◌}
use Rattle.std.specs.Map.{lookup}
use Rattle.std.specs.Option.{option_map_or}
use Rattle.sw_data.specs.declared.answers.Answer.{Answer}
use Rattle.sw_data.specs.declared.answers.Answer.TheVariants as answer
use Rattle.sw_data.specs.declared.events.Event.{Event}
use Rattle.sw_data.specs.declared.events.Event.TheVariants as event
use Rattle.sw_data.specs.declared.histories.Entry.{Entry}
use Rattle.sw_data.specs.declared.storage.Kept.{Kept}
use Rattle.sw_rules.specs.History.{after}
use Rattle.sw_rules.specs.Rows.{is_number}
use Rattle.sw_rules.specs.State.{State}
use Rattle.sw_rules.specs.Step.{state_after}
use Rattle.sw_bucket.specs.Eviction.{forget_event}
use Rattle.sw_bucket.specs.Uses.{client_key, last_use, named_key}

-- how many entries were noted, the last use of each key among them, and the key of each client that they left open
pub record Noted : Type 0 where
  pub count : ℕ
  pub places : List (List ℕ × ℕ)
  pub clients : List (ℕ × List ℕ)

-- the last use of a key among the entries that were noted, and 0 where none uses it
abbrev pub last_noted : Noted → List ℕ → ℕ
last_noted noted key = option_map_or (λ place. place) (lookup (bytes_eq key) noted.places) 0

-- the key of a client that was noted as open
abbrev pub client_noted : Noted → ℕ → Option (List ℕ)
client_noted noted number = lookup (nat_eq number) noted.clients

-- this is noted of a history
pub record IsNotedOf (base : Kept) (history : List Entry) (noted : Noted) : Type 0 where
  pub count : noted.count ≡ length history
  pub last : (key : List ℕ) → last_noted noted key ≡ last_use base history key
  pub clients : (number : ℕ) (key : List ℕ)
      → client_key (after base history) number ≡ Some key → client_noted noted number ≡ Some key

-- a state after the host has forgotten some keys
abbrev pub all_forgotten : State → List (List ℕ) → State
all_forgotten state keys = fold (λ before key. state_after before (forget_event key)) state keys

-- a state is another one, or what further forgets of the host have made of it
abbrev pub IsForgottenFrom : State → State → Type 0
IsForgottenFrom state now = (keys : List (List ℕ)) × (now ≡ all_forgotten state keys)

-- ---- one more entry

-- the client that an event opens or closes
abbrev pub moved_client : Event → Option ℕ
moved_client (event.Open maker client url partition) = Some client
moved_client (event.Close maker client) = Some client
moved_client _ = None

abbrev pub is_ok : Answer → Bool
is_ok answer.Ok = true
is_ok _ = false

-- the key that an event uses which was answered so, found in what was noted before it and in a state after it
abbrev pub key_used_by : Noted → State → Answer → Event → Option (List ℕ)
key_used_by noted state reply (event.Close maker client) = if is_ok reply then client_noted noted client else None
key_used_by noted state reply happened = named_key (client_key state) state happened

-- one more entry was noted, in a state after it
pub record NotesOne (before : Noted) (state : State) (entry : Entry) (now : Noted) : Type 0 where
  pub count : now.count ≡ before.count + 1
  pub last : (key : List ℕ)
      → last_noted now key
      ≡ (if option_map_or (bytes_eq key) (key_used_by before state entry.answer entry.event) false then before.count else last_noted before key)
  pub clients : (number : ℕ)
      → client_noted now number
      ≡ (if is_number (moved_client entry.event) number then client_key state number else client_noted before number)
