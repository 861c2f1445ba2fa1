-- What was read of a source: its bytes, or how it is refused.
use Rattle.std.specs.Prelude.{◌≡◌, ◌⊎◌, ◌≤◌, ◌<◌, ℕ, List, length, Option}
use Rattle.sw_data.specs.Faults.{Rose}
use Rattle.sw_data.specs.Streams.{Tells}
use Rattle.sw_forms.specs.declared.error.RecordingError.{RecordingError}
use Rattle.sw_forms.specs.declared.error.RecordingError.TheVariants as error
use Rattle.sw_forms.specs.Refusals as refusals
use Rattle.sw_host.specs.declared.statuses.Status.{Status}
use Rattle.sw_host.specs.declared.statuses.Status.TheVariants as status
use Rattle.sw_host.specs.Texts.{refusal_text}

-- bytes that are no recording are refused with this status and text
abbrev pub RefusedAs : RecordingError → Status → List ℕ → Type 0
RefusedAs error.NoMemory _ text = ⊥
RefusedAs (error.BadLine line why) status.BadLine text = text ≡ refusals.refusal_text (error.BadLine line why)
RefusedAs (error.BadLine line why) _ text = ⊥
RefusedAs (error.TooLarge line passed) status.TooLarge text = text ≡ refusals.refusal_text (error.TooLarge line passed)
RefusedAs (error.TooLarge line passed) _ text = ⊥

-- the source had these bytes left, no more than are read of it
pub record IsRead (limit : ℕ) (left : Option (List ℕ)) (bytes : List ℕ) : Type 0 where
  pub told : Tells left bytes
  pub within : length bytes ≤ limit

-- the source had more bytes left than are read of it
abbrev pub IsPastLimit : ℕ → Option (List ℕ) → Type 0
IsPastLimit limit left = (bytes : List ℕ) × Tells left bytes × (limit < length bytes)

-- own: the source was not read to its end: a read failed, or it has more bytes than are read of it
abbrev pub IsUnread : (limit : ℕ) (large : List ℕ) → Option (List ℕ) → (before now : ℕ) → Status → List ℕ → Type 0
IsUnread limit large left before now outcome text =
    ((outcome ≡ status.ReadFault) × Rose before now × (text ≡ refusal_text status.ReadFault))
    ⊎ ((outcome ≡ status.TooLarge) × IsPastLimit limit left × (text ≡ large))

-- own: the source was read to its end, and this stands of its bytes; or it was not, and something is left alone
abbrev pub ReadsThen : (limit : ℕ) (large : List ℕ) → Option (List ℕ) → (before now : ℕ) → (List ℕ → Status → List ℕ → Type 0) → Type 0 → Status → List ℕ → Type 0
ReadsThen limit large left before now Then Alone outcome text =
    ((bytes : List ℕ) × IsRead limit left bytes × Then bytes outcome text)
    ⊎ (IsUnread limit large left before now outcome text × Alone)
