-- What a call hands out.
use Rattle.std.specs.Prelude.{◌≡◌, ◌⊎◌, ◌+◌, ◌++◌, ◌≤◌, ◌<◌, ℕ, Bool, List, length, drop, nat_le, Some}
use Rattle.sw_disk.specs.Image.{Image}
use Rattle.sw_disk.specs.Plain.{plain, plain_image}
use Rattle.sw_disk.specs.declared.plain.PlainDisk.{PlainDisk}
use Rattle.sw_host.specs.Stands.{Stands}
use Rattle.sw_host.specs.Texts.{code_of}
use Rattle.sw_host.specs.declared.command.Command.{Command}
use Rattle.sw_host.specs.declared.statuses.Status.{Status}
use Rattle.sw_host.specs.declared.statuses.Status.TheVariants as status
use Rattle.swhost_c.specs.declared.handing.Lengths.{Lengths}
use Rattle.swhost_c.specs.declared.handing.TheConstants.{NO_ROOM}

-- own: what a command comes to: its status, its text, and the parts after it
pub record Made : Type 0 where
  pub outcome : Status
  pub text : List ℕ
  pub image : Image

-- own: this is what the command makes of three parts; one that reads a source reads one that has these bytes
pub record HasMade (asked : Command) (bytes : List ℕ) (before : Image) (made : Made) : Type 0 where
  pub old : PlainDisk
  pub new : PlainDisk
  pub was : plain_image old ≡ before
  pub is : plain_image new ≡ made.image
  pub stands : Stands plain old new (Some bytes) 0 0 asked made.outcome made.text

-- own: bytes stand in front, and behind them what stood there
abbrev pub IsInFront : List ℕ → (old new : List ℕ) → Type 0
IsInFront bytes old new = new ≡ bytes ++ drop (length bytes) old

-- own: bytes are at the front of the room, and this is the answer; or the room has no place for them all, and stays as it was
pub record IsHanded (number : ℕ) (bytes old new : List ℕ) (answer : ℕ) : Type 0 where
  pub handed : length bytes ≤ length old → (answer ≡ number) × IsInFront bytes old new
  pub no_room : length old < length bytes → (answer ≡ NO_ROOM) × (new ≡ old)

abbrev pub bytes_of : List ℕ → Image → List ℕ
bytes_of text image = text ++ image.root ++ image.left ++ image.right

abbrev pub lengths_of : List ℕ → Image → Lengths
lengths_of text image = record {
  text = length text;
  root = length image.root;
  left = length image.left;
  right = length image.right;
}

-- own: all that has these lengths has place in a room
abbrev pub fits_in : ℕ → Lengths → Bool
fits_in room lengths = nat_le (lengths.text + (lengths.root + lengths.left + lengths.right)) room

-- own: the text and the parts are handed out, with their lengths
abbrev pub HandsOut : Made → (old new : List ℕ) → Lengths → ℕ → Type 0
HandsOut made old new lengths answer =
    (lengths ≡ lengths_of made.text made.image) × IsHanded (code_of made.outcome) (bytes_of made.text made.image) old new answer

-- own: the answer and the lengths where there was no memory
abbrev pub HandsNothing : Lengths → ℕ → Type 0
HandsNothing lengths answer =
    (lengths ≡ record { text = 0; root = 0; left = 0; right = 0 }) × (answer ≡ code_of status.NoMemory)

-- own: what a command makes of three parts is handed out; or there was no memory, and the room stays as it was
abbrev pub Answers : Command → List ℕ → Image → (old new : List ℕ) → Lengths → ℕ → Type 0
Answers asked bytes before old new lengths answer =
    ((made : Made) × HasMade asked bytes before made × HandsOut made old new lengths answer)
    ⊎ (HandsNothing lengths answer × (new ≡ old))

-- own: the same of a command whose text alone is handed out
abbrev pub AnswersText : Command → List ℕ → Image → (old new : List ℕ) → ℕ → ℕ → Type 0
AnswersText asked bytes before old new count answer =
    ((made : Made) × HasMade asked bytes before made × (count ≡ length made.text)
    × IsHanded (code_of made.outcome) made.text old new answer)
    ⊎ ((count ≡ 0) × (answer ≡ code_of status.NoMemory) × (new ≡ old))
