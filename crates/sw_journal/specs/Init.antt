-- What a part becomes while it is formatted.
use Rattle.std.specs.Prelude.{◌≡◌, ◌⊎◌, ◌+◌, ◌-◌, ◌^◌, ◌<◌, ◌≤◌, ℕ, List, [], ◌∷◌, ◌++◌}
use Rattle.sw_disk.specs.declared.part.Part.{Part}
use Rattle.sw_disk.specs.declared.disk.Disk.{Ghosts}
use Rattle.sw_disk.specs.Image.{Image}
use Rattle.sw_disk.specs.DiskRule.{OnPart, Torn, capped}
use Rattle.sw_journal.specs.Format.{format_2}
use Rattle.sw_journal.specs.Content.{IsPart, IsFresh}

-- own: what formatting writes: the header of format 2, and a closed gate
abbrev pub first_bytes : List ℕ
first_bytes = format_2.header ++ 0 ∷ []

-- own: formatted in format 2, without a record
abbrev pub IsFormatted : List ℕ → List ℕ → Type 0
IsFormatted old new = IsPart format_2 [] 16 new

-- own: the first 17 bytes, of a part that was so long, are being written, or the part has no record
abbrev pub IsBegun : ℕ → List ℕ → List ℕ → Type 0
IsBegun end old new = Torn end 0 17 old new ⊎ IsFresh new

-- own: the part has no record, and the other parts are as they were in this image
abbrev pub IsFreshIn : Part → Image → Image → Type 0
IsFreshIn part = OnPart part (λ old new. IsFresh new)

-- own: since a moment two calls ago a crash has left nothing but what has P
pub record SinceTwoCalls {D : Type 0} (disk : Ghosts D) (now : D) (P : Image → Type 0) : Type 0 where
  pub from : ℕ
  pub two_calls : disk.clock now ≡ capped (from + 2)
  pub each : from < 2 ^ 64 - 1 → (c : Image) → disk.left_since now from c → P c

-- own: the last calls, four at most, began at a moment so many calls after the first, and since two calls after that moment a
-- crash has left nothing but what has P
pub record FromSecondCall {D : Type 0} (disk : Ghosts D) (calls : ℕ) (old new : D) (P : Image → Type 0) : Type 0 where
  pub start : ℕ
  pub soon : start ≤ disk.clock old + calls
  pub most : disk.clock new ≤ start + 4
  pub each : start + 2 < disk.clock new → (c : Image) → disk.left_since new (start + 2) c → P c
