-- What a disk becomes while another part is written and made the current one.
use Rattle.std.specs.Prelude.{◌≡◌, ◌⊎◌, ℕ, List, [], ◌∷◌}
use Rattle.sw_disk.specs.declared.part.Part.{Part}
use Rattle.sw_disk.specs.declared.part.Part.TheVariants.{Root}
use Rattle.sw_disk.specs.Image.{Image, put}
use Rattle.sw_disk.specs.DiskRule.{OnPart, written}

-- own: any change of a part
abbrev pub Anything : List ℕ → List ℕ → Type 0
Anything old new = Unit {0}

-- own: the part is being written; or it has these bytes, and Root is being written
abbrev pub IsGoingOver : Part → List ℕ → Image → Image → Type 0
IsGoingOver part contents old new = OnPart part Anything old new ⊎ OnPart Root Anything (put part contents old) new

-- own: the part has these bytes, and a one and a zero byte stand behind so many bytes of Root
abbrev pub WentOver : Part → List ℕ → ℕ → Image → Image → Type 0
WentOver part contents ones old new = new ≡ put Root (written ones (1 ∷ 0 ∷ []) old.root) (put part contents old)
