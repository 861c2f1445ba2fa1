-- Why a disk in memory keeps the laws of a disk.
use Rattle.std.specs.Prelude.{◌⊎◌, ◌<◌, ◌≤◌, ◌^◌, ◌-◌, ℕ, List, [], ◌∷◌, Bool, true, false, length}
use Rattle.std.specs.List.{All}
use Rattle.std.proofs.Common.{inl, inr, refl, le_of_suc-le-suc, not-suc-le-zero, lt_of_le_of_lt, lt_irrefl}
use Rattle.std.proofs.lemmas.List.Elements.{All-head, All-tail}
use Rattle.sw_disk.specs.declared.part.Part.{Part}
use Rattle.sw_disk.specs.declared.part.Part.TheVariants.{Root, Left, Right}
use Rattle.sw_data.specs.Faults.{Rose}
use Rattle.sw_disk.specs.Image.{Image, get}
use Rattle.sw_disk.specs.Doubts.{HasCertain, Leaves}
use Rattle.sw_disk.specs.Memory.{MayLeave, PartLeaves, HadLeft, image_of}
use Rattle.sw_disk.specs.Lengths.{vec_small}
use Rattle.sw_disk.specs.declared.memory.history.Past.{Past}
use Rattle.sw_disk.specs.declared.memory.part.MemoryPart.{MemoryPart}
use Rattle.sw_disk.specs.declared.part.Parts.{Parts}

-- what reads give fits the marks
pub fits_itself : (bytes : List ℕ) (marks : List Bool) → length marks ≤ length bytes → HasCertain bytes marks bytes
fits_itself bytes [] short = tt
fits_itself [] (mark ∷ marks) short = absurd (not-suc-le-zero short)
fits_itself (byte ∷ bytes) (mark ∷ marks) short = (λ is. refl, fits_itself bytes marks (le_of_suc-le-suc short))

leaves_itself : (touched : Bool) (marks : List Bool) (bytes : List ℕ) → length marks ≤ length bytes → Leaves touched marks bytes bytes
leaves_itself false marks bytes short = refl
leaves_itself true marks bytes short = fits_itself bytes marks short

part_leaves : (part : MemoryPart) → PartLeaves part part.bytes.items
part_leaves part = leaves_itself part.touched part.doubts.items part.bytes.items part.short

-- a crash may leave what reads give
pub leaves_image : (parts : Parts MemoryPart) → MayLeave parts (image_of parts)
leaves_image parts = record { root = part_leaves parts.root; left = part_leaves parts.left; right = part_leaves parts.right }

none_left : (past : List Past) (now : ℕ) (c : Image) → now < 2 ^ 64 - 1 → All (λ p. Rose p.clock now) past → HadLeft past now c → ⊥
none_left [] now c goes before had = had
none_left (was ∷ past) now c goes before (inl here) = lt_irrefl now (lt_of_le_of_lt here.0 (All-head (λ p. Rose p.clock now) was past before goes))
none_left (was ∷ past) now c goes before (inr there) = none_left past now c goes (All-tail (λ p. Rose p.clock now) was past before) there

-- since the clock now there is no moment that is past
pub current : (parts : Parts MemoryPart) (past : List Past) (now : ℕ) (c : Image) → now < 2 ^ 64 - 1 → All (λ p. Rose p.clock now) past → MayLeave parts c ⊎ HadLeft past now c → MayLeave parts c
current parts past now c goes before (inl left) = left
current parts past now c goes before (inr had) = absurd (none_left past now c goes before had)

-- each part has fewer than 2^63 bytes
pub image_small : (parts : Parts MemoryPart) (part : Part) → length (get part (image_of parts)) < 2 ^ 63
image_small parts Root = vec_small parts.root.bytes
image_small parts Left = vec_small parts.left.bytes
image_small parts Right = vec_small parts.right.bytes
