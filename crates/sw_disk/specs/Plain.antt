-- What a plain disk in memory holds.
use Rattle.std.specs.Prelude.{◌≡◌, ◌<◌, ◌^◌, Some, length}
use Rattle.sw_disk.specs.declared.part.Part.{Part}
use Rattle.sw_disk.specs.declared.part.Part.TheVariants.{Root, Left, Right}
use Rattle.sw_disk.specs.Image.{Image, get}
use Rattle.sw_disk.specs.declared.disk.Disk.{Ghosts}
use Rattle.sw_disk.specs.Lengths.{vec_small}
use Rattle.sw_disk.specs.declared.plain.PlainDisk.{PlainDisk}

-- own: what reads give
abbrev pub plain_image : PlainDisk → Image
plain_image disk = record { root = disk.parts.root.items; left = disk.parts.left.items; right = disk.parts.right.items }

-- own: the meanings of a plain disk in memory
abbrev pub plain : Ghosts PlainDisk
plain = record {
  seen = λ d. Some (plain_image d);
  may_leave = λ d c. c ≡ plain_image d;
  left_since = λ d t c. c ≡ plain_image d;
  clock = λ d. d.clock;
  faults = λ d. d.faults;
}

-- each part has fewer than 2^63 bytes
pub plain_small : (disk : PlainDisk) (part : Part) → length (get part (plain_image disk)) < 2 ^ 63
plain_small disk Root = vec_small disk.parts.root
plain_small disk Left = vec_small disk.parts.left
plain_small disk Right = vec_small disk.parts.right
