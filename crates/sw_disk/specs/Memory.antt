-- What a disk in memory holds, and what a crash may leave of it.
use Rattle.std.specs.Prelude.{◌≡◌, ◌⊎◌, ◌≤◌, ◌||◌, ℕ, List, [], ◌∷◌, Option, Some, Bool}
use Rattle.sw_disk.specs.Image.{Image}
use Rattle.sw_disk.specs.declared.disk.Disk.{Ghosts}
use Rattle.sw_disk.specs.Doubts.{Leaves, Exactly, marks_of}
use Rattle.sw_disk.specs.Script.{count_of, one_more, is_listed, is_stopped}
use Rattle.sw_disk.specs.declared.memory.MemoryDisk.{MemoryDisk}
use Rattle.sw_disk.specs.declared.memory.history.Past.{Past}
use Rattle.sw_disk.specs.declared.memory.part.MemoryPart.{MemoryPart}
use Rattle.sw_disk.specs.declared.part.Parts.{Parts}
use Rattle.sw_disk.specs.declared.memory.script.CallKind.{CallKind}
use Rattle.sw_disk.specs.declared.memory.script.Failing.{Failing}
use Rattle.sw_disk.specs.declared.memory.script.Counts.{Counts}

-- own: what reads give
abbrev pub image_of : Parts MemoryPart → Image
image_of parts = record { root = parts.root.bytes.items; left = parts.left.bytes.items; right = parts.right.bytes.items }

-- own: bytes that a crash now may leave of one part
abbrev pub PartLeaves : MemoryPart → List ℕ → Type 0
PartLeaves part c = Leaves part.touched part.doubts.items part.bytes.items c

-- own: the marks of one part
abbrev pub doubts_of : MemoryPart → List Bool
doubts_of part = marks_of part.touched part.doubts.items part.bytes.items

-- own: an image that a crash now may leave
pub record MayLeave (parts : Parts MemoryPart) (c : Image) : Type 0 where
  pub root : PartLeaves parts.root c.root
  pub left : PartLeaves parts.left c.left
  pub right : PartLeaves parts.right c.right

-- own: an image that a crash at one of the moments that are past may have left, at or after a clock
abbrev pub HadLeft : List Past → ℕ → Image → Type 0
HadLeft [] t c = ⊥
HadLeft (was ∷ past) t c = ((t ≤ was.clock) × MayLeave was.parts c) ⊎ HadLeft past t c

-- own: an image that a crash at some moment since a clock may have left
abbrev pub LeftSince : MemoryDisk → ℕ → Image → Type 0
LeftSince disk t c = MayLeave disk.parts c ⊎ HadLeft disk.history.past.items t c

-- own: what reads give of a disk
abbrev pub disk_image : MemoryDisk → Image
disk_image disk = image_of disk.parts

-- own: an image that a crash now may leave of a disk
abbrev pub CrashLeaves : MemoryDisk → Image → Type 0
CrashLeaves disk c = MayLeave disk.parts c

-- own: how many calls were made
abbrev pub clock_of : MemoryDisk → ℕ
clock_of disk = disk.history.clock

-- own: how often a call failed
abbrev pub faults_of : MemoryDisk → ℕ
faults_of disk = disk.faults

-- own: how many calls of each kind were made
abbrev pub counts_of : MemoryDisk → Counts
counts_of disk = disk.counts

-- own: the calls that fail
abbrev pub failing_of : MemoryDisk → List Failing
failing_of disk = disk.failing.items

-- own: the call, numbered over all kinds, from which on each fails, where there is one
abbrev pub stop_of : MemoryDisk → Option ℕ
stop_of disk = disk.stop

-- own: the meanings of a disk in memory
abbrev pub memory : Ghosts MemoryDisk
memory = record { seen = λ d. Some (disk_image d); may_leave = CrashLeaves; left_since = LeftSince; clock = clock_of; faults = faults_of }

-- own: what a crash may leave now is exactly what it might have left before, after any such step
abbrev pub LeavesExactly : (old new : MemoryDisk) → (Image → Image → Type 0) → Type 0
LeavesExactly old new step = Exactly step (CrashLeaves old) (CrashLeaves new)

-- own: what reads give, and what a crash may leave, is as it was
abbrev pub SameParts : MemoryDisk → MemoryDisk → Type 0
SameParts old new = new.parts ≡ old.parts

-- own: the next call of a kind is one that fails
abbrev pub fails_next : CallKind → MemoryDisk → Bool
fails_next kind disk = is_stopped disk.history.clock disk.stop || is_listed kind (count_of kind disk.counts) disk.failing.items

-- own: nothing is forgotten of what a crash at some moment may have left
abbrev pub ForgetsNothing : MemoryDisk → MemoryDisk → Type 0
ForgetsNothing old new = (t : ℕ) (c : Image) → t ≤ old.history.clock → LeftSince old t c → LeftSince new t c

-- own: a call of a kind was counted, and the calls that fail are the same
pub record FollowsScript (kind : CallKind) (old new : MemoryDisk) : Type 0 where
  pub counts : new.counts ≡ one_more kind old.counts
  pub failing : new.failing ≡ old.failing
  pub stop : new.stop ≡ old.stop
