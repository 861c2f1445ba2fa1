-- What is said of any disk, by the meanings that it has: what reads give, and what a crash may leave.
use Rattle.std.specs.Prelude.{◌≡◌, ◌⊎◌, ◌≤◌, ℕ}
use Rattle.sw_disk.specs.declared.part.Part.{Part}
use Rattle.sw_disk.specs.declared.disk.Disk.{Ghosts}
use Rattle.sw_disk.specs.Image.{Image, get}
use Rattle.sw_disk.specs.DiskRule.{ForTold, BothTold, OnPart, PendingCut, TornWrite, Stepped, EachStepped, Only}

-- own: what reads give became what is in this relation to it
abbrev pub Becomes : {D : Type 0} → Ghosts D → (old new : D) → (Image → Image → Type 0) → Type 0
Becomes disk old new R = BothTold (disk.seen old) (disk.seen new) R

-- own: a crash leaves what reads give
abbrev pub IsDurable : {D : Type 0} → Ghosts D → D → Type 0
IsDurable disk now = ForTold (disk.seen now) (λ image. Only image (disk.may_leave now))

-- own: a part is exactly what reads give in each image that a crash may leave, as it is from a sync that answers Ok
-- on for as long as it has no write and no cut
abbrev pub IsSure : {D : Type 0} → Ghosts D → Part → D → Type 0
IsSure disk part now = ForTold (disk.seen now) (λ image. (c : Image) → disk.may_leave now c → get part c ≡ get part image)

-- own: a crash leaves what it might have left before, or that with a write of n bytes torn
abbrev pub Tears : {D : Type 0} → Ghosts D → (old new : D) → Part → (at n : ℕ) → Type 0
Tears disk old new part at n = ForTold (disk.seen old) (λ image. EachStepped (TornWrite part at n image) (disk.may_leave old) (disk.may_leave new))

-- own: a crash leaves what it might have left before, or that with a cut pending
abbrev pub Clips : {D : Type 0} → Ghosts D → (old new : D) → Part → (len : ℕ) → Type 0
Clips disk old new part len = ForTold (disk.seen old) (λ image. EachStepped (OnPart part (PendingCut len)) (disk.may_leave old) (disk.may_leave new))

-- own: between two states of a disk, at every moment, a crash leaves nothing but what it might have left already
-- before the first, or what has P
pub record LeavesOnly {D : Type 0} (disk : Ghosts D) (old new : D) (P : Image → Type 0) : Type 0 where
  pub later : disk.clock old ≤ disk.clock new
  pub before : (t : ℕ) (c : Image) → t ≤ disk.clock old → disk.left_since new t c → disk.left_since old t c ⊎ P c

-- own: between two states of a disk, at every moment, a crash leaves nothing but what it might have left before the
-- first, or what comes from that by such a step, which may depend on what reads gave
abbrev pub LeavesSteps : {D : Type 0} → Ghosts D → (old new : D) → (Image → Image → Image → Type 0) → Type 0
LeavesSteps disk old new step = ForTold (disk.seen old) (λ image. LeavesOnly disk old new (Stepped (step image) (disk.may_leave old)))
