-- Steps of images, weakened to what follows from them.
use Rattle.std.proofs.Common.{◌≡◌, ◌≢◌, ℕ, List, Option, Some, None, refl}
use Rattle.sw_disk.specs.declared.part.Part.{Part}
use Rattle.sw_disk.specs.declared.part.Part.TheVariants.{Root, Left, Right}
use Rattle.sw_disk.specs.declared.disk.Disk.{Ghosts}
use Rattle.sw_disk.specs.Image.{Image, get, put}
use Rattle.sw_disk.specs.DiskRule.{ForTold, BothTold, Stepped}
use Rattle.sw_disk.specs.Meanings.{LeavesOnly, LeavesSteps}
use Rattle.sw_disk.proofs.Images.{told_some, told_at}
use Rattle.sw_disk.proofs.Moments.{weaker}
use Rattle.sw_journal.specs.Journal.{Since}

-- a part isn't changed where another one is put
pub get_other : (part other : Part) (bytes : List ℕ) (image : Image) → part ≢ other → get part (put other bytes image) ≡ get part image
get_other Root Root bytes image differs = absurd (differs refl)
get_other Root Left bytes image differs = refl
get_other Root Right bytes image differs = refl
get_other Left Root bytes image differs = refl
get_other Left Left bytes image differs = absurd (differs refl)
get_other Left Right bytes image differs = refl
get_other Right Root bytes image differs = refl
get_other Right Left bytes image differs = refl
get_other Right Right bytes image differs = absurd (differs refl)

pub became_so : (old new : Option Image) (R S : Image → Image → Type 0) → ((a b : Image) → old ≡ Some a → R a b → S a b) → BothTold old new R → BothTold old new S
became_so None None R S so became = tt
became_so None (Some b) R S so became = became
became_so (Some a) None R S so became = became
became_so (Some a) (Some b) R S so became = so a b refl became

module _ {D : Type 0} (disk : Ghosts D) (old new : D) (R S : Image → Image → Image → Type 0)
    (so : (image d c : Image) → disk.seen old ≡ Some image → disk.may_leave old d → R image d c → S image d c) where
  pub steps_so : LeavesSteps disk old new R → LeavesSteps disk old new S
  steps_so run =
      told_some (disk.seen old) (λ image. LeavesOnly disk old new (Stepped (S image) (disk.may_leave old))) (λ image is.
      weaker disk old new (Stepped (R image) (disk.may_leave old)) (Stepped (S image) (disk.may_leave old))
      (λ c from. (from.0, from.1, so image from.0 c is from.1 from.2))
      (told_at (disk.seen old) (λ image. LeavesOnly disk old new (Stepped (R image) (disk.may_leave old))) image is run))

  pub since_so : ForTold (disk.seen old) (λ image. Since disk old new (Stepped (R image) (disk.may_leave old))) → ForTold (disk.seen old) (λ image. Since disk old new (Stepped (S image) (disk.may_leave old)))
  since_so since =
      told_some (disk.seen old) (λ image. Since disk old new (Stepped (S image) (disk.may_leave old))) (λ image is going c left.
      let from = told_at (disk.seen old) (λ image. Since disk old new (Stepped (R image) (disk.may_leave old))) image is since going c left in
      (from.0, from.1, so image from.0 c is from.1 from.2))

pub told_after : (old new : Option Image) (R : Image → Image → Type 0) (Q : Image → Type 0) → ((a b : Image) → old ≡ Some a → new ≡ Some b → R a b → Q b) → BothTold old new R → ForTold new Q
told_after None None R Q so became = tt
told_after None (Some b) R Q so became = absurd became
told_after (Some a) None R Q so became = tt
told_after (Some a) (Some b) R Q so became = so a b refl refl became
