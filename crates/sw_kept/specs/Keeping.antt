-- What a disk keeps through its journal, now and at every moment.
use Rattle.std.specs.Prelude.{◌≡◌, ◌≢◌, ◌⊎◌, ℕ, List, [], Some}
use Rattle.sw_codec.specs.Spelling.{spelled_all}
use Rattle.sw_data.specs.declared.storage.Change.{Change}
use Rattle.sw_data.specs.declared.storage.Kept.{Kept}
use Rattle.sw_disk.specs.declared.disk.Disk.{Ghosts}
use Rattle.sw_disk.specs.DiskRule.{ForTold}
use Rattle.sw_disk.specs.Image.{Image}
use Rattle.sw_disk.specs.Meanings.{Becomes, LeavesOnly}
use Rattle.sw_kept.specs.Stored.{HasKept}
use Rattle.sw_twin.specs.Twin.{StandsFor, TwinState}

-- own: a disk that tells keeps this content, in what reads give and in every image that a crash now may leave, and the
-- journal stands for it
pub record KeepsNow {D : Type 0} (twin : TwinState) (kept : Kept) (disk : Ghosts D) (now : D) : Type 0 where
  pub stands : StandsFor twin disk now
  pub kept_is : ForTold (disk.seen now) (λ image. HasKept kept image × ((c : Image) → disk.may_leave now c → HasKept kept c))

-- own: between two states of a disk that tells, at every moment, a crash leaves nothing but what it might have left already
-- before the first, or what keeps one of these two contents
abbrev pub LeavesEither : {D : Type 0} → Ghosts D → (old new : D) → Kept → Kept → Type 0
LeavesEither disk old new kept other =
    ForTold (disk.seen old) (λ image. LeavesOnly disk old new (λ c. HasKept kept c ⊎ HasKept other c))

-- own: a disk that tells what reads give still tells it, and one that doesn't still doesn't
abbrev pub StaysTold : {D : Type 0} → Ghosts D → (old new : D) → Type 0
StaysTold disk old new = Becomes disk old new (λ before after. Unit {0})

-- own: these bytes spell these changes, of which there is at least one
pub record Spell (changes : List Change) (bytes : List ℕ) : Type 0 where
  pub some : changes ≢ []
  pub spelled_is : spelled_all changes ≡ Some bytes
