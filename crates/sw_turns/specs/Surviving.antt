-- What a crash at any moment leaves of a history, and when its entries were acknowledged.
use Rattle.std.specs.Prelude.{◌≡◌, ◌⊎◌, ◌<◌, ◌≤◌, ◌+◌, ◌*◌, ◌-◌, ◌^◌, ℕ, List, [], ◌∷◌, ◌++◌, length, take, Some, slice_get}
use Rattle.sw_data.specs.declared.histories.Entry.{Entry}
use Rattle.sw_data.specs.declared.storage.Kept.{Kept}
use Rattle.sw_disk.specs.declared.disk.Disk.{Ghosts}
use Rattle.sw_disk.specs.DiskRule.{ForTold, capped}
use Rattle.sw_disk.specs.Image.{Image}
use Rattle.sw_kept.specs.Keeping.{KeepsNow, StaysTold}
use Rattle.sw_kept.specs.Stored.{HasKept}
use Rattle.sw_laws.specs.Laws.{changes_of_history}
use Rattle.sw_rules.specs.History.{Stamped, changing}
use Rattle.sw_rules.specs.Restart.{restart}
use Rattle.sw_rules.specs.Storage.{kept_after}
use Rattle.sw_store.specs.Opened.{CanRestart}
use Rattle.sw_store.specs.Stores.{StoreState}

-- own: what the changes of a history make of its base
abbrev pub kept_of : Kept → List Entry → Kept
kept_of base history = kept_after base (changes_of_history base history)

-- own: an image keeps what the first entries of a history, at least so many, make of its base
pub record KeepsPrefix (base : Kept) (history : List Entry) (least : ℕ) (image : Image) : Type 0 where
  pub count : ℕ
  pub at_least : least ≤ count
  pub within : count ≤ length history
  pub keeps : HasKept (kept_of base (take count history)) image

-- own: the same; where a fault of the disk refused events, the image may keep the changes of the whole history and, behind them,
-- those of all refused events
abbrev pub IsLeftBy : Kept → List Entry → List Entry → ℕ → Image → Type 0
IsLeftBy base history [] least image = KeepsPrefix base history least image
IsLeftBy base history (first ∷ refused) least image =
    KeepsPrefix base history least image ⊎ HasKept (kept_of base (history ++ first ∷ refused)) image

-- own: what a crash leaves on a disk that was opened at the start: since one call after the start, what a prefix of the history
-- makes of its base; since any moment up to the start, that, or what might have been left at the start already; and since
-- the stamp of an entry, what a prefix makes that holds this entry
pub record Survives {D : Type 0} (disk : Ghosts D) (start now : D) (base : Kept) (history refused : List Entry) : Type 0 where
  pub any_moment : disk.clock start + 1 < 2 ^ 64 - 1 → (c : Image)
      → disk.left_since now (disk.clock start + 1) c → IsLeftBy base history refused 0 c
  pub at_entry : (t : ℕ) (c : Image) → t ≤ disk.clock start → disk.left_since now t c
      → disk.left_since start t c ⊎ (disk.may_leave start c ⊎ IsLeftBy base history refused 0 c)
  pub acknowledged : (k : ℕ) (entry : Entry) → slice_get history k ≡ Some entry → entry.stamp < 2 ^ 64 - 1 → (c : Image)
      → disk.left_since now entry.stamp c → IsLeftBy base history refused (k + 1) c

-- own: how late the last entry may be stamped: sixteen calls for each changing entry behind the restart
abbrev pub latest : Kept → List Entry → ℕ
latest base [] = 0
latest base (opening ∷ entries) = opening.stamp + 16 * changing (restart base) entries

-- own: a store at work on a disk: its history was acknowledged up to now, the disk keeps what that makes of the base, and so it
-- stays after a crash
pub record IsAtWork {D : Type 0} (disk : Ghosts D) (start now : D) (base : Kept) (history : List Entry) (store : StoreState) : Type 0 where
  pub told : StaysTold disk start now
  pub clock : disk.clock start ≤ disk.clock now
  pub calls : capped (disk.clock start + 4) ≤ disk.clock now
  pub faults : disk.faults start ≤ disk.faults now
  pub keeps : KeepsNow store.twin (kept_of base history) disk now
  pub opened : ForTold (disk.seen start) (CanRestart (2 ^ 32) base)
  pub survives : ForTold (disk.seen start) (λ image. Survives disk start now base history [])
  pub stamped : Stamped base (disk.clock start) (disk.clock now) history
  pub paced : disk.clock now ≤ latest base history
  pub limit : store.twin.journal.limit ≡ 2 ^ 32
