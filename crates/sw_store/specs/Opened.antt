-- A store that was just opened, and what a crash leaves while it is.
use Rattle.std.specs.Prelude.{◌≡◌, ◌≢◌, ◌⊎◌, ◌<◌, ◌≤◌, ◌+◌, ◌-◌, ◌^◌, ℕ, List, [], ◌∷◌, length, Result, Ok, Err}
use Rattle.sw_data.specs.declared.storage.Change.TheVariants as change
use Rattle.sw_data.specs.declared.storage.Kept.{Kept}
use Rattle.sw_data.specs.Faults.{Rose}
use Rattle.sw_disk.specs.declared.disk.Disk.{Ghosts}
use Rattle.sw_disk.specs.DiskRule.{ForTold, capped}
use Rattle.sw_disk.specs.Image.{Image}
use Rattle.sw_disk.specs.Meanings.{LeavesOnly}
use Rattle.sw_journal.specs.Format.{format_2, needed_length}
use Rattle.sw_journal.specs.Journal.{Since}
use Rattle.sw_kept.specs.Keeping.{KeepsNow, StaysTold}
use Rattle.sw_kept.specs.Spelling.{IsContents}
use Rattle.sw_kept.specs.Stored.{HasKept}
use Rattle.sw_rules.specs.Restart.{restart}
use Rattle.sw_rules.specs.Storage.{IsMade, kept_after}
use Rattle.sw_store.specs.declared.errors.OpenError.{OpenError}
use Rattle.sw_store.specs.declared.errors.OpenError.TheVariants as error
use Rattle.sw_store.specs.Stores.{WaitsForNothing, StoreState}
use Rattle.sw_twin.specs.Twin.{IsPastFirst, StandsIn, TwinState}
use Rattle.sw_state.specs.Hosted.{state_of}

-- the content that a restart makes of a content
abbrev pub kept_restarted : Kept → Kept
kept_restarted kept = kept_after kept (change.Restarted ∷ [])

-- own: the host is the restart of what was kept, nothing waits, and the growth is counted from here
pub record IsFresh (limit : ℕ) (store : StoreState) : Type 0 where
  pub made : IsMade store.base
  pub state : state_of store.core ≡ restart store.base
  pub quiet : WaitsForNothing store
  pub mark : store.mark ≡ store.twin.journal.gate + 1
  pub limit_is : store.twin.journal.limit ≡ limit

-- own: while an image is opened, a crash leaves it as it is, or one that keeps the same content, as it is or restarted
abbrev pub IsLeft : Image → Image → Type 0
IsLeft image c = (c ≡ image) ⊎ ((kept : Kept) × HasKept kept image × (HasKept kept c ⊎ HasKept (kept_restarted kept) c))

-- own: a restart from this content was noted: behind a part in the newer format its record alone, in the same part; a part in the
-- older one was written anew first; and it is within the limit
pub record HasNoted (base : Kept) (before after : TwinState) : Type 0 where
  pub appended : before.journal.format ≡ format_2
      → (after.ones ≡ before.ones) × (after.journal.gate ≡ before.journal.gate + needed_length format_2 1)
  pub anew : before.journal.format ≢ format_2
      → (contents : List ℕ) × IsContents base contents × (after.journal.gate + 1 ≡ length contents + needed_length format_2 1)
  pub fits : after.journal.gate + 1 ≤ after.journal.limit

-- own: the restart was noted on what this image has
pub record HasNotedOn (base : Kept) (after : TwinState) (image : Image) : Type 0 where
  pub before : TwinState
  pub stands : StandsIn before image
  pub noted : HasNoted base before after

-- own: an image keeps this content, and the record of its restart is within the limit: behind the next free offset of a part in the
-- newer format, or behind the contents that a part in the older one is written anew with
pub record CanRestart (limit : ℕ) (base : Kept) (image : Image) : Type 0 where
  pub kept : HasKept base image
  pub before : TwinState
  pub stands : StandsIn before image
  pub newer : before.journal.format ≡ format_2 → before.journal.gate + 1 + needed_length format_2 1 ≤ limit
  pub older : before.journal.format ≢ format_2
      → (contents : List ℕ) × IsContents base contents × (length contents + needed_length format_2 1 ≤ limit)

-- own: a disk was opened: the store's base is what it kept, it keeps that restarted, and a crash leaves one of these; but for
-- moments before the first call was over, when it may leave what it might have left before
pub record HasOpened {D : Type 0} (disk : Ghosts D) (old new : D) (store : StoreState) : Type 0 where
  pub kept : ForTold (disk.seen old) (HasKept store.base)
  pub noted : ForTold (disk.seen old) (HasNotedOn store.base store.twin)
  pub keeps : KeepsNow store.twin (kept_restarted store.base) disk new
  pub acknowledged : ForTold (disk.seen old) (λ image. Since disk new new (HasKept (kept_restarted store.base)))
  pub told : StaysTold disk old new
  pub any_moment : ForTold (disk.seen old) (λ image. LeavesOnly disk old new (λ c. disk.may_leave old c ⊎ IsLeft image c))
  pub first : ForTold (disk.seen old)
      (λ image. disk.clock old + 1 < 2 ^ 64 - 1 → (c : Image) → disk.left_since new (disk.clock old + 1) c → IsLeft image c)
  pub calls : capped (disk.clock old + 4) ≤ disk.clock new
  pub later : disk.clock old ≤ disk.clock new
  pub faults : disk.faults old ≤ disk.faults new

-- own: what a crash leaves where a disk was not opened to its end: at every moment what it might have left before, or what keeps
-- the same content, as it is or restarted; since one call after the entry nothing but the latter, where the first call didn't
-- fail: no fault was counted, or a call was made after it
pub record IsUnopened {D : Type 0} (disk : Ghosts D) (old new : D) : Type 0 where
  pub any_moment : ForTold (disk.seen old) (λ image. LeavesOnly disk old new (λ c. disk.may_leave old c ⊎ IsLeft image c))
  pub first : (Rose (disk.faults old) (disk.faults new) → IsPastFirst disk old new) → ForTold (disk.seen old)
      (λ image. disk.clock old + 1 < 2 ^ 64 - 1 → (c : Image) → disk.left_since new (disk.clock old + 1) c → IsLeft image c)

-- own: the record of a restart needs so much behind the next free offset that it passes the limit
pub record IsRestartTooLong (twin : TwinState) (from needed : ℕ) : Type 0 where
  pub format : twin.journal.format ≡ format_2
  pub offset : from ≡ twin.journal.gate + 1
  pub needs : needed ≡ needed_length format_2 1
  pub passes : twin.journal.limit < from + needed

-- own: what is kept is in the older format, and in the newer one it is so long that it passes the limit
pub record IsContentTooLong (kept : Kept) (twin : TwinState) (from needed : ℕ) : Type 0 where
  pub older : twin.journal.format ≢ format_2
  pub contents : List ℕ
  pub keeps : IsContents kept contents
  pub long : from ≡ length contents
  pub nothing : needed ≡ 0
  pub passes : twin.journal.limit < length contents

-- own: a disk, in what reads give, has no room for a restart, or for what it keeps in the newer format
pub record HasNoRoom {D : Type 0} (disk : Ghosts D) (now : D) (limit from needed : ℕ) : Type 0 where
  pub twin : TwinState
  pub kept : Kept
  pub keeps : KeepsNow twin kept disk now
  pub limit_is : twin.journal.limit ≡ limit
  pub why : IsRestartTooLong twin from needed ⊎ IsContentTooLong kept twin from needed

-- own: what a call refuses isn't that the disk is not formatted or bad
abbrev pub IsOpened : {T : Type 0} → Result T OpenError → Type 0
IsOpened (Ok value) = Unit {0}
IsOpened (Err error.NotFormatted) = ⊥
IsOpened (Err (error.BadJournal offset)) = ⊥
IsOpened (Err _) = Unit {0}
