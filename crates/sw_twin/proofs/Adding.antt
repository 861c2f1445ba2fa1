-- What a disk becomes while a record is added to the current part.
use Rattle.std.proofs.Common.{ℕ, List}
use Rattle.sw_disk.specs.declared.disk.Disk.{Ghosts}
use Rattle.sw_disk.specs.DiskRule.{ForTold, OnPart, Stepped}
use Rattle.sw_disk.specs.Meanings.{Becomes, LeavesSteps}
use Rattle.sw_disk.proofs.Images.{told_some, told_at}
use Rattle.sw_journal.specs.Journal as one
use Rattle.sw_journal.specs.Journal.{Since}
use Rattle.sw_twin.specs.Twin.{TwinState, StandsFor, HasMore, HasSameOrMore}
use Rattle.sw_twin.proofs.Changing.{became_so, steps_so, since_so}
use Rattle.sw_twin.proofs.Standing.{stands_seen, stands_left, has_more, has_same_or_more}

module _ {D : Type 0} (twin : TwinState) (disk : Ghosts D) (start end : D) (stands : StandsFor twin disk start) (payload : List ℕ) where
  pub added : Becomes disk start end (OnPart twin.journal.part (one.HasMore twin.journal payload)) → Becomes disk start end (HasMore twin payload)
  added = became_so (disk.seen start) (disk.seen end) (OnPart twin.journal.part (one.HasMore twin.journal payload)) (HasMore twin payload)
      (λ a b is on. has_more twin a (stands_seen twin disk start stands a is) payload b on)

  pub acknowledged : ForTold (disk.seen start) (λ image. Since disk end end (OnPart twin.journal.part (one.HasMore twin.journal payload) image)) → ForTold (disk.seen start) (λ image. Since disk end end (HasMore twin payload image))
  acknowledged since =
      told_some (disk.seen start) (λ image. Since disk end end (HasMore twin payload image)) (λ image is going c left.
      has_more twin image (stands_seen twin disk start stands image is) payload c
      (told_at (disk.seen start) (λ image. Since disk end end (OnPart twin.journal.part (one.HasMore twin.journal payload) image)) image is since going c left))

  pub any_moment : LeavesSteps disk start end (λ image. OnPart twin.journal.part (one.HasSameOrMore twin.journal payload)) → LeavesSteps disk start end (λ image. HasSameOrMore twin payload)
  any_moment = steps_so disk start end (λ image. OnPart twin.journal.part (one.HasSameOrMore twin.journal payload)) (λ image. HasSameOrMore twin payload)
      (λ image d c is left on. has_same_or_more twin d (stands_left twin disk start stands image is d left) payload c on)

  pub since_entry : ForTold (disk.seen start) (λ image. Since disk start end (Stepped (OnPart twin.journal.part (one.HasSameOrMore twin.journal payload)) (disk.may_leave start)))
      → ForTold (disk.seen start) (λ image. Since disk start end (Stepped (HasSameOrMore twin payload) (disk.may_leave start)))
  since_entry = since_so disk start end (λ image. OnPart twin.journal.part (one.HasSameOrMore twin.journal payload)) (λ image. HasSameOrMore twin payload)
      (λ image d c is left on. has_same_or_more twin d (stands_left twin disk start stands image is d left) payload c on)
