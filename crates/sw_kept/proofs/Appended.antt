-- What a disk keeps once changes were appended, and while they are.
use Rattle.std.proofs.Common.{◌≡◌, ◌⊎◌, inl, inr, ⊎_elim, ℕ, List, Option, Some, None, refl, Result, Ok, Err, sym, ◌∙◌, subst}
use Rattle.std.specs.Prelude.{OnOk}
use Rattle.sw_codec.proofs.LawLemmas.{read_again}
use Rattle.sw_codec.specs.Reading.{read_changes}
use Rattle.sw_data.specs.declared.storage.Change.{Change}
use Rattle.sw_data.specs.declared.storage.Kept.{Kept}
use Rattle.sw_disk.specs.declared.disk.Disk.{Ghosts}
use Rattle.sw_disk.specs.DiskRule.{BothTold, ForTold, Only, Stepped}
use Rattle.sw_disk.specs.Image.{Image}
use Rattle.sw_disk.specs.Meanings.{Becomes, IsDurable, LeavesOnly, LeavesSteps}
use Rattle.sw_disk.proofs.Images.{told_at, told_some}
use Rattle.sw_disk.proofs.Moments.{weaker}
use Rattle.sw_journal.specs.Journal.{Since}
use Rattle.sw_kept.specs.Keeping.{KeepsNow, LeavesEither, Spell, StaysTold}
use Rattle.sw_kept.specs.Stored.{HasKept}
use Rattle.sw_kept.proofs.Contents.{more_kept, same_kept}
use Rattle.sw_rules.specs.Storage.{kept_after}
use Rattle.sw_twin.specs.Twin.{HasMore, HasSameOrMore, StandsFor, TwinState}

-- what holds of what reads give after a change of it
pub told_after : (old new : Option Image) (R : Image → Image → Type 0) (Q : Image → Type 0) → ((a b : Image) → old ≡ Some a → R a b → Q b) → BothTold old new R → ForTold new Q
told_after None None R Q so became = tt
told_after None (Some b) R Q so became = absurd became
told_after (Some a) None R Q so became = tt
told_after (Some a) (Some b) R Q so became = so a b refl became

told_still : (old new : Option Image) (R : Image → Image → Type 0) → BothTold old new R → BothTold old new (λ before after. Unit {0})
told_still None None R became = tt
told_still None (Some b) R became = absurd became
told_still (Some a) None R became = absurd became
told_still (Some a) (Some b) R became = tt

-- a disk whose bytes became what is in some relation to them tells as before
pub stays_told : {D : Type 0} (disk : Ghosts D) (start end : D) (R : Image → Image → Type 0) → Becomes disk start end R → StaysTold disk start end
stays_told disk start end R became = told_still (disk.seen start) (disk.seen end) R became

-- what follows from three things that hold after Ok
pub ok_three : {T E : Type 0} (result : Result T E) (A B C P : Type 0) → (A → B → C → P) → OnOk result A → OnOk result B → OnOk result C → OnOk result P
ok_three (Ok value) A B C P so a b c = so a b c
ok_three (Err error) A B C P so a b c = tt

module _ {D : Type 0} (twin : TwinState) (kept : Kept) (disk : Ghosts D) (now : D) (keeps : KeepsNow twin kept disk now) (image : Image) (is : disk.seen now ≡ Some image) where
  both : HasKept kept image × ((c : Image) → disk.may_leave now c → HasKept kept c)
  both = told_at (disk.seen now) (λ image. HasKept kept image × ((c : Image) → disk.may_leave now c → HasKept kept c)) image is keeps.kept_is

  pub kept_seen : HasKept kept image
  kept_seen = both.0

  pub kept_left : (c : Image) → disk.may_leave now c → HasKept kept c
  kept_left = both.1

-- a disk whose reads give what keeps a content, and of which a crash leaves nothing else
pub keeps_durably : {D : Type 0} (twin : TwinState) (kept : Kept) (disk : Ghosts D) (now : D) → StandsFor twin disk now → ForTold (disk.seen now) (HasKept kept) → IsDurable disk now → KeepsNow twin kept disk now
keeps_durably twin kept disk now stands has durable = record {
  stands = stands;
  kept_is =
      told_some (disk.seen now) (λ image. HasKept kept image × ((c : Image) → disk.may_leave now c → HasKept kept c)) (λ image is.
      let here = told_at (disk.seen now) (HasKept kept) image is has in
      (here, λ c left. subst (HasKept kept) (sym (told_at (disk.seen now) (λ image. Only image (disk.may_leave now)) image is durable c left)) here));
}

module _ {D : Type 0} (twin : TwinState) (kept : Kept) (disk : Ghosts D) (start end : D) (keeps : KeepsNow twin kept disk start)
    (payload : List ℕ) (all : List Change) (spells : Spell all payload) where
  reads : read_changes payload ≡ Ok all
  reads = read_again all payload spells.some spells.spelled_is

  more : (old new : Image) → HasKept kept old → HasMore twin payload old new → HasKept (kept_after kept all) new
  more old new has on = more_kept kept old new on.records twin.journal.gate payload all on.was on.now reads has

  same_or_more : (old new : Image) → HasKept kept old → HasSameOrMore twin payload old new → HasKept kept new ⊎ HasKept (kept_after kept all) new
  same_or_more old new has on =
      ⊎_elim (λ same. inl (same_kept kept old new (same ∙ sym on.was) has))
      (λ longer. inr (more_kept kept old new on.records twin.journal.gate payload all on.was longer reads has)) on.now

  pub keeps_more : (next : TwinState) → Becomes disk start end (HasMore twin payload) → IsDurable disk end → StandsFor next disk end → KeepsNow next (kept_after kept all) disk end
  keeps_more next became durable stands =
      keeps_durably next (kept_after kept all) disk end stands
      (told_after (disk.seen start) (disk.seen end) (HasMore twin payload) (HasKept (kept_after kept all)) (λ a b is on. more a b (kept_seen twin kept disk start keeps a is) on) became)
      durable

  pub leaves_either : LeavesSteps disk start end (λ image. HasSameOrMore twin payload) → LeavesEither disk start end kept (kept_after kept all)
  leaves_either run =
      told_some (disk.seen start) (λ image. LeavesOnly disk start end (λ c. HasKept kept c ⊎ HasKept (kept_after kept all) c)) (λ image is.
      weaker disk start end (Stepped (HasSameOrMore twin payload) (disk.may_leave start)) (λ c. HasKept kept c ⊎ HasKept (kept_after kept all) c)
      (λ c from. same_or_more from.0 c (kept_left twin kept disk start keeps image is from.0 from.1) from.2)
      (told_at (disk.seen start) (λ image. LeavesOnly disk start end (Stepped (HasSameOrMore twin payload) (disk.may_leave start))) image is run))

  pub since_more : ForTold (disk.seen start) (λ image. Since disk end end (HasMore twin payload image)) → ForTold (disk.seen start) (λ image. Since disk end end (HasKept (kept_after kept all)))
  since_more since =
      told_some (disk.seen start) (λ image. Since disk end end (HasKept (kept_after kept all))) (λ image is going c left.
      more image c (kept_seen twin kept disk start keeps image is)
      (told_at (disk.seen start) (λ image. Since disk end end (HasMore twin payload image)) image is since going c left))
