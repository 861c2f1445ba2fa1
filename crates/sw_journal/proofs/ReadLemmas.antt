-- What reading gives, and that it changes nothing.
use Rattle.std.proofs.Common.{◌≡◌, ℕ, ◌+◌, ◌-◌, ◌^◌, ◌<◌, ◌≤◌, List, ◌++◌, length, take, drop, Option, Some, None, Result, Ok, Err, refl, sym, ◌∙◌, subst, arith}
use Rattle.std.proofs.lemmas.List.{take_at, drop_at, take-append-le, length-take-le}
use Rattle.std.specs.Prelude.{IfOk}
use Rattle.sw_disk.specs.declared.disk.Disk.{Ghosts}
use Rattle.sw_disk.specs.Image.{Image}
use Rattle.sw_disk.specs.DiskRule.{ForTold, Only, Elapses}
use Rattle.sw_disk.proofs.Images.{told_some, told_at}
use Rattle.sw_disk.proofs.Moments.{both, weaker, all_since}
use Rattle.sw_journal.specs.Quiet.{LeavesAlone}
use Rattle.sw_journal.proofs.PartLemmas.{take_both}

module _ {D : Type 0} (disk : Ghosts D) where
  -- calls that change nothing, one after another
  pub quiet_then : (old mid new : D) → LeavesAlone disk old mid → LeavesAlone disk mid new → LeavesAlone disk old new
  quiet_then old mid new one two = record {
    same = two.same ∙ one.same;
    crash = λ c left. one.crash c (two.crash c left);
    moments = both disk old mid new (disk.may_leave old) one.moments (weaker disk mid new (disk.may_leave mid) (disk.may_leave old) one.crash two.moments);
    count = omega (arith, one.count, two.count);
  }

  -- since a sync that answered Ok a crash has left nothing but what reads give, as long as nothing is changed
  pub sure_since : (start synced end : D) → Elapses disk.clock disk.left_since disk.may_leave start synced → ForTold (disk.seen start) (λ image. Only image (disk.may_leave synced)) → LeavesAlone disk synced end
      → ((c : Image) → disk.clock synced < 2 ^ 64 - 1 → disk.left_since synced (disk.clock synced) c → disk.may_leave synced c)
      → ForTold (disk.seen start) (λ image. disk.clock start + 1 < 2 ^ 64 - 1 → (c : Image) → disk.left_since end (disk.clock start + 1) c → c ≡ image)
  sure_since start synced end time durable quiet only_now =
      told_some (disk.seen start) (λ image. disk.clock start + 1 < 2 ^ 64 - 1 → (c : Image) → disk.left_since end (disk.clock start + 1) c → c ≡ image) (λ image is going c left.
      let ticked : disk.clock start + 1 ≡ disk.clock synced = omega (arith, time.ticks, going) in
      told_at (disk.seen start) (λ i. Only i (disk.may_leave synced)) image is durable c
      (all_since disk synced end (disk.may_leave synced) (λ f was. only_now f (omega (arith, ticked, going)) was) (λ f was. was) quiet.moments c
      (subst (λ t. disk.left_since end t c) ticked left)))

-- what is known of an answer, where the disk tells
pub told_ok : {T E : Type 0} (seen : Option Image) (result : Result T E) (P Q : Image → T → Type 0) (R : T → Type 0)
    → ForTold seen (λ image. IfOk result (P image)) → IfOk result R → ((image : Image) (t : T) → seen ≡ Some image → R t → P image t → Q image t) → ForTold seen (λ image. IfOk result (Q image))
told_ok None result P Q R told known each = tt
told_ok (Some image) (Ok t) P Q R told known each = each image t refl known told
told_ok (Some image) (Err e) P Q R told known each = tt

-- what stands in a slice after n bytes were read into its end
pub read_into : (at n : ℕ) (part old into rest : List ℕ) → at ≤ length old → n ≤ length into → take at old ≡ take at part → take n into ≡ take n (drop at part)
    → take (at + n) (take at old ++ (into ++ rest)) ≡ take (at + n) part
read_into at n part old into rest fits few same read =
    let size = length-take-le at old fits in
    take_both at n (take at old ++ (into ++ rest))
    ∙ (λ i. take_at (take at old) (into ++ rest) at size i ++ take n (drop_at (take at old) (into ++ rest) at size i))
    ∙ (λ i. same i ++ (take-append-le n into rest few ∙ read) i)
    ∙ sym (take_both at n part)
