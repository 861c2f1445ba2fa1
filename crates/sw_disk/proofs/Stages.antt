-- Two writes of one part, each of them synced, for the callers of a disk.
use Rattle.std.proofs.Common.{◌≡◌, ℕ, ◌-◌, ◌^◌, ◌<◌, List, length, Option, Some, None, refl, sym, ◌∙◌, ap, subst, arith}
use Rattle.sw_disk.specs.declared.part.Part.{Part}
use Rattle.sw_disk.specs.declared.disk.Disk.{Ghosts}
use Rattle.sw_disk.specs.Image.{Image, get, put}
use Rattle.sw_disk.specs.DiskRule.{ForTold, BothTold, OnPart, Puts, Torn, TornWrite, Stepped, Only}
use Rattle.sw_disk.specs.Meanings.{Becomes, IsDurable, LeavesOnly, LeavesSteps}
use Rattle.sw_disk.proofs.Moved.{still}
use Rattle.sw_disk.proofs.Moments.{both, weaker, all_since}
use Rattle.sw_disk.proofs.Images.{get-put, put-put, told_some, told_at, told_next, told_then, two_steps, done}

-- at every moment more comes by a step than by a narrower one
pub wider : {D : Type 0} (disk : Ghosts D) (old new : D) (step more : Image → Image → Image → Type 0)
    → ((image : Image) → disk.seen old ≡ Some image → (a c : Image) → disk.may_leave old a → step image a c → more image a c) → LeavesSteps disk old new step → LeavesSteps disk old new more
wider disk old new step more so run =
    told_some (disk.seen old) (λ image. LeavesOnly disk old new (Stepped (more image) (disk.may_leave old))) (λ image is.
    weaker disk old new (Stepped (step image) (disk.may_leave old)) (Stepped (more image) (disk.may_leave old)) (λ c from. (from.0, from.1, so image is from.0 c from.1 from.2))
    (told_at (disk.seen old) (λ image. LeavesOnly disk old new (Stepped (step image) (disk.may_leave old))) image is run))

module _ {D : Type 0} (disk : Ghosts D) (part : Part) where
  -- what was put stands in this relation to what was there
  pub put_so : (old new : D) (change : List ℕ → List ℕ) (step : List ℕ → List ℕ → Type 0) → ((image : Image) → disk.seen old ≡ Some image → step (get part image) (change (get part image)))
      → Becomes disk old new (Puts part change) → Becomes disk old new (OnPart part step)
  put_so old new change step so became =
      told_then (disk.seen old) (disk.seen new) (disk.seen new) (Puts part change) (λ a b. a ≡ b) (OnPart part step)
      (λ a b c is puts same. subst (OnPart part step a) same (done part step (change (get part a)) a b puts (so a is))) became (itself (disk.seen new))
    where
      itself : (seen : Option Image) → BothTold seen seen (λ a b. a ≡ b)
      itself None = tt
      itself (Some image) = refl

  -- two changes of the part are one
  pub put_twice : (start middle end : D) (first second both : List ℕ → List ℕ) → ((image : Image) → disk.seen start ≡ Some image → second (first (get part image)) ≡ both (get part image))
      → Becomes disk start middle (Puts part first) → Becomes disk middle end (Puts part second) → Becomes disk start end (Puts part both)
  put_twice start middle end first second both so =
      told_then (disk.seen start) (disk.seen middle) (disk.seen end) (Puts part first) (Puts part second) (Puts part both)
      (λ a b c is one two. two ∙ ap (λ (i : Image). put part (second (get part i)) i) one
      ∙ ap (λ (l : List ℕ). put part (second l) (put part (first (get part a)) a)) (get-put part (first (get part a)) a)
      ∙ put-put part (second (first (get part a))) (first (get part a)) a ∙ ap (λ (l : List ℕ). put part l a) (so a is))

  module _ (start middle end : D) (step : Image → List ℕ → List ℕ → Type 0) (at n : ℕ) where
    -- up to the end of the first, done or not
    pub first_write : ((image : Image) (old new : List ℕ) → Torn (length (get part image)) at n old new → step image old new)
        → LeavesSteps disk start middle (TornWrite part at n) → LeavesSteps disk start middle (λ image. OnPart part (step image))
    first_write so run =
        wider disk start middle (TornWrite part at n) (λ image. OnPart part (step image))
        (λ image is a c left torn. record { here = so image (get part a) (get part c) torn.here; elsewhere = torn.elsewhere }) run

  -- the second begins where the first is on the disk, and nothing else
  module _ (start middle end : D) (change : List ℕ → List ℕ) (at n : ℕ) (became : Becomes disk start middle (Puts part change)) (durable : IsDurable disk middle)
      (run : LeavesSteps disk middle end (TornWrite part at n)) (image : Image) (is : disk.seen start ≡ Some image)
      (late : List ℕ → Type 0) (so : (c : List ℕ) → Torn (length (change (get part image))) at n (change (get part image)) c → late c) where
    next : (next : Image) × (disk.seen middle ≡ Some next) × Puts part change image next
    next = told_next (disk.seen start) (disk.seen middle) (Puts part change) image is became

    sure : Only next.0 (disk.may_leave middle)
    sure = told_at (disk.seen middle) (λ i. Only i (disk.may_leave middle)) next.0 next.1 durable

    there : (c : Image) → OnPart part (Torn (length (get part next.0)) at n) next.0 c → OnPart part (λ a b. late b) image c
    there c torn =
        two_steps part (λ a b. b ≡ change (get part image)) (Torn (length (get part next.0)) at n) (λ a b. late b) image next.0 c
        (done part (λ a b. b ≡ change (get part image)) (change (get part image)) image next.0 next.2 refl) torn
        (λ made tears. so (get part c) (subst (λ l. Torn (length l) at n l (get part c)) made tears))

    pub second_write : LeavesOnly disk middle end (OnPart part (λ a b. late b) image)
    second_write =
        weaker disk middle end (Stepped (TornWrite part at n next.0) (disk.may_leave middle)) (OnPart part (λ a b. late b) image)
        (λ c from. there c (subst (λ d. OnPart part (Torn (length (get part next.0)) at n) d c) (sure from.0 from.1) from.2))
        (told_at (disk.seen middle) (λ i. LeavesOnly disk middle end (Stepped (TornWrite part at n i) (disk.may_leave middle))) next.0 next.1 run)

    -- since then
    pub since_first : ((c : Image) → disk.clock middle < 2 ^ 64 - 1 → disk.left_since middle (disk.clock middle) c → disk.may_leave middle c)
        → disk.clock middle < 2 ^ 64 - 1 → (c : Image) → disk.left_since end (disk.clock middle) c → OnPart part (λ a b. late b) image c
    since_first only_now going =
        all_since disk middle end (OnPart part (λ a b. late b) image) (λ c left. only_now c going left)
        (λ c left. there c (subst (λ i. OnPart part (Torn (length (get part next.0)) at n) next.0 i) (sym (sure c left)) (still part (Torn (length (get part next.0)) at n) (λ l. record { before = refl; behind = refl; no_shorter = omega arith }) next.0)))
        second_write

  -- up to the end of the second, done or not
  pub both_writes : (start middle end : D) (step : Image → List ℕ → List ℕ → Type 0) (at n : ℕ) (change : List ℕ → List ℕ) (at' n' : ℕ)
      → ((image : Image) (old new : List ℕ) → Torn (length (get part image)) at n old new → step image old new)
      → ((image : Image) → disk.seen start ≡ Some image → (c : List ℕ) → Torn (length (change (get part image))) at' n' (change (get part image)) c → step image (get part image) c)
      → ForTold (disk.seen start) (disk.may_leave start) → LeavesSteps disk start middle (TornWrite part at n) → Becomes disk start middle (Puts part change) → IsDurable disk middle
      → LeavesSteps disk middle end (TornWrite part at' n') → LeavesSteps disk start end (λ image. OnPart part (step image))
  both_writes start middle end step at n change at' n' one two shows first became durable second =
      told_some (disk.seen start) (λ image. LeavesOnly disk start end (Stepped (OnPart part (step image)) (disk.may_leave start))) (λ image is.
      let P = Stepped (OnPart part (step image)) (disk.may_leave start) in
      let was : disk.may_leave start image = told_at (disk.seen start) (disk.may_leave start) image is shows in
      let late : List ℕ → Type 0 = step image (get part image) in
      both disk start middle end P
      (told_at (disk.seen start) (λ i. LeavesOnly disk start middle (Stepped (OnPart part (step i)) (disk.may_leave start))) image is (first_write start middle end step at n one first))
      (weaker disk middle end (OnPart part (λ a b. late b) image) P (λ c on. (image, was, record { here = on.here; elsewhere = on.elsewhere }))
      (second_write start middle end change at' n' became durable second image is late (two image is))))
