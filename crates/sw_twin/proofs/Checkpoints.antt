-- What an image stands for while another part is made the current one.
use Rattle.std.proofs.Common.{◌≡◌, ◌≢◌, inl, inr, ⊎_elim, ℕ, ◌+◌, ◌-◌, ◌^◌, ◌<◌, ◌≤◌, List, [], ◌∷◌, length, Some, refl, sym, ◌∙◌, ap, subst, arith}
use Rattle.std.specs.Prelude.{min}
use Rattle.sw_disk.specs.declared.part.Part.{Part}
use Rattle.sw_disk.specs.declared.part.Part.TheVariants.{Root}
use Rattle.sw_disk.specs.declared.disk.Disk.{Ghosts}
use Rattle.sw_disk.specs.Image.{Image, get, put}
use Rattle.sw_disk.specs.DiskRule.{ForTold, Only, Stepped, written}
use Rattle.sw_disk.specs.Meanings.{Becomes, IsDurable, LeavesOnly, LeavesSteps}
use Rattle.sw_disk.proofs.Images.{get-put, told_some, told_at, told_next}
use Rattle.sw_disk.proofs.Moments.{all_since}
use Rattle.sw_disk.proofs.Tears.{other_part}
use Rattle.sw_journal.specs.Content.{content}
use Rattle.sw_journal.specs.Journal as one
use Rattle.sw_journal.specs.Journal.{Since}
use Rattle.sw_twin.specs.Current.{leading_ones, part_at, content_of}
use Rattle.sw_twin.specs.Going.{Anything, IsGoingOver, WentOver}
use Rattle.sw_twin.specs.Twin.{TwinState, StandsIn, StandsFor, KeepsOrHas}
use Rattle.sw_twin.proofs.Changing.{get_other, became_so, told_after, steps_so}
use Rattle.sw_twin.proofs.Leading.{few_ones, one_more, not_root, turns, either_part}
use Rattle.sw_twin.proofs.Standing.{content_at, current_is, part_not_root, current_stays, stands_seen, stands_left}

-- a step of going over to the other part
module _ (twin : TwinState) (contents : List ℕ) (old new : Image) (stands : StandsIn twin old) where
  differs : part_at (twin.ones + 1) ≢ twin.journal.part
  differs same = turns twin.ones (sym (same ∙ stands.part))

  pub keeps_or_has : IsGoingOver (part_at (twin.ones + 1)) contents old new → KeepsOrHas contents old new
  keeps_or_has (inl on) =
      let part = part_at (twin.ones + 1) in
      inl (content_at twin.journal.part new (current_stays twin old stands part Anything new (not_root (twin.ones + 1)) on)
      ∙ ap content (other_part part twin.journal.part Anything old new differs on)
      ∙ sym (content_at twin.journal.part old (current_is twin old stands)))
  keeps_or_has (inr on) =
      let part = part_at (twin.ones + 1) in
      let here = twin.journal.part in
      let apart : here ≢ part = λ same. differs (sym same) in
      ⊎_elim
      (λ same. inl (content_at here new (same ∙ sym stands.part)
      ∙ ap content (other_part Root here Anything (put part contents old) new (λ root. part_not_root twin old stands (sym root)) on ∙ get_other here part contents old apart)
      ∙ sym (content_at here old (current_is twin old stands))))
      (λ turned. inr (content_at part new turned
      ∙ ap content (other_part Root part Anything (put part contents old) new (λ root. not_root (twin.ones + 1) (sym root)) on ∙ get-put part contents old)))
      (either_part (leading_ones new.root) twin.ones)

-- after it the twin of that part stands for the image
module _ (twin next : TwinState) (contents : List ℕ) (there : one.StandsIn next.journal contents) (part : next.journal.part ≡ part_at next.ones) (ones : next.ones ≡ twin.ones + 1)
    (old new : Image) (stands : StandsIn twin old) (went : WentOver next.journal.part contents twin.ones old new) where
  bytes : get next.journal.part new ≡ contents
  bytes =
      ap (get next.journal.part) went
      ∙ get_other next.journal.part Root (written twin.ones (1 ∷ 0 ∷ []) old.root) (put next.journal.part contents old) (λ root. not_root next.ones (sym part ∙ root))
      ∙ get-put next.journal.part contents old

  pub next_stands : StandsIn next new
  next_stands = record {
    ones = ap (λ (i : Image). leading_ones i.root) went ∙ one_more twin.ones old.root stands.ones ∙ sym ones;
    part = part;
    journal = subst (one.StandsIn next.journal) (sym bytes) there;
  }

  pub next_has : content_of new ≡ content contents
  next_has = content_at next.journal.part new (current_is next new next_stands) ∙ ap content bytes

module _ {D : Type 0} (twin : TwinState) (disk : Ghosts D) (start end : D) (stands : StandsFor twin disk start) (contents : List ℕ) where
  pub inside : ForTold (disk.seen start) (λ image. twin.ones ≤ length image.root)
  inside = told_some (disk.seen start) (λ image. twin.ones ≤ length image.root) (λ image is. omega (arith, few_ones image.root, (stands_seen twin disk start stands image is).ones))

  pub since_entry : ((c : Image) → disk.clock start < 2 ^ 64 - 1 → disk.left_since start (disk.clock start) c → disk.may_leave start c) → LeavesSteps disk start end (λ image. KeepsOrHas contents)
      → ForTold (disk.seen start) (λ image. Since disk start end (Stepped (KeepsOrHas contents) (disk.may_leave start)))
  since_entry only_now run =
      let P = Stepped (KeepsOrHas contents) (disk.may_leave start) in
      told_some (disk.seen start) (λ image. Since disk start end P) (λ image is going.
      all_since disk start end P (λ c left. only_now c going left) (λ c was. (c, was, inl refl)) (told_at (disk.seen start) (λ image. LeavesOnly disk start end P) image is run))

  -- the next number of ones doesn't pass its type
  module _ (bounded : ForTold (disk.seen start) (λ image. length (get Root image) < 2 ^ 63)) (ones : ℕ) (capped_is : ones ≡ min (twin.ones + 1) (2 ^ 64 - 1)) where
    one_more_is : (image : Image) → disk.seen start ≡ Some image → ones ≡ twin.ones + 1
    one_more_is image is =
        omega (arith, capped_is, few_ones image.root, (stands_seen twin disk start stands image is).ones, told_at (disk.seen start) (λ image. length (get Root image) < 2 ^ 63) image is bounded)

    pub any_moment : (part : Part) → part ≡ part_at ones → LeavesSteps disk start end (λ image. IsGoingOver part contents) → LeavesSteps disk start end (λ image. KeepsOrHas contents)
    any_moment part part_is =
        steps_so disk start end (λ image. IsGoingOver part contents) (λ image. KeepsOrHas contents)
        (λ image d c is left over. keeps_or_has twin contents d c (stands_left twin disk start stands image is d left)
        (subst (λ p. IsGoingOver p contents d c) (part_is ∙ ap part_at (one_more_is image is)) over))

    module _ (next : TwinState) (there : one.StandsIn next.journal contents) (part : next.journal.part ≡ part_at next.ones) (ones_are : next.ones ≡ ones)
        (became : Becomes disk start end (WentOver next.journal.part contents twin.ones)) where
      stands_at : (a b : Image) → disk.seen start ≡ Some a → WentOver next.journal.part contents twin.ones a b → StandsIn next b
      stands_at a b is went = next_stands twin next contents there part (ones_are ∙ one_more_is a is) a b (stands_seen twin disk start stands a is) went

      has_at : (a b : Image) → disk.seen start ≡ Some a → WentOver next.journal.part contents twin.ones a b → content_of b ≡ content contents
      has_at a b is went = next_has twin next contents there part (ones_are ∙ one_more_is a is) a b (stands_seen twin disk start stands a is) went

      pub has : Becomes disk start end (λ old new. content_of new ≡ content contents)
      has = became_so (disk.seen start) (disk.seen end) (WentOver next.journal.part contents twin.ones) (λ old new. content_of new ≡ content contents) has_at became

      pub stands_after : IsDurable disk end → StandsFor next disk end
      stands_after durable =
          told_after (disk.seen start) (disk.seen end) (WentOver next.journal.part contents twin.ones) (λ image. StandsIn next image × ((c : Image) → disk.may_leave end c → StandsIn next c))
          (λ a b is now went. (
            stands_at a b is went,
            λ c left. subst (StandsIn next) (sym (told_at (disk.seen end) (λ i. Only i (disk.may_leave end)) b now durable c left)) (stands_at a b is went),
          )) became

      pub acknowledged : ((c : Image) → disk.clock end < 2 ^ 64 - 1 → disk.left_since end (disk.clock end) c → disk.may_leave end c) → IsDurable disk end
          → ForTold (disk.seen start) (λ image. Since disk end end (λ c. content_of c ≡ content contents))
      acknowledged only_now durable =
          told_some (disk.seen start) (λ image. Since disk end end (λ c. content_of c ≡ content contents)) (λ image is going c left.
          let after = told_next (disk.seen start) (disk.seen end) (WentOver next.journal.part contents twin.ones) image is became in
          ap content_of (told_at (disk.seen end) (λ i. Only i (disk.may_leave end)) after.0 after.1 durable c (only_now c going left)) ∙ has_at image after.0 is after.2)
