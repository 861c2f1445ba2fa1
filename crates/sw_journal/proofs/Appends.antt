-- What a part stands for while a record is added.
use Rattle.std.proofs.Common.{◌≡◌, inl, inr, ⊎_elim, ℕ, ◌+◌, ◌-◌, ◌^◌, ◌<◌, List, [], ◌∷◌, ◌++◌, length, take, drop, Option, Some, None, sym, ◌∙◌, ap, subst, arith, append_assoc, length-append}
use Rattle.std.proofs.lemmas.Bool.{cases_eq}
use Rattle.std.proofs.lemmas.List.{length-take-le}
use Rattle.sw_disk.specs.declared.part.Part.{Part}
use Rattle.sw_disk.specs.declared.disk.Disk.{Ghosts}
use Rattle.sw_disk.specs.Image.{Image, get}
use Rattle.sw_disk.specs.DiskRule.{ForTold, BothTold, OnPart, Puts, Only, Stepped, written}
use Rattle.sw_disk.specs.Meanings.{Becomes, IsDurable, LeavesOnly, LeavesSteps}
use Rattle.sw_disk.proofs.Images.{put-get, told_some, told_at, told_next}
use Rattle.sw_disk.proofs.Moments.{all_since}
use Rattle.sw_disk.proofs.Stages.{put_so, wider}
use Rattle.sw_journal.specs.Format.{Format, format_2, record_bytes, needed_length}
use Rattle.sw_journal.specs.Content.{IsPart}
use Rattle.sw_journal.specs.Journal.{JournalState, StandsIn, StandsFor, appended, HasMore, HasSameOrMore, Since}
use Rattle.sw_journal.specs.Gate.{HasBehind, IsTornRecord}
use Rattle.sw_journal.proofs.PartLemmas.{parts_at}
use Rattle.sw_journal.proofs.PartChanges.{gate_there, closed_still, closed_kept, opened_adds}

-- what stands behind the gate of a record
abbrev spelled : JournalState → List ℕ → List ℕ
spelled journal payload = record_bytes journal.format journal.count payload ++ 0 ∷ []

-- these bytes, behind this gate of this part, are what the journal appends
pub record IsAppend (journal : JournalState) (payload : List ℕ) (part : Part) (gate : ℕ) (bytes : List ℕ) : Type 0 where
  pub part_is : part ≡ journal.part
  pub gate_is : gate ≡ journal.gate
  pub bytes_are : bytes ≡ spelled journal payload
  pub second : journal.format ≡ format_2
  pub few : journal.count < 2 ^ 64
  pub short : length payload < 2 ^ 32

-- a journal that stands for a disk
module _ {D : Type 0} (disk : Ghosts D) (journal : JournalState) (start : D) (stands : StandsFor journal disk start) where
  stands_at : (image : Image) → disk.seen start ≡ Some image → StandsIn journal (get journal.part image) × ((c : Image) → disk.may_leave start c → StandsIn journal (get journal.part c))
  stands_at image is = told_at (disk.seen start) (λ image. StandsIn journal (get journal.part image) × ((c : Image) → disk.may_leave start c → StandsIn journal (get journal.part c))) image is stands

  module _ (payload : List ℕ) (only_now : (c : Image) → disk.clock start < 2 ^ 64 - 1 → disk.left_since start (disk.clock start) c → disk.may_leave start c) where
    -- what a crash might have left at the start has the same records
    pub since_entry : (end : D) → LeavesSteps disk start end (λ image. OnPart journal.part (HasSameOrMore journal payload))
        → ForTold (disk.seen start) (λ image. Since disk start end (Stepped (OnPart journal.part (HasSameOrMore journal payload)) (disk.may_leave start)))
    since_entry end run =
        let P = Stepped (OnPart journal.part (HasSameOrMore journal payload)) (disk.may_leave start) in
        told_some (disk.seen start) (λ image. Since disk start end P) (λ image is going.
        all_since disk start end P (λ c left. only_now c going left)
        (λ c was.
        let here = (stands_at image is).1 c was in
        (c, was, record { here = record { records = here.0; count = here.1; was = here.2; now = inl here.2 }; elsewhere = sym (put-get journal.part c) }))
        (told_at (disk.seen start) (λ image. LeavesOnly disk start end P) image is run))

    pub since_start : ForTold (disk.seen start) (λ image. Since disk start start (Stepped (OnPart journal.part (HasSameOrMore journal payload)) (disk.may_leave start)))
    since_start = since_entry start (grind (arith))

module _ {journal : JournalState} {payload : List ℕ} {part : Part} {gate : ℕ} {bytes : List ℕ} (it : IsAppend journal payload part gate bytes) where
  there : (P : Part → ℕ → List ℕ → Type 0) → P part gate bytes → P journal.part journal.gate (spelled journal payload)
  there P is = subst (λ p. P p journal.gate (spelled journal payload)) it.part_is (subst (λ g. P part g (spelled journal payload)) it.gate_is (subst (P part gate) it.bytes_are is))

  adds : (old new : List ℕ) (records : List (ℕ × List ℕ)) → length records ≡ journal.count → IsPart journal.format records journal.gate old → take journal.gate new ≡ take journal.gate old
      → (rest : List ℕ) → drop journal.gate new ≡ 1 ∷ (spelled journal payload ++ rest)
      → IsPart journal.format (records ++ (journal.gate, payload) ∷ []) (journal.gate + needed_length journal.format (length payload)) new
  adds old new records count was front rest behind =
      let there : drop journal.gate new ≡ 1 ∷ (record_bytes journal.format (length records) payload ++ (0 ∷ rest)) =
      behind ∙ ap (λ (l : List ℕ). 1 ∷ l) (append_assoc (record_bytes journal.format journal.count payload) (0 ∷ []) rest)
      ∙ ap (λ (n : ℕ). 1 ∷ (record_bytes journal.format n payload ++ (0 ∷ rest))) (sym count) in
      opened_adds journal.format (inr (ap (λ (f : Format). f.width) it.second)) records journal.gate old new was front payload 0 rest (omega (arith, it.few, count)) it.short (λ one. omega (arith, one)) there

  -- the record is added
  has_more : (old : List ℕ) → StandsIn journal old → HasMore journal payload old (written journal.gate (appended journal payload) old)
  has_more old stands =
      let new = written journal.gate (appended journal payload) old in
      let rest = drop (journal.gate + length (appended journal payload)) old in
      let size = length-take-le journal.gate old (omega (arith, gate_there journal.format stands.0 journal.gate old stands.2)) in
      let it = parts_at (take journal.gate old) (appended journal payload ++ rest) new journal.gate (append_assoc (take journal.gate old) (appended journal payload) rest) size in
      record { records = stands.0; count = stands.1; was = stands.2; now = adds old new stands.0 stands.1 stands.2 it.0 rest it.1 }

  -- the record may be torn, or the gate
  same_or_more : (old new : List ℕ) → StandsIn journal old → IsTornRecord journal.gate (spelled journal payload) old new → HasSameOrMore journal payload old new
  same_or_more old new stands torn = record {
    records = stands.0;
    count = stands.1;
    was = stands.2;
    now = ⊎_elim (λ kept. inl (closed_kept journal.format stands.0 journal.gate old new stands.2 kept)) (λ (behind : HasBehind journal.gate (spelled journal payload) old new). elim (cases_eq behind.byte 1) [
      | inl is_open ↦ inr (adds old new stands.0 stands.1 stands.2 behind.front behind.rest (behind.behind ∙ ap (λ (b : ℕ). b ∷ (spelled journal payload ++ behind.rest)) is_open))
      | inr shut ↦ inl (closed_still journal.format stands.0 journal.gate old new stands.2 behind.front behind.byte (spelled journal payload ++ behind.rest) shut behind.behind)
    ]) torn;
  }

  module _ {D : Type 0} (disk : Ghosts D) (start end : D) (stands : StandsFor journal disk start) where
    -- its gate is within the part
    pub inside : ForTold (disk.seen start) (λ image. gate < length (get part image))
    inside = told_some (disk.seen start) (λ image. gate < length (get part image)) (λ image is.
        let here = (stands_at disk journal start stands image is).0 in
        subst (λ p. gate < length (get p image)) (sym it.part_is) (subst (λ g. g < length (get journal.part image)) (sym it.gate_is) (gate_there journal.format here.0 journal.gate (get journal.part image) here.2)))

    pub any_moment : LeavesSteps disk start end (λ image. OnPart part (IsTornRecord gate bytes)) → LeavesSteps disk start end (λ image. OnPart journal.part (HasSameOrMore journal payload))
    any_moment run =
        wider disk start end (λ image. OnPart journal.part (IsTornRecord journal.gate (spelled journal payload))) (λ image. OnPart journal.part (HasSameOrMore journal payload))
        (λ image is a c left on. record { here = same_or_more (get journal.part a) (get journal.part c) ((stands_at disk journal start stands image is).1 a left) on.here; elsewhere = on.elsewhere })
        (there (λ p g b. LeavesSteps disk start end (λ image. OnPart p (IsTornRecord g b))) run)

    pub put_record : Becomes disk start end (Puts part (written gate (1 ∷ bytes))) → Becomes disk start end (Puts journal.part (written journal.gate (appended journal payload)))
    put_record became = there (λ p g b. Becomes disk start end (Puts p (written g (1 ∷ b)))) became

    pub added : Becomes disk start end (Puts journal.part (written journal.gate (appended journal payload))) → Becomes disk start end (OnPart journal.part (HasMore journal payload))
    added = put_so disk journal.part start end (written journal.gate (appended journal payload)) (HasMore journal payload) (λ image is. has_more (get journal.part image) (stands_at disk journal start stands image is).0)

    -- what reads give is all that a crash leaves
    pub acknowledged : ((c : Image) → disk.clock end < 2 ^ 64 - 1 → disk.left_since end (disk.clock end) c → disk.may_leave end c)
        → Becomes disk start end (OnPart journal.part (HasMore journal payload)) → IsDurable disk end
        → ForTold (disk.seen start) (λ image. Since disk end end (OnPart journal.part (HasMore journal payload) image))
    acknowledged only_now became durable =
        told_some (disk.seen start) (λ image. Since disk end end (OnPart journal.part (HasMore journal payload) image)) (λ image is going c left.
        let next = told_next (disk.seen start) (disk.seen end) (OnPart journal.part (HasMore journal payload)) image is became in
        let sure : Only next.0 (disk.may_leave end) = told_at (disk.seen end) (λ i. Only i (disk.may_leave end)) next.0 next.1 durable in
        subst (OnPart journal.part (HasMore journal payload) image) (sym (sure c (only_now c going left))) next.2)

-- the journal that counts the record stands for the disk
pub stands_more : {D : Type 0} (disk : Ghosts D) (start end : D) (journal next : JournalState) (payload : List ℕ) → next.part ≡ journal.part → next.format ≡ journal.format
    → next.gate ≡ journal.gate + needed_length journal.format (length payload) → next.count ≡ journal.count + 1
    → Becomes disk start end (OnPart journal.part (HasMore journal payload)) → IsDurable disk end → StandsFor next disk end
stands_more disk start end journal next payload part format gate count became durable = both (disk.seen start) (disk.seen end) became durable
  where
    here : (a b : Image) → OnPart journal.part (HasMore journal payload) a b → StandsIn next (get next.part b)
    here a b on =
        let more = on.here in
        subst (λ p. StandsIn next (get p b)) (sym part) (
          more.records ++ (journal.gate, payload) ∷ [],
          omega (arith, more.count, count, length-append more.records ((journal.gate, payload) ∷ [])),
          subst (λ f. IsPart f (more.records ++ (journal.gate, payload) ∷ []) next.gate (get journal.part b)) (sym format)
              (subst (λ g. IsPart journal.format (more.records ++ (journal.gate, payload) ∷ []) g (get journal.part b)) (sym gate) more.now),
        )

    both : (old new : Option Image) → BothTold old new (OnPart journal.part (HasMore journal payload)) → ForTold new (λ image. Only image (disk.may_leave end))
        → ForTold new (λ image. StandsIn next (get next.part image) × ((c : Image) → disk.may_leave end c → StandsIn next (get next.part c)))
    both None None became durable = tt
    both None (Some b) became durable = absurd became
    both (Some a) None became durable = absurd became
    both (Some a) (Some b) became durable = (here a b became, λ c left. subst (λ i. StandsIn next (get next.part i)) (sym (durable c left)) (here a b became))
