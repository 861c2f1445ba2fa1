-- A content that is written as a whole part, and what a disk keeps while it goes over to it.
use Rattle.std.proofs.Common.{◌≡◌, inl, inr, ℕ, ◌+◌, ◌<◌, ◌^◌, List, [], ◌∷◌, ◌++◌, length, All, Ok, Err, Result, refl, ◌∙◌, ap, arith, length-append}
use Rattle.std.proofs.lemmas.List.Elements.{All-cons, All-nil}
use Rattle.std.specs.Prelude.{IfOk}
use Rattle.sw_change.proofs.LawLemmas.{rebuilt}
use Rattle.sw_codec.proofs.LawLemmas.{read_again}
use Rattle.sw_data.specs.declared.storage.Change.{Change}
use Rattle.sw_data.specs.declared.storage.Kept.{Kept}
use Rattle.sw_disk.specs.declared.disk.Disk.{Ghosts}
use Rattle.sw_disk.specs.DiskRule.{ForTold, Stepped}
use Rattle.sw_disk.specs.Image.{Image}
use Rattle.sw_disk.specs.Meanings.{Becomes, IsDurable, LeavesOnly, LeavesSteps}
use Rattle.sw_disk.proofs.Images.{told_at, told_some}
use Rattle.sw_disk.proofs.Moments.{weaker}
use Rattle.sw_journal.specs.Content.{Records, content}
use Rattle.sw_journal.specs.Format.{format_2, needed_length, record_bytes}
use Rattle.sw_journal.specs.WholePart.{IsWhole, open_records, place_behind, placed}
use Rattle.sw_kept.proofs.Appended.{kept_left, keeps_durably, told_after}
use Rattle.sw_kept.proofs.Contents.{ok, same_kept}
use Rattle.sw_kept.specs.Keeping.{KeepsNow}
use Rattle.sw_kept.specs.Spelling.{IsContents, SpellEach, SpellsOne}
use Rattle.sw_kept.specs.Stored.{HasKept, Keeps, carried, kept_by, made_by, stored_of}
use Rattle.sw_rules.specs.Durable.{checkpoint_changes}
use Rattle.sw_rules.specs.Storage.{IsMade, kept_after, nothing}
use Rattle.sw_twin.specs.Current.{content_of}
use Rattle.sw_twin.specs.Twin.{KeepsOrHas, StandsFor, TwinState}

-- ---- the payloads of changes

-- one change and payload more
pub spell_more : (changes : List Change) (payloads : List (List ℕ)) (change : Change) (payload : List ℕ) → SpellEach changes payloads → SpellsOne change payload
    → SpellEach (changes ++ change ∷ []) (payloads ++ payload ∷ [])
spell_more [] [] change payload each one = (one, tt)
spell_more (first ∷ changes) (front ∷ payloads) change payload each one = (each.0, spell_more changes payloads change payload each.1 one)
spell_more [] (front ∷ payloads) change payload each one = absurd each
spell_more (first ∷ changes) [] change payload each one = absurd each

pub all_short : (changes : List Change) (payloads : List (List ℕ)) → SpellEach changes payloads → All (λ payload. length payload < 2 ^ 32) payloads
all_short [] [] each = All-nil _
all_short (first ∷ changes) (front ∷ payloads) each =
    All-cons (λ payload. length payload < 2 ^ 32) front payloads each.0.short (all_short changes payloads each.1)
all_short [] (front ∷ payloads) each = absurd each
all_short (first ∷ changes) [] each = absurd each

-- the records of these payloads carry the changes out
pub made_placed : (changes : List Change) (payloads : List (List ℕ)) (gate : ℕ) (kept : Kept) → SpellEach changes payloads
    → made_by kept (placed format_2 gate payloads) ≡ ok (kept_after kept changes)
unfolding made_by
made_placed [] [] gate kept each = refl
made_placed (first ∷ changes) (front ∷ payloads) gate kept each =
    let next = gate + needed_length format_2 (length front) in
    ap (carried kept gate (λ after. made_by after (placed format_2 next payloads))) (read_again (first ∷ []) front (λ is. cc is) each.0.spelled_is)
    ∙ made_placed changes payloads next (kept_after kept (first ∷ [])) each.1
made_placed [] (front ∷ payloads) gate kept each = absurd each
made_placed (first ∷ changes) [] gate kept each = absurd each

-- a whole part with these payloads keeps the content
pub keeps_whole : (kept : Kept) (payloads : List (List ℕ)) (part : List ℕ) → IsMade kept → SpellEach (checkpoint_changes kept) payloads → IsWhole payloads part
    → content part ≡ Records (placed format_2 16 payloads) → IsContents kept part
keeps_whole kept payloads part made each whole has = record {
  payloads = payloads;
  each = each;
  whole = whole;
  keeps = ap stored_of has ∙ ap kept_by (made_placed (checkpoint_changes kept) payloads 16 nothing each ∙ ap ok (rebuilt kept made));
}

-- open records reach from their first gate to the offset behind them
open_end : (number gate : ℕ) (payloads : List (List ℕ)) → gate + length (open_records format_2 number payloads) ≡ place_behind format_2 gate payloads
open_end number gate [] = omega arith
open_end number gate (payload ∷ payloads) =
    let rest = open_records format_2 (number + 1) payloads in
    omega (arith, open_end (number + 1) (gate + needed_length format_2 (length payload)) payloads, length-append (record_bytes format_2 number payload) rest)

-- a whole part ends with its closed gate
pub whole_end : (payloads : List (List ℕ)) (part : List ℕ) → IsWhole payloads part → place_behind format_2 16 payloads + 1 ≡ length part
whole_end payloads part is = omega (arith, open_end 0 16 payloads, ap length is.whole, length-append (open_records format_2 0 payloads) (0 ∷ []))

-- what follows from two things of a result
pub if_both : {X E : Type 0} (r : Result X E) (P Q R : X → Type 0) → ((x : X) → P x → Q x → R x) → IfOk r P → IfOk r Q → IfOk r R
if_both (Ok x) P Q R goes one other = goes x one other
if_both (Err why) P Q R goes one other = tt

-- ---- going over

module _ {D : Type 0} (twin : TwinState) (kept : Kept) (disk : Ghosts D) (start end : D) (keeps : KeepsNow twin kept disk start)
    (contents : List ℕ) (makes : stored_of (content contents) ≡ Keeps kept) where
  keeps_or_has : (old new : Image) → HasKept kept old → KeepsOrHas contents old new → HasKept kept new
  keeps_or_has old new has (inl same) = same_kept kept old new same has
  keeps_or_has old new has (inr is) = ap stored_of is ∙ makes

  pub keeps_over : (next : TwinState) → Becomes disk start end (λ old new. content_of new ≡ content contents) → IsDurable disk end → StandsFor next disk end → KeepsNow next kept disk end
  keeps_over next became durable stands =
      keeps_durably next kept disk end stands
      (told_after (disk.seen start) (disk.seen end) (λ old new. content_of new ≡ content contents) (HasKept kept) (λ a b is has. ap stored_of has ∙ makes) became)
      durable

  pub leaves_over : LeavesSteps disk start end (λ image. KeepsOrHas contents) → ForTold (disk.seen start) (λ image. LeavesOnly disk start end (HasKept kept))
  leaves_over run =
      told_some (disk.seen start) (λ image. LeavesOnly disk start end (HasKept kept)) (λ image is.
      weaker disk start end (Stepped (KeepsOrHas contents) (disk.may_leave start)) (HasKept kept)
      (λ c from. keeps_or_has from.0 c (kept_left twin kept disk start keeps image is from.0 from.1) from.2)
      (told_at (disk.seen start) (λ image. LeavesOnly disk start end (Stepped (KeepsOrHas contents) (disk.may_leave start))) image is run))
