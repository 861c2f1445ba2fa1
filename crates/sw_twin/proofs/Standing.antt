-- What an image stands for by the twin that stands for it, and while a record is added.
use Rattle.std.proofs.Common.{◌≡◌, ◌≢◌, inl, inr, ⊎_elim, ℕ, ◌+◌, List, [], ◌∷◌, ◌++◌, length, Some, sym, ◌∙◌, ap}
use Rattle.sw_disk.specs.declared.part.Part.{Part}
use Rattle.sw_disk.specs.declared.part.Part.TheVariants.{Root}
use Rattle.sw_disk.specs.declared.disk.Disk.{Ghosts}
use Rattle.sw_disk.specs.Image.{Image, get}
use Rattle.sw_disk.specs.DiskRule.{OnPart}
use Rattle.sw_disk.proofs.Images.{told_at}
use Rattle.sw_disk.proofs.Tears.{other_part}
use Rattle.sw_journal.specs.Content.{Records, content}
use Rattle.sw_journal.specs.Format.{format_2, needed_length}
use Rattle.sw_journal.specs.Init.{IsFormatted}
use Rattle.sw_journal.specs.Journal as one
use Rattle.sw_journal.proofs.PartChanges.{content-part}
use Rattle.sw_twin.specs.Current.{leading_ones, part_at, current, content_of}
use Rattle.sw_twin.specs.Twin.{TwinState, StandsIn, StandsFor, HasMore, HasSameOrMore}
use Rattle.sw_twin.proofs.Leading.{not_root}

module _ {D : Type 0} (twin : TwinState) (disk : Ghosts D) (now : D) (stands : StandsFor twin disk now) (image : Image) (is : disk.seen now ≡ Some image) where
  both : StandsIn twin image × ((c : Image) → disk.may_leave now c → StandsIn twin c)
  both = told_at (disk.seen now) (λ image. StandsIn twin image × ((c : Image) → disk.may_leave now c → StandsIn twin c)) image is stands

  pub stands_seen : StandsIn twin image
  stands_seen = both.0

  pub stands_left : (c : Image) → disk.may_leave now c → StandsIn twin c
  stands_left = both.1

-- what an image stands for, where its current part is known
pub content_at : (part : Part) (image : Image) → current image ≡ part → content_of image ≡ content (get part image)
content_at part image is = ap (λ (p : Part). content (get p image)) is

-- a part that isn't Root is formatted, and it is the current one
pub formatted_content : (part : Part) (old new : Image) → part ≢ Root → current old ≡ part → OnPart part IsFormatted old new → content_of new ≡ Records []
formatted_content part old new differs is on =
    content_at part new (ap (λ (r : List ℕ). part_at (leading_ones r)) (other_part part Root IsFormatted old new differs on) ∙ is) ∙ content-part format_2 [] 16 (get part new) on.here

module _ (twin : TwinState) (old : Image) (stands : StandsIn twin old) where
  pub current_is : current old ≡ twin.journal.part
  current_is = ap part_at stands.ones ∙ sym stands.part

  pub part_not_root : twin.journal.part ≢ Root
  part_not_root is = not_root twin.ones (sym stands.part ∙ is)

  -- where a part that isn't Root changes, the same part is current
  pub current_stays : (part : Part) (step : List ℕ → List ℕ → Type 0) (new : Image) → part ≢ Root → OnPart part step old new → current new ≡ twin.journal.part
  current_stays part step new differs on = ap (λ (r : List ℕ). part_at (leading_ones r)) (other_part part Root step old new differs on) ∙ current_is

  module _ (payload : List ℕ) (new : Image) where
    pub has_more : OnPart twin.journal.part (one.HasMore twin.journal payload) old new → HasMore twin payload old new
    has_more on =
        let j = twin.journal in
        let more = on.here in
        record {
          records = more.records;
          count = more.count;
          was = content_at j.part old current_is ∙ content-part j.format more.records j.gate (get j.part old) more.was;
          now = content_at j.part new (current_stays j.part (one.HasMore j payload) new part_not_root on)
              ∙ content-part j.format (more.records ++ (j.gate, payload) ∷ []) (j.gate + needed_length j.format (length payload)) (get j.part new) more.now;
          elsewhere = on.elsewhere;
        }

    pub has_same_or_more : OnPart twin.journal.part (one.HasSameOrMore twin.journal payload) old new → HasSameOrMore twin payload old new
    has_same_or_more on =
        let j = twin.journal in
        let more = on.here in
        let there = content_at j.part new (current_stays j.part (one.HasSameOrMore j payload) new part_not_root on) in
        record {
          records = more.records;
          count = more.count;
          was = content_at j.part old current_is ∙ content-part j.format more.records j.gate (get j.part old) more.was;
          now = ⊎_elim (λ same. inl (there ∙ content-part j.format more.records j.gate (get j.part new) same))
              (λ added. inr (there ∙ content-part j.format (more.records ++ (j.gate, payload) ∷ []) (j.gate + needed_length j.format (length payload)) (get j.part new) added)) more.now;
          elsewhere = on.elsewhere;
        }
