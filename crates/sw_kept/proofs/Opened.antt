-- What a disk keeps that was opened.
use Rattle.std.proofs.Common.{◌≡◌, ℕ, List, Ok, Err, ◌∙◌, ap}
use Rattle.sw_data.specs.declared.storage.Kept.{Kept}
use Rattle.sw_disk.specs.declared.disk.Disk.{Ghosts}
use Rattle.sw_disk.specs.DiskRule.{ForTold}
use Rattle.sw_disk.proofs.Images.{told_at, told_some}
use Rattle.sw_journal.specs.Content.{BadAt, NotFormatted, Records}
use Rattle.sw_kept.specs.Stored.{HasKept, Bad, Unformatted, bad_by, kept_by, made_by, stored, stored_of}
use Rattle.sw_rules.specs.Storage.{nothing}
use Rattle.sw_twin.specs.Current.{content_of}

-- what is told of the content of an image is told of what it keeps
module _ {D : Type 0} (disk : Ghosts D) (old : D) where
  pub kept_told : (kept : Kept) (records : List (ℕ × List ℕ)) → made_by nothing records ≡ Ok kept → ForTold (disk.seen old) (λ image. content_of image ≡ Records records) → ForTold (disk.seen old) (HasKept kept)
  kept_told kept records makes told =
      told_some (disk.seen old) (HasKept kept) (λ image is.
      ap stored_of (told_at (disk.seen old) (λ image. content_of image ≡ Records records) image is told) ∙ ap kept_by makes)

  pub bad_told : (gate : ℕ) (records : List (ℕ × List ℕ)) → made_by nothing records ≡ Err gate → ForTold (disk.seen old) (λ image. content_of image ≡ Records records) → ForTold (disk.seen old) (λ image. stored image ≡ Bad gate)
  bad_told gate records makes told =
      told_some (disk.seen old) (λ image. stored image ≡ Bad gate) (λ image is.
      ap stored_of (told_at (disk.seen old) (λ image. content_of image ≡ Records records) image is told) ∙ ap kept_by makes)

  pub bad_before : (offset gate : ℕ) (before : List (ℕ × List ℕ)) → bad_by offset (made_by nothing before) ≡ Bad gate → ForTold (disk.seen old) (λ image. content_of image ≡ BadAt offset before) → ForTold (disk.seen old) (λ image. stored image ≡ Bad gate)
  bad_before offset gate before makes told =
      told_some (disk.seen old) (λ image. stored image ≡ Bad gate) (λ image is.
      ap stored_of (told_at (disk.seen old) (λ image. content_of image ≡ BadAt offset before) image is told) ∙ makes)

  pub unformatted_told : ForTold (disk.seen old) (λ image. content_of image ≡ NotFormatted) → ForTold (disk.seen old) (λ image. stored image ≡ Unformatted)
  unformatted_told told =
      told_some (disk.seen old) (λ image. stored image ≡ Unformatted) (λ image is.
      ap stored_of (told_at (disk.seen old) (λ image. content_of image ≡ NotFormatted) image is told))
