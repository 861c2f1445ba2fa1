-- A disk that is formatted.
use Rattle.std.proofs.Common.{◌≡◌, [], None, refl, ap}
use Rattle.sw_disk.specs.declared.disk.Disk.{Ghosts}
use Rattle.sw_disk.specs.DiskRule.{ForTold, written}
use Rattle.sw_disk.specs.Image.{Image, get, put}
use Rattle.sw_disk.specs.Meanings.{Becomes, IsDurable}
use Rattle.sw_disk.proofs.Images.{told_at, told_some}
use Rattle.sw_host.specs.Stands.{IsFormatted}
use Rattle.sw_journal.specs.Content.{Records, content, content_by}
use Rattle.sw_journal.specs.Format.{format_of}
use Rattle.sw_journal.specs.Init.{first_bytes}
use Rattle.sw_kept.proofs.Appended.{told_after}
use Rattle.sw_kept.proofs.Contents.{keeps_made}
use Rattle.sw_kept.specs.Stored.{HasKept, Unformatted, made_by, stored, stored_of}
use Rattle.sw_rules.specs.Storage.{nothing}
use Rattle.sw_twin.specs.Current.{content_of, current}

-- an image whose current part has no header
unformatted : (image : Image) → format_of (get (current image) image) ≡ None → stored image ≡ Unformatted
unfolding content
unformatted image none = ap (λ found. stored_of (content_by found (get (current image) image))) none

-- an image without a record
empty : (image : Image) → content_of image ≡ Records [] → HasKept nothing image
unfolding made_by
empty image fresh = keeps_made nothing image [] fresh refl

pub formatted : {D : Type 0} (disk : Ghosts D) (old new : D)
    → ForTold (disk.seen old) (λ image. format_of (get (current image) image) ≡ None)
    → Becomes disk old new (λ before after. after ≡ put (current before) (written 0 first_bytes (get (current before) before)) before)
    → Becomes disk old new (λ before after. content_of after ≡ Records [])
    → IsDurable disk new → IsFormatted disk old new
formatted disk old new was bytes fresh durable = record {
  was =
      told_some (disk.seen old) (λ image. stored image ≡ Unformatted) (λ image is.
      unformatted image (told_at (disk.seen old) (λ image. format_of (get (current image) image) ≡ None) image is was));
  bytes = bytes;
  keeps = told_after (disk.seen old) (disk.seen new) (λ before after. content_of after ≡ Records []) (HasKept nothing) (λ a b is now. empty b now) fresh;
  durable = durable;
}
