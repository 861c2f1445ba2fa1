-- What a disk becomes while its current part is formatted.
use Rattle.std.specs.Prelude.{◌≡◌, ◌⊎◌, length, []}
use Rattle.sw_disk.specs.Image.{Image, get}
use Rattle.sw_disk.specs.DiskRule.{OnPart}
use Rattle.sw_journal.specs.Content.{NotFormatted, Records}
use Rattle.sw_journal.specs.Init.{IsBegun}
use Rattle.sw_twin.specs.Current.{current, content_of}

-- own: the image stands for no record: its current part isn't formatted, or it is and has none
abbrev pub StandsForNone : Image → Type 0
StandsForNone image = (content_of image ≡ NotFormatted) ⊎ (content_of image ≡ Records [])

-- own: the first bytes of the part that is current by what reads gave are being written, or it has no record; the other
-- parts are as they were
abbrev pub IsBegunIn : Image → Image → Image → Type 0
IsBegunIn image = OnPart (current image) (IsBegun (length (get (current image) image)))
