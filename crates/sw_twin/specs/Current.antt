-- Which part of a disk is current, and what an image stands for.
use Rattle.std.specs.Prelude.{ℕ, ◌+◌, ◌%◌, ◌==◌, List, [], ◌∷◌, if◌then◌else◌}
use Rattle.sw_disk.specs.declared.part.Part.{Part}
use Rattle.sw_disk.specs.declared.part.Part.TheVariants.{Left, Right}
use Rattle.sw_disk.specs.Image.{Image, get}
use Rattle.sw_journal.specs.Content.{Content, content}

-- own: how many bytes equal to 1 there are at the beginning, before the first other byte or the end
abbrev pub leading_ones : List ℕ → ℕ
leading_ones [] = 0
leading_ones (byte ∷ bytes) = if byte == 1 then leading_ones bytes + 1 else 0

-- own: the current part where Root begins with so many ones
abbrev pub part_at : ℕ → Part
part_at ones = if ones % 2 == 0 then Left else Right

-- own: the current part of an image, by the ones that Root begins with; so an empty Root means Left
abbrev pub current : Image → Part
current image = part_at (leading_ones image.root)

-- own: what an image stands for: what the bytes of its current part do
abbrev pub content_of : Image → Content
content_of image = content (get (current image) image)
