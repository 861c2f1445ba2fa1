-- What a disk holds: the bytes of its three parts.
use Rattle.std.specs.Prelude.{ℕ, List}
use Rattle.sw_disk.specs.declared.part.Part.{Part}
use Rattle.sw_disk.specs.declared.part.Part.TheVariants.{Root, Left, Right}
use Rattle.sw_disk.specs.declared.part.Parts.{Parts}

-- own: what there is of one part
abbrev pub get : {T : Type 0} → Part → Parts T → T
get Root parts = parts.root
get Left parts = parts.left
get Right parts = parts.right

-- own: the same with this as one part, the other parts as they were
abbrev pub put : {T : Type 0} → Part → T → Parts T → Parts T
put Root x parts = record { root = x; left = parts.left; right = parts.right }
put Left x parts = record { root = parts.root; left = x; right = parts.right }
put Right x parts = record { root = parts.root; left = parts.left; right = x }

-- own: an image of a disk, the bytes of each part
abbrev pub Image : Type 0
Image = Parts (List ℕ)
