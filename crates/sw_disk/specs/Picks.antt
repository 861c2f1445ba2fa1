-- The image that a crash leaves where the bytes in doubt are picked.
use Rattle.std.specs.Prelude.{ℕ, List, [], ◌∷◌, Bool, true, false, if◌then◌else◌}
use Rattle.sw_disk.specs.Image.{Image}
use Rattle.sw_disk.specs.declared.memory.part.MemoryPart.{MemoryPart}
use Rattle.sw_disk.specs.declared.part.Parts.{Parts}

-- own: the first pick, and 0 where these are used up
abbrev pub first_pick : List ℕ → ℕ
first_pick [] = 0
first_pick (pick ∷ picks) = pick

-- own: the picks after the first
abbrev pub later_picks : List ℕ → List ℕ
later_picks [] = []
later_picks (pick ∷ picks) = picks

-- own: the byte of the first place is in doubt: its mark says so, or there is none
abbrev pub in_doubt : List Bool → Bool
in_doubt [] = true
in_doubt (mark ∷ marks) = mark

-- own: the marks of the places after the first
abbrev pub later_marks : List Bool → List Bool
later_marks [] = []
later_marks (mark ∷ marks) = marks

-- own: the bytes of a part that was touched, those in doubt picked by rising place
abbrev pub picked : List Bool → List ℕ → List ℕ → List ℕ
picked marks [] picks = []
picked marks (byte ∷ bytes) picks =
    if in_doubt marks then first_pick picks ∷ picked (later_marks marks) bytes (later_picks picks) else byte ∷ picked (later_marks marks) bytes picks

-- own: the picks that they leave
abbrev pub picks_left : List Bool → List ℕ → List ℕ → List ℕ
picks_left marks [] picks = picks
picks_left marks (byte ∷ bytes) picks = picks_left (later_marks marks) bytes (if in_doubt marks then later_picks picks else picks)

-- own: the bytes of a part; one that wasn't touched has none in doubt
abbrev pub picked_of : Bool → List Bool → List ℕ → List ℕ → List ℕ
picked_of false marks bytes picks = bytes
picked_of true marks bytes picks = picked marks bytes picks

-- own: the picks that they leave
abbrev pub left_of : Bool → List Bool → List ℕ → List ℕ → List ℕ
left_of false marks bytes picks = picks
left_of true marks bytes picks = picks_left marks bytes picks

-- own: the bytes of one part of a disk
abbrev pub part_picked : MemoryPart → List ℕ → List ℕ
part_picked part picks = picked_of part.touched part.doubts.items part.bytes.items picks

-- own: the picks that they leave
abbrev pub part_left : MemoryPart → List ℕ → List ℕ
part_left part picks = left_of part.touched part.doubts.items part.bytes.items picks

-- own: the image, part by part in the order root, left, right
abbrev pub image_picked : Parts MemoryPart → List ℕ → Image
image_picked parts picks =
    record {
      root = part_picked parts.root picks;
      left = part_picked parts.left (part_left parts.root picks);
      right = part_picked parts.right (part_left parts.left (part_left parts.root picks));
    }
