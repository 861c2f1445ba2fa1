-- Which of its files a disk has.
use Rattle.std.specs.Prelude.{Bool, None}
use Rattle.std.specs.Option.{is_some}
use Rattle.sw_disk.specs.declared.part.Part.{Part}
use Rattle.sw_disk.specs.Image.{get}
use Rattle.sw_disk.specs.declared.disk.Disk.{Ghosts}
use Rattle.sw_disk.specs.declared.file.FileDisk.{FileDisk}

-- own: there is a file for a part
abbrev pub has_file : Part → FileDisk → Bool
has_file part disk = is_some (get part disk.files)

-- own: a part may have been written or cut since it was last synced
abbrev pub is_pending : Part → FileDisk → Bool
is_pending part disk = get part disk.pending

-- own: the meanings of a disk over files, which tells nothing
abbrev pub files : Ghosts FileDisk
files = record { seen = λ d. None; may_leave = λ d c. ⊥; left_since = λ d t c. ⊥; clock = λ d. d.clock; faults = λ d. d.faults }
