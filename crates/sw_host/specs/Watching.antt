-- A recording that is run with look-ups beside the lock: what is asked, and what is printed behind the transcript.
use Rattle.std.specs.Prelude.{◌≡◌, ◌≢◌, ◌+◌, ◌++◌, ℕ, List, [], ◌∷◌, codes, decimal, Option, Some, None, unwrap_or}
use Rattle.sw_data.specs.declared.histories.Entry.{Entry}
use Rattle.sw_data.specs.declared.recordings.Recording.{Recording}
use Rattle.sw_data.specs.declared.storage.Kept.{Kept}
use Rattle.sw_data.specs.Keys.{key_of}
use Rattle.sw_disk.specs.declared.disk.Disk.{Ghosts}
use Rattle.sw_host.specs.declared.statuses.Status.{Status}
use Rattle.sw_host.specs.declared.statuses.Status.TheVariants as status
use Rattle.sw_host.specs.Runs.{last_of, status_of}
use Rattle.sw_readers.specs.declared.inputs.LookLine.{LookLine}
use Rattle.sw_pool.specs.declared.looking.Asked.{Asked}
use Rattle.sw_pool.specs.Looks.{AreAnswers}
use Rattle.sw_print.specs.Transcript.{numbered, transcript}
use Rattle.sw_turns.specs.Ends.{Ended}
use Rattle.sw_turns.specs.declared.ends.DriveEnd.{DriveEnd}
use Rattle.sw_view.specs.declared.looker.Look.{Look}

-- own: what a line asks: the storage key of its address and partition, and the address. An address without a key, of which no line is
-- read, has the empty one
abbrev pub asked_of : LookLine → Asked
asked_of line = record { key = unwrap_or (key_of line.address line.partition) []; address = line.address }

-- own: what was found
abbrev pub found_text : Option ℕ → List ℕ
found_text (Some registration) = numbered (codes "r") registration
found_text None = codes "none"

-- own: the line of the look-up of this number
abbrev pub look_text : ℕ → Look → List ℕ
look_text number look =
    codes "look " ++ (decimal number ++ (codes " -> " ++ (found_text look.registration ++ (codes " at " ++ (decimal look.entries ++ codes "\n")))))

-- own: the lines of look-ups, the first of which has this number
abbrev pub looks_text : ℕ → List Look → List ℕ
looks_text number [] = []
looks_text number (look ∷ looks) = look_text number look ++ looks_text (number + 1) looks

-- own: a recording is run by so many workers on a disk to this status, as `EndsAs` says, with these look-ups beside the lock; behind the
-- transcript of its history the text has a line for each of them: the registration that the address matches after so many first entries
-- of this history, which never get fewer
pub record EndsWatched {D : Type 0} (disk : Ghosts D) (old new : D) (workers : ℕ) (recording : Recording) (asked : List Asked) (outcome : Status) (text : List ℕ) : Type 0 where
  pub base : Kept
  pub history : List Entry
  pub ended : DriveEnd
  pub looks : List Look
  pub run : Ended disk old new workers recording base history ended
  pub ends : outcome ≡ status_of ended
  pub some : outcome ≢ status.NoMemory
  pub answers : AreAnswers base history 0 asked looks
  pub printed : text ≡ transcript history (last_of ended) ++ looks_text 0 looks
