-- A generated recording that is run on a disk of its own.
use Rattle.std.specs.Prelude.{◌≡◌, ℕ, Bool, true, false, List, ◌++◌, length, codes, decimal, Ok}
use Rattle.std.specs.List.{sum_by}
use Rattle.sw_data.specs.declared.histories.Entry.{Entry}
use Rattle.sw_data.specs.declared.recordings.Recording.{Recording}
use Rattle.sw_disk.specs.Plain.{plain}
use Rattle.sw_disk.specs.declared.plain.PlainDisk.{PlainDisk}
use Rattle.sw_gen.specs.Generated.{generated}
use Rattle.sw_host.specs.Runs.{last_of, status_of}
use Rattle.sw_host.specs.declared.statuses.Status.{Status}
use Rattle.sw_print.specs.Transcript.{transcript}
use Rattle.sw_record.specs.Grammar.{recording_of}
use Rattle.sw_rules.specs.History.{after, mapped_registrations}
use Rattle.sw_rules.specs.Storage.{nothing}
use Rattle.sw_turns.specs.Ends.{Ended}
use Rattle.sw_turns.specs.declared.ends.DriveEnd.{DriveEnd}
use Rattle.sw_turns.specs.declared.ends.DriveEnd.TheVariants as drive_end

-- how many actions the lanes of a recording have
abbrev pub actions_in : Recording → ℕ
actions_in recording = sum_by length recording.lanes

-- the line that sums up a generated recording that was run
abbrev pub summary_text : (number size actions entries registrations caches : ℕ) → List ℕ
summary_text number size actions entries registrations caches =
    codes "gen " ++ decimal number ++ codes " " ++ decimal size ++ codes ": " ++ decimal actions ++ codes " actions "
    ++ decimal entries ++ codes " entries " ++ decimal registrations ++ codes " registrations " ++ decimal caches
    ++ codes " caches\n"

-- a run is done
abbrev pub is_done : DriveEnd → Bool
is_done drive_end.Done = true
is_done _ = false

-- a run was cut short by its disk, or by want of memory
abbrev pub is_cut_short : DriveEnd → Bool
is_cut_short (drive_end.DiskFault refused) = true
is_cut_short drive_end.NoMemory = true
is_cut_short _ = false

-- own: what is printed of a generated recording that was run to this end: where it is done, its actions, the length of its history,
-- and the mapped registrations and caches after it, and else its transcript; a fault of its disk is want of memory
abbrev pub IsPrinted : (number size : ℕ) → Recording → List Entry → DriveEnd → List ℕ → Type 0
IsPrinted number size recording history drive_end.Done text =
    text ≡ summary_text number size (actions_in recording) (length history)
    (mapped_registrations (after nothing history)) (length (after nothing history).caches)
IsPrinted number size recording history (drive_end.DiskFault refused) text = ⊥
IsPrinted number size recording history drive_end.NoMemory text = ⊥
IsPrinted number size recording history ended text = text ≡ transcript history (last_of ended)

-- own: the generated recording of this number and size was run by one worker, from nothing, on a disk in memory, to this status
pub record HasGenerated (number size : ℕ) (outcome : Status) (text : List ℕ) : Type 0 where
  pub recording : Recording
  pub history : List Entry
  pub ended : DriveEnd
  pub start : PlainDisk
  pub now : PlainDisk
  pub is_recording : recording_of (generated number size) ≡ Ok recording
  pub run : Ended plain start now 1 recording nothing history ended
  pub ends : outcome ≡ status_of ended
  pub printed : IsPrinted number size recording history ended text
