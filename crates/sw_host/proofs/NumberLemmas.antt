-- Of all commands `roster` and `quota` alone end for want of a number for an entry.
use Rattle.std.proofs.Common.{◌≡◌, ◌⊎◌, inl, inr, ℕ, List, Option, Some, None, Result, Ok, Err, refl, subst}
use Rattle.sw_audit.specs.declared.verdicts.Verdict.{Verdict}
use Rattle.sw_audit.specs.declared.verdicts.Verdict.TheVariants as verdict
use Rattle.sw_data.specs.declared.recordings.Recording.{Recording}
use Rattle.sw_data.specs.declared.storage.Kept.{Kept}
use Rattle.sw_disk.specs.declared.disk.Disk.{Ghosts}
use Rattle.sw_forms.specs.declared.error.RecordingError.{RecordingError}
use Rattle.sw_forms.specs.declared.error.RecordingError.TheVariants as error
use Rattle.sw_forms.specs.declared.limits.TheConstants.{RECORDING_LIMIT}
use Rattle.sw_host.specs.declared.command.Command.{Command}
use Rattle.sw_host.specs.declared.command.Command.TheVariants as command
use Rattle.sw_host.specs.declared.statuses.Status.{Status}
use Rattle.sw_host.specs.declared.statuses.Status.TheVariants as status
use Rattle.sw_host.specs.Reading.{IsUnread, ReadsThen, RefusedAs}
use Rattle.sw_host.specs.Runs.{status_of}
use Rattle.sw_host.specs.Stands.{Audits, AuditsDivided, AuditsParts, AuditsRead, Checks, IsAudited, IsChecked, IsShown, IsVerdict, ReadsKept, Replays, ReportedAs, Stands, WatchedAs, Watches}
use Rattle.sw_host.specs.Texts.{large_source_text, refusal_text}
use Rattle.sw_readers.specs.declared.inputs.ImportRecording.{ImportRecording}
use Rattle.sw_readers.specs.declared.inputs.WatchedRecording.{WatchedRecording}
use Rattle.sw_readers.specs.Division.{division}
use Rattle.sw_readers.specs.Imports.{imports_of}
use Rattle.sw_readers.specs.Watched.{watched_of}
use Rattle.sw_record.specs.Grammar.{recording_of}
use Rattle.sw_turns.specs.declared.ends.DriveEnd.{DriveEnd}
use Rattle.sw_turns.specs.declared.ends.DriveEnd.TheVariants as drive_end

-- no run ends so
unrun : (ended : DriveEnd) → status.NoEntryLeft ≡ status_of ended → ⊥
unrun drive_end.Done is = absurd cc
unrun (drive_end.Stalled lane) is = absurd cc
unrun (drive_end.DiskFault refused) is = absurd cc
unrun (drive_end.Full happened from needed) is = absurd cc
unrun drive_end.NoMemory is = absurd cc
unrun (drive_end.Spent spent) is = absurd cc

module _ (text : List ℕ) where
  -- no refusal of lines is so
  unrefused : (why : RecordingError) → RefusedAs why status.NoEntryLeft text → ⊥
  unrefused error.NoMemory refused = refused
  unrefused (error.BadLine line cause) refused = refused
  unrefused (error.TooLarge line passed) refused = refused

  unchecked : (what : Result ImportRecording RecordingError) → IsChecked what status.NoEntryLeft text → ⊥
  unchecked (Ok recording) (is, same) = absurd cc
  unchecked (Err why) refused = unrefused why refused

  unshown : (kept : Kept) → IsShown kept status.NoEntryLeft text → ⊥
  unshown kept (is, same) = absurd cc

  unsaid : (said : Verdict) → IsVerdict said status.NoEntryLeft text → ⊥
  unsaid (verdict.Yes entries) (is, same) = absurd cc
  unsaid verdict.No (is, same) = absurd cc

  unaudited : (recording : Recording) (transcript : List ℕ) (kept : Kept) → IsAudited recording transcript kept status.NoEntryLeft text → ⊥
  unaudited recording transcript kept (said, says, is) = unsaid said is

  module _ {D : Type 0} (disk : Ghosts D) (old new : D) where
    unkept : (Reports : Kept → Status → List ℕ → Type 0) → ((kept : Kept) → Reports kept status.NoEntryLeft text → ⊥)
        → ReadsKept disk old new Reports status.NoEntryLeft text → ⊥
    unkept Reports never (quiet, inl (kept, keeps, is)) = never kept is
    unkept Reports never (quiet, inr refused) = refused

    unreported : (workers : ℕ) (what : Result Recording RecordingError) → ReportedAs disk old new workers what status.NoEntryLeft text → ⊥
    unreported workers (Ok recording) (inl run) = unrun run.ended run.ends
    unreported workers (Ok recording) (inr refused) = refused
    unreported workers (Err why) refused = unrefused why refused.0

    unwatched : (workers : ℕ) (what : Result WatchedRecording RecordingError) → WatchedAs disk old new workers what status.NoEntryLeft text → ⊥
    unwatched workers (Ok watched) (inl run) = unrun run.ended run.ends
    unwatched workers (Ok watched) (inr refused) = refused
    unwatched workers (Err why) refused = unrefused why refused.0

    unread_with : (transcript : List ℕ) (what : Result Recording RecordingError) → AuditsRead disk old new transcript what status.NoEntryLeft text → ⊥
    unread_with transcript (Ok recording) is = unkept (IsAudited recording transcript) (unaudited recording transcript) is
    unread_with transcript (Err why) refused = unrefused why refused.0

    unparted : (recorded transcript : List ℕ) → AuditsParts disk old new recorded transcript status.NoEntryLeft text → ⊥
    unparted recorded transcript (inl (within, is)) = unread_with transcript (recording_of recorded) is
    unparted recorded transcript (inr (past, is, same, alone)) = absurd cc

    undivided : (parts : Option (List ℕ × List ℕ)) → AuditsDivided disk old new parts status.NoEntryLeft text → ⊥
    undivided (Some parts) is = unparted parts.0 parts.1 is
    undivided None (is, same, alone) = absurd cc

    module _ (left : Option (List ℕ)) (before now : ℕ) where
      unread : (limit : ℕ) (large : List ℕ) → IsUnread limit large left before now status.NoEntryLeft text → ⊥
      unread limit large (inl (is, rose, same)) = absurd cc
      unread limit large (inr (is, past, same)) = absurd cc

      neither : (limit : ℕ) (large : List ℕ) (Then : List ℕ → Status → List ℕ → Type 0) (Alone : Type 0) → ((bytes : List ℕ) → Then bytes status.NoEntryLeft text → ⊥)
          → ReadsThen limit large left before now Then Alone status.NoEntryLeft text → ⊥
      neither limit large Then Alone never (inl (bytes, read, is)) = never bytes is
      neither limit large Then Alone never (inr (is, alone)) = unread limit large is

      by_command : (wanted : Command) → Stands disk old new left before now wanted status.NoEntryLeft text
          → (wanted ≡ command.Roster) ⊎ ((limit : ℕ) × (wanted ≡ command.Quota limit))
      by_command command.Init stood = absurd stood.0
      by_command (command.Replay workers) stood =
          absurd (neither RECORDING_LIMIT (refusal_text status.TooLarge) (Replays disk old new workers) (new ≡ old)
          (λ bytes is. unreported workers (recording_of bytes) is) stood)
      by_command (command.Watch workers) stood =
          absurd (neither RECORDING_LIMIT (refusal_text status.TooLarge) (Watches disk old new workers) (new ≡ old)
          (λ bytes is. unwatched workers (watched_of bytes) is) stood)
      by_command (command.Quota limit) stood = inr (limit, refl)
      by_command command.Show stood = absurd (unkept IsShown unshown stood)
      by_command (command.Gen number size) stood = absurd (unrun stood.0.ended stood.0.ends)
      by_command command.Imports stood =
          absurd (neither RECORDING_LIMIT (refusal_text status.TooLarge) Checks (Unit {0}) (λ bytes is. unchecked (imports_of bytes) is) stood.0)
      by_command command.Audit stood =
          absurd (neither 67108864 large_source_text (Audits disk old new) (new ≡ old) (λ bytes is. undivided (division bytes) is) stood)
      by_command command.Roster stood = inl refl
      by_command command.Help (page, alone) = let is = page.0 in absurd cc
      by_command command.Version (page, alone) = let is = page.0 in absurd cc
      by_command command.Unknown (is, same, alone) = absurd cc

      pub of_entries : (wanted : Command) (outcome : Status) → outcome ≡ status.NoEntryLeft → Stands disk old new left before now wanted outcome text
          → (wanted ≡ command.Roster) ⊎ ((limit : ℕ) × (wanted ≡ command.Quota limit))
      of_entries wanted outcome is stood =
          by_command wanted (subst (λ (s : Status). Stands disk old new left before now wanted s text) is stood)
