-- What a run comes to before writing: when each status stands, with which text, and what it has done to the disk.
use Rattle.std.specs.Prelude.{◌≡◌, ◌⊎◌, ◌+◌, ◌≤◌, ◌<◌, ◌^◌, ◌++◌, ℕ, List, length, map, codes, decimal, IsSome, Option, Some, None, Result, Ok, Err}
use Rattle.sw_audit.specs.Accepted.{Says}
use Rattle.sw_audit.specs.declared.verdicts.Verdict.{Verdict}
use Rattle.sw_audit.specs.declared.verdicts.Verdict.TheVariants as verdict
use Rattle.sw_bucket.specs.declared.ends.BoundedEnd.{BoundedEnd}
use Rattle.sw_data.specs.declared.histories.Entry.{Entry}
use Rattle.sw_data.specs.declared.recordings.Recording.{Recording}
use Rattle.sw_data.specs.declared.storage.Kept.{Kept}
use Rattle.sw_data.specs.Faults.{Rose}
use Rattle.sw_disk.specs.declared.disk.Disk.{Ghosts}
use Rattle.sw_disk.specs.DiskRule.{ForTold, written}
use Rattle.sw_disk.specs.Image.{get, put}
use Rattle.sw_disk.specs.Meanings.{Becomes, IsDurable, LeavesSteps}
use Rattle.sw_host.specs.declared.command.Command.{Command}
use Rattle.sw_host.specs.declared.command.Command.TheVariants as command
use Rattle.sw_host.specs.declared.report.Report.{Report}
use Rattle.sw_host.specs.declared.statuses.Status.{Status}
use Rattle.sw_host.specs.declared.statuses.Status.TheVariants as status
use Rattle.sw_host.specs.Generating.{HasGenerated}
use Rattle.sw_host.specs.Reading.{IsRead, ReadsThen, RefusedAs}
use Rattle.sw_host.specs.Bounding.{EndedWithin, EndsBounded, bounded_text}
use Rattle.sw_host.specs.Runs.{EndsAs, last_of}
use Rattle.sw_host.specs.Watching.{EndsWatched, asked_of}
use Rattle.sw_host.specs.Texts.{bad_journal_text, help_text, large_source_text, refusal_text, version_text}
use Rattle.sw_import.specs.Checking as checking
use Rattle.sw_import.specs.Lines.{checks_text}
use Rattle.sw_readers.specs.declared.inputs.ImportRecording.{ImportRecording}
use Rattle.sw_readers.specs.declared.inputs.RosterRecording.{RosterRecording}
use Rattle.sw_readers.specs.declared.inputs.WatchedRecording.{WatchedRecording}
use Rattle.sw_journal.specs.Format.{format_of}
use Rattle.sw_journal.specs.Init.{FromSecondCall, first_bytes}
use Rattle.sw_journal.specs.Quiet.{LeavesAlone}
use Rattle.sw_kept.specs.Stored.{Bad, HasKept, Unformatted, stored}
use Rattle.sw_turns.specs.Ends.{Ended}
use Rattle.sw_turns.specs.declared.ends.DriveEnd.{DriveEnd}
use Rattle.sw_pool.specs.declared.looking.Asked.{Asked}
use Rattle.sw_print.specs.Showing.{shown}
use Rattle.sw_print.specs.Transcript.{transcript}
use Rattle.sw_forms.specs.declared.error.RecordingError.{RecordingError}
use Rattle.sw_forms.specs.declared.limits.TheConstants.{RECORDING_LIMIT}
use Rattle.sw_readers.specs.Division.{division}
use Rattle.sw_readers.specs.Imports.{imports_of}
use Rattle.sw_readers.specs.Roster.{roster_of}
use Rattle.sw_readers.specs.Watched.{watched_of}
use Rattle.sw_record.specs.Grammar.{recording_of}
use Rattle.sw_roster.specs.Beats.{HasRoster}
use Rattle.sw_roster.specs.Texts.{roster_text}
use Rattle.sw_roster.specs.declared.beats.Beat.{Beat}
use Rattle.sw_roster.specs.declared.beats.RosterEnd.{RosterEnd}
use Rattle.sw_roster.specs.declared.beats.RosterEnd.TheVariants as roster_end
use Rattle.sw_rules.specs.Storage.{IsMade, nothing}
use Rattle.sw_store.specs.declared.errors.OpenError.{OpenError}
use Rattle.sw_store.specs.declared.errors.OpenError.TheVariants as open_error
use Rattle.sw_store.specs.Opened.{HasNoRoom, IsUnopened}
use Rattle.sw_twin.specs.Current.{current, leading_ones}
use Rattle.sw_twin.specs.Init.{IsBegunIn, StandsForNone}

-- ---- a disk that is not opened

-- own: a disk is refused with this status and text
abbrev pub RefusesDisk : {D : Type 0} → Ghosts D → (old new : D) → Status → List ℕ → Type 0
RefusesDisk disk old new status.DiskFault text =
    (text ≡ refusal_text status.DiskFault) × Rose (disk.faults old) (disk.faults new) × IsUnopened disk old new
RefusesDisk disk old new status.NotFormatted text =
    (text ≡ refusal_text status.NotFormatted) × LeavesAlone disk old new
    × ForTold (disk.seen old) (λ image. stored image ≡ Unformatted)
RefusesDisk disk old new status.BadJournal text =
    (offset : ℕ) × (text ≡ bad_journal_text offset) × LeavesAlone disk old new
    × ForTold (disk.seen old) (λ image. stored image ≡ Bad offset)
RefusesDisk disk old new status.Full text =
    (text ≡ refusal_text status.Full) × IsUnopened disk old new
    × ((from needed : ℕ) × HasNoRoom disk new (2 ^ 32) from needed)
RefusesDisk disk old new _ text = ⊥

-- own: the status and the text of a refusal of the store
abbrev pub IsReportOf : OpenError → Report → Type 0
IsReportOf open_error.NoMemory report = ⊥
IsReportOf open_error.DiskFault report = report ≡ record { status = status.DiskFault; text = refusal_text status.DiskFault }
IsReportOf open_error.NotFormatted report = report ≡ record { status = status.NotFormatted; text = refusal_text status.NotFormatted }
IsReportOf (open_error.BadJournal offset) report = report ≡ record { status = status.BadJournal; text = bad_journal_text offset }
IsReportOf (open_error.Full from needed) report = report ≡ record { status = status.Full; text = refusal_text status.Full }

-- own: a recording is replayed by so many workers on a disk with this status and text: it is run, or the disk is refused
abbrev pub ReplaysOn : {D : Type 0} → Ghosts D → (old new : D) → ℕ → Recording → Status → List ℕ → Type 0
ReplaysOn disk old new workers recording outcome text =
    EndsAs disk old new workers recording outcome text ⊎ RefusesDisk disk old new outcome text

-- own: the same with these look-ups beside the lock
abbrev pub WatchesOn : {D : Type 0} → Ghosts D → (old new : D) → ℕ → Recording → List Asked → Status → List ℕ → Type 0
WatchesOn disk old new workers recording asked outcome text =
    EndsWatched disk old new workers recording asked outcome text ⊎ RefusesDisk disk old new outcome text

-- own: a recording is run under a limit on a disk with this status and text, or the disk is refused
abbrev pub BoundsOn : {D : Type 0} → Ghosts D → (old new : D) → ℕ → Recording → Status → List ℕ → Type 0
BoundsOn disk old new limit recording outcome text =
    EndsBounded disk old new limit recording outcome text ⊎ RefusesDisk disk old new outcome text

-- ---- bytes that were read

-- what was read is reported with this status and text; a disk on which no recording is run is left alone
abbrev pub ReportedAs : {D : Type 0} → Ghosts D → (old new : D) → ℕ → Result Recording RecordingError → Status → List ℕ → Type 0
ReportedAs disk old new workers (Ok recording) outcome text = ReplaysOn disk old new workers recording outcome text
ReportedAs disk old new workers (Err why) outcome text = RefusedAs why outcome text × (new ≡ old)

-- bytes are replayed by so many workers on a disk with this status and text
abbrev pub Replays : {D : Type 0} → Ghosts D → (old new : D) → ℕ → List ℕ → Status → List ℕ → Type 0
Replays disk old new workers bytes outcome text = ReportedAs disk old new workers (recording_of bytes) outcome text

-- the same of a recording with look-ups
abbrev pub WatchedAs : {D : Type 0} → Ghosts D → (old new : D) → ℕ → Result WatchedRecording RecordingError → Status → List ℕ → Type 0
WatchedAs disk old new workers (Ok watched) outcome text =
    WatchesOn disk old new workers watched.recording (map asked_of watched.looks) outcome text
WatchedAs disk old new workers (Err why) outcome text = RefusedAs why outcome text × (new ≡ old)

-- bytes are replayed with the look-ups among them by so many workers on a disk with this status and text
abbrev pub Watches : {D : Type 0} → Ghosts D → (old new : D) → ℕ → List ℕ → Status → List ℕ → Type 0
Watches disk old new workers bytes outcome text = WatchedAs disk old new workers (watched_of bytes) outcome text

-- the same of a recording that is run under a limit
abbrev pub BoundedAs : {D : Type 0} → Ghosts D → (old new : D) → ℕ → Result Recording RecordingError → Status → List ℕ → Type 0
BoundedAs disk old new limit (Ok recording) outcome text = BoundsOn disk old new limit recording outcome text
BoundedAs disk old new limit (Err why) outcome text = RefusedAs why outcome text × (new ≡ old)

-- bytes are run under a limit on a disk with this status and text
abbrev pub Bounds : {D : Type 0} → Ghosts D → (old new : D) → ℕ → List ℕ → Status → List ℕ → Type 0
Bounds disk old new limit bytes outcome text = BoundedAs disk old new limit (recording_of bytes) outcome text

-- ---- the commands

-- own: a recording was read and reported; or it was not read, and its disk is left alone
abbrev pub ReplaysSource : {D : Type 0} → Ghosts D → (old new : D) → ℕ → Option (List ℕ) → (before now : ℕ) → Status → List ℕ → Type 0
ReplaysSource disk old new workers left before now =
    ReadsThen RECORDING_LIMIT (refusal_text status.TooLarge) left before now (Replays disk old new workers) (new ≡ old)

-- own: the current part was no journal, and has the first bytes of one without a record, also after a crash
pub record IsFormatted {D : Type 0} (disk : Ghosts D) (old new : D) : Type 0 where
  pub was : ForTold (disk.seen old) (λ image. stored image ≡ Unformatted)
  pub bytes : Becomes disk old new (λ before after.
      after ≡ put (current before) (written 0 first_bytes (get (current before) before)) before)
  pub keeps : ForTold (disk.seen new) (HasKept nothing)
  pub durable : IsDurable disk new

-- own: the current part begins with the header of a format
abbrev pub IsAlready : {D : Type 0} → Ghosts D → D → Type 0
IsAlready disk old = ForTold (disk.seen old) (λ image. IsSome (format_of (get (current image) image)))

-- own: a disk whose current part begins with the header of a format is left as it is
abbrev pub IsLeftAlone : {D : Type 0} → Ghosts D → (old new : D) → Type 0
IsLeftAlone disk old new =
    ForTold (disk.seen old) (λ image. IsSome (format_of (get (current image) image)) → LeavesAlone disk old new)

-- own: what a crash leaves while a disk is formatted, whatever comes of that: at every moment the current part with its first
-- bytes torn, or without a record, and the other parts as it might have left them before; and from the first sync that doesn't fail
-- on no record
pub record LeavesOthers {D : Type 0} (disk : Ghosts D) (old new : D) : Type 0 where
  pub any_moment : LeavesSteps disk old new IsBegunIn
  pub synced : ForTold (disk.seen old) (λ image. FromSecondCall disk (leading_ones image.root + 17) old new StandsForNone)

-- own: the disk is formatted with this status and text
abbrev pub Formats : {D : Type 0} → Ghosts D → (old new : D) → Status → List ℕ → Type 0
Formats disk old new status.Done text = (text ≡ codes "formatted\n") × IsFormatted disk old new
Formats disk old new status.DiskFault text =
    (text ≡ refusal_text status.DiskFault) × Rose (disk.faults old) (disk.faults new) × IsLeftAlone disk old new
Formats disk old new status.AlreadyFormatted text =
    (text ≡ refusal_text status.AlreadyFormatted) × LeavesAlone disk old new × IsAlready disk old
Formats disk old new _ text = ⊥

-- own: a disk that is read alone is refused with this status and text
abbrev pub RefusesToRead : {D : Type 0} → Ghosts D → (old new : D) → Status → List ℕ → Type 0
RefusesToRead disk old new status.DiskFault text =
    (text ≡ refusal_text status.DiskFault) × Rose (disk.faults old) (disk.faults new)
RefusesToRead disk old new status.NotFormatted text =
    (text ≡ refusal_text status.NotFormatted) × ForTold (disk.seen old) (λ image. stored image ≡ Unformatted)
RefusesToRead disk old new status.BadJournal text =
    (offset : ℕ) × (text ≡ bad_journal_text offset) × ForTold (disk.seen old) (λ image. stored image ≡ Bad offset)
RefusesToRead disk old new _ text = ⊥

-- own: the disk keeps this, which changes made from nothing
abbrev pub Keeps : {D : Type 0} → Ghosts D → D → Kept → Type 0
Keeps disk old kept = IsMade kept × ForTold (disk.seen old) (HasKept kept)

-- own: nothing is written, and what the disk keeps is reported with this status and text, or the disk is refused
abbrev pub ReadsKept : {D : Type 0} → Ghosts D → (old new : D) → (Kept → Status → List ℕ → Type 0) → Status → List ℕ → Type 0
ReadsKept disk old new Reports outcome text =
    LeavesAlone disk old new
    × (((kept : Kept) × Keeps disk old kept × Reports kept outcome text) ⊎ RefusesToRead disk old new outcome text)

-- what is kept is shown
abbrev pub IsShown : Kept → Status → List ℕ → Type 0
IsShown kept outcome text = (outcome ≡ status.Done) × (text ≡ shown kept)

-- own: what the disk keeps is shown with this status and text, and nothing is written
abbrev pub Shows : {D : Type 0} → Ghosts D → (old new : D) → Status → List ℕ → Type 0
Shows disk old new = ReadsKept disk old new IsShown

-- the status and the text of a verdict
abbrev pub IsVerdict : Verdict → Status → List ℕ → Type 0
IsVerdict (verdict.Yes entries) outcome text =
    (outcome ≡ status.Done) × (text ≡ codes "audit yes " ++ decimal entries ++ codes " entries\n")
IsVerdict verdict.No outcome text = (outcome ≡ status.Refuted) × (text ≡ refusal_text status.Refuted)

-- own: a verdict that is right on a recording and a transcript, of a host that has kept this, is reported
abbrev pub IsAudited : Recording → List ℕ → Kept → Status → List ℕ → Type 0
IsAudited recording transcript kept outcome text =
    (said : Verdict) × Says kept recording transcript said × IsVerdict said outcome text

-- own: a transcript is audited with what is left of the source, or that is refused; of a disk nothing is written
abbrev pub AuditsRead : {D : Type 0} → Ghosts D → (old new : D) → List ℕ → Result Recording RecordingError → Status → List ℕ → Type 0
AuditsRead disk old new transcript (Ok recording) outcome text =
    ReadsKept disk old new (IsAudited recording transcript) outcome text
AuditsRead disk old new transcript (Err why) outcome text = RefusedAs why outcome text × (new ≡ old)

-- own: the same of the bytes of a recording and a transcript; more bytes than a recording may have are none
abbrev pub AuditsParts : {D : Type 0} → Ghosts D → (old new : D) → (recorded transcript : List ℕ) → Status → List ℕ → Type 0
AuditsParts disk old new recorded transcript outcome text =
    ((length recorded ≤ RECORDING_LIMIT) × AuditsRead disk old new transcript (recording_of recorded) outcome text)
    ⊎ ((RECORDING_LIMIT < length recorded) × (outcome ≡ status.TooLarge) × (text ≡ refusal_text status.TooLarge) × (new ≡ old))

-- own: the same of the source's bytes, which a line divides
abbrev pub AuditsDivided : {D : Type 0} → Ghosts D → (old new : D) → Option (List ℕ × List ℕ) → Status → List ℕ → Type 0
AuditsDivided disk old new (Some parts) outcome text = AuditsParts disk old new parts.0 parts.1 outcome text
AuditsDivided disk old new None outcome text =
    (outcome ≡ status.NoTranscript) × (text ≡ refusal_text status.NoTranscript) × (new ≡ old)

abbrev pub Audits : {D : Type 0} → Ghosts D → (old new : D) → List ℕ → Status → List ℕ → Type 0
Audits disk old new bytes outcome text = AuditsDivided disk old new (division bytes) outcome text

-- own: the scripts that a recording names are checked, in order
abbrev pub IsChecked : Result ImportRecording RecordingError → Status → List ℕ → Type 0
IsChecked (Ok recording) outcome text = (outcome ≡ status.Done) × (text ≡ checks_text recording.fetches checking.nothing recording.checks)
IsChecked (Err why) outcome text = RefusedAs why outcome text

abbrev pub Checks : List ℕ → Status → List ℕ → Type 0
Checks bytes outcome text = IsChecked (imports_of bytes) outcome text

-- the status of how the lines of a roster have ended
abbrev pub roster_status : RosterEnd → Status
roster_status roster_end.Done = status.Done
roster_status roster_end.Stalled = status.Stalled
roster_status roster_end.Spent = status.NoEntryLeft

-- own: the lines of a roster were played from no content, and the status and the text are those of what has come
pub record IsPlayed (recording : RosterRecording) (outcome : Status) (text : List ℕ) : Type 0 where
  pub beats : List Beat
  pub over : RosterEnd
  pub played : HasRoster recording.fetches recording.lines beats over
  pub ends : outcome ≡ roster_status over
  pub printed : text ≡ roster_text beats over

-- own: the lines of a roster are played, in order
abbrev pub IsRoster : Result RosterRecording RecordingError → Status → List ℕ → Type 0
IsRoster (Ok recording) outcome text = IsPlayed recording outcome text
IsRoster (Err why) outcome text = RefusedAs why outcome text

abbrev pub Plays : List ℕ → Status → List ℕ → Type 0
Plays bytes outcome text = IsRoster (roster_of bytes) outcome text

-- own: a page on the program itself is printed
abbrev pub IsPage : List ℕ → Status → List ℕ → Type 0
IsPage page outcome text = (outcome ≡ status.Done) × (text ≡ page)

-- own: statuses that stand only once the source was read to its end
abbrev pub HasReadAll : Status → Type 0
HasReadAll status.Done = Unit {0}
HasReadAll status.BadLine = Unit {0}
HasReadAll status.DiskFault = Unit {0}
HasReadAll status.NotFormatted = Unit {0}
HasReadAll status.BadJournal = Unit {0}
HasReadAll status.Stalled = Unit {0}
HasReadAll status.Full = Unit {0}
HasReadAll (status.Spent spent) = Unit {0}
HasReadAll status.Refuted = Unit {0}
HasReadAll status.NoTranscript = Unit {0}
HasReadAll status.NoEntryLeft = Unit {0}
HasReadAll _ = ⊥

-- before writing, this status stands with this text: the source had these bytes left, its count of faults went from before to
-- now, and the disk went from old to new
abbrev pub Stands : {D : Type 0} → Ghosts D → (old new : D) → Option (List ℕ) → (before now : ℕ) → Command → Status → List ℕ → Type 0
Stands disk old new left before now command.Init outcome text = Formats disk old new outcome text × LeavesOthers disk old new
Stands disk old new left before now (command.Replay workers) outcome text =
    ReplaysSource disk old new workers left before now outcome text
Stands disk old new left before now (command.Watch workers) outcome text =
    ReadsThen RECORDING_LIMIT (refusal_text status.TooLarge) left before now (Watches disk old new workers) (new ≡ old) outcome text
Stands disk old new left before now (command.Quota limit) outcome text =
    ReadsThen RECORDING_LIMIT (refusal_text status.TooLarge) left before now (Bounds disk old new limit) (new ≡ old) outcome text
Stands disk old new left before now command.Show outcome text = Shows disk old new outcome text
Stands disk old new left before now (command.Gen number size) outcome text =
    HasGenerated number size outcome text × (new ≡ old)
Stands disk old new left before now command.Imports outcome text =
    ReadsThen RECORDING_LIMIT (refusal_text status.TooLarge) left before now Checks (Unit {0}) outcome text × (new ≡ old)
Stands disk old new left before now command.Audit outcome text =
    ReadsThen 67108864 large_source_text left before now (Audits disk old new) (new ≡ old) outcome text
Stands disk old new left before now command.Roster outcome text =
    ReadsThen RECORDING_LIMIT (refusal_text status.TooLarge) left before now Plays (Unit {0}) outcome text × (new ≡ old)
Stands disk old new left before now command.Help outcome text = IsPage help_text outcome text × (new ≡ old)
Stands disk old new left before now command.Version outcome text = IsPage version_text outcome text × (new ≡ old)
Stands disk old new left before now command.Unknown outcome text =
    (outcome ≡ status.BadWords) × (text ≡ refusal_text status.BadWords) × (new ≡ old)

-- own: where there was no memory, a recording has left a disk that was not opened to its end, or on which some run was made
abbrev pub IsLeftAfter : {D : Type 0} → Ghosts D → (old new : D) → ℕ → Recording → Type 0
IsLeftAfter disk old new workers recording =
    IsUnopened disk old new
    ⊎ ((base : Kept) × (history : List Entry) × (ended : DriveEnd) × Ended disk old new workers recording base history ended)

-- own: the same of bytes: the disk is left alone, or they are a recording
abbrev pub LeavesAfterBytes : {D : Type 0} → Ghosts D → (old new : D) → ℕ → List ℕ → Type 0
LeavesAfterBytes disk old new workers bytes =
    (new ≡ old) ⊎ ((recording : Recording) × (recording_of bytes ≡ Ok recording) × IsLeftAfter disk old new workers recording)

-- own: the same of the bytes of a recording with look-ups
abbrev pub LeavesAfterLooks : {D : Type 0} → Ghosts D → (old new : D) → ℕ → List ℕ → Type 0
LeavesAfterLooks disk old new workers bytes =
    (new ≡ old)
    ⊎ ((watched : WatchedRecording) × (watched_of bytes ≡ Ok watched) × IsLeftAfter disk old new workers watched.recording)

-- own: where there was no memory, a recording has left a disk that was not opened to its end, or on which some run under the limit was
-- made
abbrev pub IsLeftBounded : {D : Type 0} → Ghosts D → (old new : D) → ℕ → Recording → Type 0
IsLeftBounded disk old new limit recording =
    IsUnopened disk old new
    ⊎ ((base : Kept) × (history : List Entry) × (ended : BoundedEnd) × EndedWithin disk old new limit recording base history ended)

-- own: the same of bytes that are run under a limit
abbrev pub LeavesAfterBound : {D : Type 0} → Ghosts D → (old new : D) → ℕ → List ℕ → Type 0
LeavesAfterBound disk old new limit bytes =
    (new ≡ old) ⊎ ((recording : Recording) × (recording_of bytes ≡ Ok recording) × IsLeftBounded disk old new limit recording)

-- own: what is left of the disk where there was no memory
abbrev pub LeavesWithoutMemory : {D : Type 0} → Ghosts D → (old new : D) → Option (List ℕ) → Command → Type 0
LeavesWithoutMemory disk old new left command.Init = IsLeftAlone disk old new × LeavesOthers disk old new
LeavesWithoutMemory disk old new left (command.Replay workers) =
    (new ≡ old) ⊎ ((bytes : List ℕ) × IsRead RECORDING_LIMIT left bytes × LeavesAfterBytes disk old new workers bytes)
LeavesWithoutMemory disk old new left (command.Watch workers) =
    (new ≡ old) ⊎ ((bytes : List ℕ) × IsRead RECORDING_LIMIT left bytes × LeavesAfterLooks disk old new workers bytes)
LeavesWithoutMemory disk old new left (command.Quota limit) =
    (new ≡ old) ⊎ ((bytes : List ℕ) × IsRead RECORDING_LIMIT left bytes × LeavesAfterBound disk old new limit bytes)
LeavesWithoutMemory disk old new left command.Show = LeavesAlone disk old new
LeavesWithoutMemory disk old new left (command.Gen number size) = new ≡ old
LeavesWithoutMemory disk old new left command.Imports = new ≡ old
LeavesWithoutMemory disk old new left command.Audit = (new ≡ old) ⊎ LeavesAlone disk old new
LeavesWithoutMemory disk old new left command.Roster = new ≡ old
LeavesWithoutMemory disk old new left command.Help = new ≡ old
LeavesWithoutMemory disk old new left command.Version = new ≡ old
LeavesWithoutMemory disk old new left command.Unknown = new ≡ old

-- own: the source's bytes are a recording, which so many workers ran on the disk to this end, and the text is the transcript of its
-- history
pub record HasRunTo {D : Type 0} (disk : Ghosts D) (old new : D) (workers : ℕ) (left : Option (List ℕ)) (ended : DriveEnd) (text : List ℕ) : Type 0 where
  pub bytes : List ℕ
  pub recording : Recording
  pub base : Kept
  pub history : List Entry
  pub is_read : IsRead RECORDING_LIMIT left bytes
  pub is_recording : recording_of bytes ≡ Ok recording
  pub run : Ended disk old new workers recording base history ended
  pub printed : text ≡ transcript history (last_of ended)

-- own: the source's bytes are a recording, which was run on the disk under a limit to this end, and the text is that of its history
pub record HasEndedWithin {D : Type 0} (disk : Ghosts D) (old new : D) (limit : ℕ) (left : Option (List ℕ)) (ended : BoundedEnd) (text : List ℕ) : Type 0 where
  pub bytes : List ℕ
  pub recording : Recording
  pub base : Kept
  pub history : List Entry
  pub is_read : IsRead RECORDING_LIMIT left bytes
  pub is_recording : recording_of bytes ≡ Ok recording
  pub run : EndedWithin disk old new limit recording base history ended
  pub printed : text ≡ bounded_text limit base history ended
