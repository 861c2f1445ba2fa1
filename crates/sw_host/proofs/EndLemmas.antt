-- A run that has ended on a disk, and a disk that is refused.
use Rattle.std.proofs.Common.{◌≡◌, ◌⊎◌, ◌≤◌, ◌∙◌, ◌^◌, inl, inr, ℕ, List, Some, Result, Ok, Err, length, refl, sym, subst}
use Rattle.std.specs.Prelude.{IfErr, IfOk, IsErr, IsErrOf, OnErr}
use Rattle.sw_data.specs.declared.histories.Entry.{Entry}
use Rattle.sw_data.specs.declared.recordings.Recording.{Recording}
use Rattle.sw_data.specs.declared.storage.Kept.{Kept}
use Rattle.sw_data.specs.Faults.{Rose}
use Rattle.sw_disk.specs.declared.disk.Disk.{Ghosts}
use Rattle.sw_disk.specs.DiskRule.{ForTold}
use Rattle.sw_forms.specs.declared.error.RecordingError.{RecordingError}
use Rattle.sw_forms.specs.declared.limits.TheConstants.{RECORDING_LIMIT}
use Rattle.sw_host.specs.declared.command.Command.TheVariants as command
use Rattle.sw_host.specs.declared.report.Report.{Report}
use Rattle.sw_host.specs.declared.statuses.Status.{Status}
use Rattle.sw_host.specs.declared.statuses.Status.TheVariants as status
use Rattle.sw_host.specs.Runs.{EndsAs, last_of, status_of}
use Rattle.sw_host.specs.Stands.{IsLeftAfter, IsReportOf, LeavesAfterBytes, LeavesWithoutMemory, RefusesDisk, Replays, ReplaysOn, ReportedAs}
use Rattle.sw_journal.specs.Quiet.{LeavesAlone}
use Rattle.sw_kept.specs.Stored.{Bad, Unformatted, stored}
use Rattle.sw_pool.specs.Yards.{IsOriginOf, Origin, YardState, origin_of}
use Rattle.sw_record.specs.Grammar.{recording_of}
use Rattle.sw_turns.specs.declared.ends.DriveEnd.{DriveEnd}
use Rattle.sw_turns.specs.declared.ends.DriveEnd.TheVariants as drive_end
use Rattle.sw_turns.specs.Ends.{Ended}
use Rattle.sw_print.specs.Transcript.{transcript}
use Rattle.sw_store.specs.declared.errors.OpenError.{OpenError}
use Rattle.sw_store.specs.declared.errors.OpenError.TheVariants as error
use Rattle.sw_store.specs.Opened.{HasNoRoom, IsUnopened}

-- ---- a run that has ended

-- where there was memory to the end, no run has ended for want of it
pub some_status : (ended : DriveEnd) → (ended ≡ drive_end.NoMemory → ⊥) → status_of ended ≡ status.NoMemory → ⊥
some_status drive_end.Done some is = absurd cc
some_status (drive_end.Stalled lane) some is = absurd cc
some_status (drive_end.DiskFault refused) some is = absurd cc
some_status (drive_end.Full happened from needed) some is = absurd cc
some_status drive_end.NoMemory some is = some refl
some_status (drive_end.Spent spent) some is = absurd cc

module _ {D : Type 0} (disk : Ghosts D) (start now : D) (workers : ℕ) (recording : Recording) where
  run_ends : (base : Kept) (history : List Entry) (ended : DriveEnd) (report : Report) → Ended disk start now workers recording base history ended
      → report.status ≡ status_of ended → (ended ≡ drive_end.NoMemory → ⊥) → report.text ≡ transcript history (last_of ended)
      → EndsAs disk start now workers recording report.status report.text
  run_ends base history ended report run is some prints = record {
    base = base;
    history = history;
    ended = ended;
    run = run;
    ends = is;
    some = λ none. some_status ended some (sym is ∙ none);
    printed = prints;
  }

  -- the status and the text of a run
  pub ends_as : {E : Type 0} (base : Kept) (history : List Entry) (ended : DriveEnd) (result : Result Report E) → Ended disk start now workers recording base history ended
      → IfOk result (λ report. report.status ≡ status_of ended) → IfOk result (λ report. ended ≡ drive_end.NoMemory → ⊥)
      → IfOk result (λ report. report.text ≡ transcript history (last_of ended))
      → IfOk result (λ report. EndsAs disk start now workers recording report.status report.text)
  ends_as base history ended (Ok report) run is some prints = run_ends base history ended report run is some prints
  ends_as base history ended (Err why) run is some prints = tt

  -- what a run leaves whose text found no memory
  pub left_by_run : {T E : Type 0} (result : Result T E) (base : Kept) (history : List Entry) (ended : DriveEnd)
      → Ended disk start now workers recording base history ended → OnErr result (IsLeftAfter disk start now workers recording)
  left_by_run (Ok value) base history ended run = tt
  left_by_run (Err why) base history ended run = inr (base, history, ended, run)

-- ---- a recording that is taken up

-- a run that has begun is of the recording on the disk, whatever it began with
pub begun : {D E : Type 0} (start : D) (workers : ℕ) (recording : Recording) (base : Kept) (result : Result (YardState D) E)
    → IfOk result (λ yard. yard.origin ≡ origin_of workers recording base start) → IfOk result (λ yard. IsOriginOf workers recording start yard.origin)
begun start workers recording base (Ok yard) is = (base, is)
begun start workers recording base (Err why) is = tt

module _ {D : Type 0} (disk : Ghosts D) (start now : D) (workers : ℕ) (recording : Recording) (unopened : IsUnopened disk start now) where
  -- a disk on which there was no memory to begin is left as one that was not opened to its end
  left_opened : {T E : Type 0} (result : Result T E) (left : D) → left ≡ now → OnErr result (IsLeftAfter disk start left workers recording)
  left_opened (Ok value) left same = tt
  left_opened (Err why) left same = inl (subst (IsUnopened disk start) (sym same) unopened)

  pub left_unbegun : {T U E : Type 0} (result : Result T (Result U E × D)) → IfErr result (λ unrun. IsErr unrun.0 × (unrun.1 ≡ now))
      → IfErr result (λ unrun. OnErr unrun.0 (IsLeftAfter disk start unrun.1 workers recording))
  left_unbegun (Ok value) lack = tt
  left_unbegun (Err unrun) lack = left_opened unrun.0 unrun.1 lack.1

-- ---- bytes that are a recording

module _ {D : Type 0} (disk : Ghosts D) (old : D) (workers : ℕ) (bytes : List ℕ) (recording : Recording) (is : recording_of bytes ≡ Ok recording) where
  leaves_recording : {T E : Type 0} (now : D) (result : Result T E) → OnErr result (IsLeftAfter disk old now workers recording)
      → OnErr result (LeavesAfterBytes disk old now workers bytes)
  leaves_recording now (Ok value) left = tt
  leaves_recording now (Err why) left = inr (recording, is, left)

  -- what was begun, or was not, with the recording is so with its bytes
  pub taken : {E : Type 0} (result : Result (YardState D) E) → IfOk result (λ yard. IsOriginOf workers recording old yard.origin)
      → IfOk result (λ yard. (recording : Recording) × (recording_of bytes ≡ Ok recording) × IsOriginOf workers recording old yard.origin)
  taken (Ok yard) from = (recording, is, from)
  taken (Err why) from = tt

  pub replays_untaken : {T E : Type 0} (result : Result T (Result Report E × D))
      → IfErr result (λ unrun. IfOk unrun.0 (λ report. ReplaysOn disk old unrun.1 workers recording report.status report.text))
      → IfErr result (λ unrun. IfOk unrun.0 (λ report. Replays disk old unrun.1 workers bytes report.status report.text))
  replays_untaken result replayed =
      subst (λ (what : Result Recording RecordingError). IfErr result (λ unrun. IfOk unrun.0 (λ report. ReportedAs disk old unrun.1 workers what report.status report.text))) (sym is) replayed

  pub leaves_untaken : {T U E : Type 0} (result : Result T (Result U E × D)) → IfErr result (λ unrun. OnErr unrun.0 (IsLeftAfter disk old unrun.1 workers recording))
      → IfErr result (λ unrun. OnErr unrun.0 (LeavesAfterBytes disk old unrun.1 workers bytes))
  leaves_untaken (Ok value) left = tt
  leaves_untaken (Err unrun) left = leaves_recording unrun.1 unrun.0 left

  module _ (now : D) (origin : Origin D) (from : IsOriginOf workers recording old origin) where
    -- a run of what the bytes are is a replay of the bytes
    pub replays : {E : Type 0} (result : Result Report E)
        → IfOk result (λ report. EndsAs disk origin.start now origin.passes origin.recording report.status report.text)
        → IfOk result (λ report. Replays disk old now workers bytes report.status report.text)
    replays (Err why) ends = tt
    replays (Ok report) ends =
        subst (λ (what : Result Recording RecordingError). ReportedAs disk old now workers what report.status report.text) (sym is)
        (inl (subst (λ (o : Origin D). EndsAs disk o.start now o.passes o.recording report.status report.text) from.1 ends))

    pub leaves : {T E : Type 0} (result : Result T E) → OnErr result (IsLeftAfter disk origin.start now origin.passes origin.recording)
        → OnErr result (LeavesAfterBytes disk old now workers bytes)
    leaves result left =
        leaves_recording now result (subst (λ (o : Origin D). OnErr result (IsLeftAfter disk o.start now o.passes o.recording)) from.1 left)

-- ---- bytes that a source has left

-- what one worker leaves after the bytes is so after the source
pub leaves_source : {D T E : Type 0} (disk : Ghosts D) (old now : D) (bytes : List ℕ) → length bytes ≤ RECORDING_LIMIT → (result : Result T E)
    → OnErr result (LeavesAfterBytes disk old now 1 bytes) → OnErr result (LeavesWithoutMemory disk old now (Some bytes) (command.Replay 1))
leaves_source disk old now bytes within (Ok value) left = tt
leaves_source disk old now bytes within (Err why) left = inr (bytes, record { told = refl; within = within }, left)

-- ---- a disk that is refused

-- a report that is this one
by_report : (P : Status → List ℕ → Type 0) (report wanted : Report) → report ≡ wanted → P wanted.status wanted.text → P report.status report.text
by_report P report wanted is holds = subst (λ (r : Report). P r.status r.text) (sym is) holds

refuses : {T D : Type 0} (disk : Ghosts D) (old new : D) (opened : Result T OpenError) (why : OpenError) (report : Report) → opened ≡ Err why
    → (IsErrOf opened error.NotFormatted → LeavesAlone disk old new × ForTold (disk.seen old) (λ image. stored image ≡ Unformatted))
    → ((offset : ℕ) → IsErrOf opened (error.BadJournal offset) → LeavesAlone disk old new × ForTold (disk.seen old) (λ image. stored image ≡ Bad offset))
    → ((from needed : ℕ) → IsErrOf opened (error.Full from needed) → HasNoRoom disk new (2 ^ 32) from needed)
    → (IsErrOf opened error.DiskFault → Rose (disk.faults old) (disk.faults new))
    → IsUnopened disk old new
    → IsReportOf why report → RefusesDisk disk old new report.status report.text
refuses disk old new opened error.NoMemory report was unformatted bad full fault unopened is = absurd is
refuses disk old new opened error.DiskFault report was unformatted bad full fault unopened is =
    by_report (RefusesDisk disk old new) report _ is (refl, fault was, unopened)
refuses disk old new opened error.NotFormatted report was unformatted bad full fault unopened is =
    by_report (RefusesDisk disk old new) report _ is (refl, (unformatted was).0, (unformatted was).1)
refuses disk old new opened (error.BadJournal offset) report was unformatted bad full fault unopened is =
    by_report (RefusesDisk disk old new) report _ is (offset, refl, (bad offset was).0, (bad offset was).1)
refuses disk old new opened (error.Full from needed) report was unformatted bad full fault unopened is =
    by_report (RefusesDisk disk old new) report _ is (refl, unopened, (from, needed, full from needed was))

-- the report of a disk that was not opened
pub refused : {T D E : Type 0} (disk : Ghosts D) (old new : D) (Ends : Status → List ℕ → Type 0) (opened : Result T OpenError) (why : OpenError) (result : Result Report E) → opened ≡ Err why
    → (IsErrOf opened error.NotFormatted → LeavesAlone disk old new × ForTold (disk.seen old) (λ image. stored image ≡ Unformatted))
    → ((offset : ℕ) → IsErrOf opened (error.BadJournal offset) → LeavesAlone disk old new × ForTold (disk.seen old) (λ image. stored image ≡ Bad offset))
    → ((from needed : ℕ) → IsErrOf opened (error.Full from needed) → HasNoRoom disk new (2 ^ 32) from needed)
    → (IsErrOf opened error.DiskFault → Rose (disk.faults old) (disk.faults new))
    → IsUnopened disk old new
    → IfOk result (λ report. IsReportOf why report) → IfOk result (λ report. Ends report.status report.text ⊎ RefusesDisk disk old new report.status report.text)
refused disk old new Ends opened why (Err none_left) was unformatted bad full fault unopened is = tt
refused disk old new Ends opened why (Ok report) was unformatted bad full fault unopened is =
    inr (refuses disk old new opened why report was unformatted bad full fault unopened is)
