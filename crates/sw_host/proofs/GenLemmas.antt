-- A generated recording that one worker has run, from nothing.
use Rattle.std.proofs.Common.{◌≡◌, ◌∙◌, ℕ, List, Option, Result, Ok, Err, IfOk, IfSome, sym, subst}
use Rattle.sw_data.specs.declared.histories.Entry.{Entry}
use Rattle.sw_data.specs.declared.recordings.Recording.{Recording}
use Rattle.sw_data.specs.declared.storage.Kept.{Kept}
use Rattle.sw_disk.specs.Image.{Image}
use Rattle.sw_disk.specs.Plain.{plain, plain_image}
use Rattle.sw_disk.specs.declared.plain.PlainDisk.{PlainDisk}
use Rattle.sw_gen.specs.Generated.{generated}
use Rattle.sw_host.specs.declared.report.Report.{Report}
use Rattle.sw_host.specs.Generating.{HasGenerated, IsPrinted, actions_in}
use Rattle.sw_host.specs.Runs.{status_of}
use Rattle.sw_kept.specs.Stored.{HasKept, Keeps}
use Rattle.sw_record.specs.Grammar.{recording_of}
use Rattle.sw_rules.specs.Storage.{nothing}
use Rattle.sw_turns.specs.Ends.{Ended}
use Rattle.sw_turns.specs.Turns.{IsAtRest}
use Rattle.sw_turns.specs.declared.ends.DriveEnd.{DriveEnd}
use Rattle.sw_turns.specs.declared.ends.DriveEnd.TheVariants as drive_end
use Rattle.sw_turns.specs.declared.progress.Progress.{Progress}

-- an image keeps one content
pub one_kept : (kept other : Kept) (image : Image) → HasKept kept image → HasKept other image → kept ≡ other
one_kept kept other image one two = let both : Keeps kept ≡ Keeps other = sym one ∙ two in cc

module _ (recording : Recording) (history : List Entry) (start now : PlainDisk) (base : Kept) where
  -- a run began with what its disk kept
  pub began_with : (ended : DriveEnd) → Ended plain start now 1 recording base history ended → HasKept base (plain_image start)
  began_with drive_end.Done run = run.0.opened.kept
  began_with (drive_end.Stalled lane) run = run.0.opened.kept
  began_with (drive_end.DiskFault refused) run = run.0.opened.kept
  began_with (drive_end.Full happened from needed) run = run.2.opened.kept
  began_with drive_end.NoMemory run = run.opened.kept
  began_with (drive_end.Spent spent) run = run.0.opened.kept

module _ (number size : ℕ) (recording : Recording) (actions : Option ℕ) (progress : Progress) (ended : DriveEnd) (start now : PlainDisk) (base : Kept) where
  pub generates : {E : Type 0} (result : Result Report E) → base ≡ nothing → recording_of (generated number size) ≡ Ok recording
      → IfSome actions (λ count. count ≡ actions_in recording) → Ended plain start now 1 recording base progress.history.items ended → IsAtRest ended base progress
      → IfOk result (λ report. report.status ≡ status_of ended)
      → IfOk result (λ report. (recording : Recording) → IfSome actions (λ count. count ≡ actions_in recording) → IsAtRest ended nothing progress
      → IsPrinted number size recording progress.history.items ended report.text)
      → IfOk result (λ report. HasGenerated number size report.status report.text)
  generates (Err why) empty made counted run rest ends told = tt
  generates (Ok report) empty made counted run rest ends told = record {
    recording = recording;
    history = progress.history.items;
    ended = ended;
    start = start;
    now = now;
    is_recording = made;
    run = subst (λ (kept : Kept). Ended plain start now 1 recording kept progress.history.items ended) empty run;
    ends = ends;
    printed = told recording counted (subst (λ (kept : Kept). IsAtRest ended kept progress) empty rest);
  }
