-- A recording that was run has ended as its status says.
use Rattle.std.proofs.Common.{◌≡◌, inl, inr, ℕ, List, Option, Result, Ok, Err, refl, subst}
use Rattle.sw_data.specs.declared.recordings.Recording.{Recording}
use Rattle.sw_disk.specs.declared.disk.Disk.{Ghosts}
use Rattle.sw_host.specs.declared.command.Command.{Command}
use Rattle.sw_host.specs.declared.command.Command.TheVariants as command
use Rattle.sw_host.specs.declared.statuses.Status.{Status}
use Rattle.sw_host.specs.declared.statuses.Status.TheVariants as status
use Rattle.sw_host.specs.Runs.{status_of}
use Rattle.sw_host.specs.Reading.{IsRead}
use Rattle.sw_host.specs.Stands.{HasRunTo, ReplaysSource, ReportedAs, Stands}
use Rattle.sw_lock.specs.declared.pass.Spent.{Spent}
use Rattle.sw_turns.specs.declared.ends.DriveEnd.{DriveEnd}
use Rattle.sw_turns.specs.declared.ends.DriveEnd.TheVariants as drive_end
use Rattle.sw_forms.specs.declared.error.RecordingError.{RecordingError}
use Rattle.sw_forms.specs.declared.limits.TheConstants.{RECORDING_LIMIT}
use Rattle.sw_record.specs.Grammar.{recording_of}
use Rattle.sw_host.proofs.Refused.{IsOfRun, unread, unrefused}

module _ {D : Type 0} (disk : Ghosts D) (old new : D) (left : Option (List ℕ)) (text : List ℕ) where
  -- own: so many workers have run a recording to this status
  abbrev HasRun : ℕ → Status → Type 0
  HasRun workers outcome = (ended : DriveEnd) × (outcome ≡ status_of ended) × HasRunTo disk old new workers left ended text

  reported : (workers : ℕ) (outcome : Status) → IsOfRun outcome → (bytes : List ℕ) → IsRead RECORDING_LIMIT left bytes → (what : Result Recording RecordingError)
      → recording_of bytes ≡ what → ReportedAs disk old new workers what outcome text → HasRun workers outcome
  reported workers outcome of_run bytes read (Ok recording) is (inl run) = (
    run.ended,
    run.ends,
    record {
      bytes = bytes;
      recording = recording;
      base = run.base;
      history = run.history;
      is_read = read;
      is_recording = is;
      run = run.run;
      printed = run.printed;
    },
  )
  reported workers outcome of_run bytes read (Ok recording) is (inr refused) = absurd (unrefused disk old new text outcome of_run refused)
  reported workers outcome of_run bytes read (Err why) is refused = absurd (unread text why outcome of_run refused.0)

  replayed : (workers before now : ℕ) (outcome : Status) → IsOfRun outcome → ReplaysSource disk old new workers left before now outcome text → HasRun workers outcome
  replayed workers before now outcome of_run (inl (bytes, read, is)) = reported workers outcome of_run bytes read (recording_of bytes) refl is
  replayed workers before now outcome of_run (inr (inl is, alone)) = absurd (subst IsOfRun is.0 of_run)
  replayed workers before now outcome of_run (inr (inr is, alone)) = absurd (subst IsOfRun is.0 of_run)

  -- ---- each end

  done_by : (workers : ℕ) (ended : DriveEnd) → status.Done ≡ status_of ended → HasRunTo disk old new workers left ended text → HasRunTo disk old new workers left drive_end.Done text
  done_by workers drive_end.Done is run = run
  done_by workers (drive_end.Stalled lane) is run = absurd cc
  done_by workers (drive_end.DiskFault refused) is run = absurd cc
  done_by workers (drive_end.Full happened from needed) is run = absurd cc
  done_by workers drive_end.NoMemory is run = absurd cc
  done_by workers (drive_end.Spent spent) is run = absurd cc

  stalled_by : (workers : ℕ) (ended : DriveEnd) → status.Stalled ≡ status_of ended → HasRunTo disk old new workers left ended text
      → (lane : ℕ) × HasRunTo disk old new workers left (drive_end.Stalled lane) text
  stalled_by workers drive_end.Done is run = absurd cc
  stalled_by workers (drive_end.Stalled lane) is run = (lane, run)
  stalled_by workers (drive_end.DiskFault refused) is run = absurd cc
  stalled_by workers (drive_end.Full happened from needed) is run = absurd cc
  stalled_by workers drive_end.NoMemory is run = absurd cc
  stalled_by workers (drive_end.Spent spent) is run = absurd cc

  spent_by : (workers : ℕ) (spent : Spent) (ended : DriveEnd) → status.Spent spent ≡ status_of ended → HasRunTo disk old new workers left ended text
      → HasRunTo disk old new workers left (drive_end.Spent spent) text
  spent_by workers spent drive_end.Done is run = absurd cc
  spent_by workers spent (drive_end.Stalled lane) is run = absurd cc
  spent_by workers spent (drive_end.DiskFault refused) is run = absurd cc
  spent_by workers spent (drive_end.Full happened from needed) is run = absurd cc
  spent_by workers spent drive_end.NoMemory is run = absurd cc
  spent_by workers spent (drive_end.Spent made) is run =
      let same : made ≡ spent = cc in subst (λ (s : Spent). HasRunTo disk old new workers left (drive_end.Spent s) text) same run

  -- a recording was run where these words stand with this status
  ran : (before now : ℕ) (wanted : Command) (outcome known : Status) (workers : ℕ) → IsOfRun known → outcome ≡ known → wanted ≡ command.Replay workers
      → Stands disk old new left before now wanted outcome text → HasRun workers known
  ran before now wanted outcome known workers of_run is wants stood =
      replayed workers before now known of_run
      (subst (λ (c : Command). Stands disk old new left before now c known text) wants
      (subst (λ (s : Status). Stands disk old new left before now wanted s text) is stood))

  pub has_done : (before now : ℕ) (wanted : Command) (outcome : Status) (workers : ℕ) → outcome ≡ status.Done → wanted ≡ command.Replay workers
      → Stands disk old new left before now wanted outcome text → HasRunTo disk old new workers left drive_end.Done text
  has_done before now wanted outcome workers is wants stood =
      let run = ran before now wanted outcome status.Done workers tt is wants stood in
      done_by workers run.0 run.1 run.2

  pub has_stalled : (before now : ℕ) (wanted : Command) (outcome : Status) (workers : ℕ) → outcome ≡ status.Stalled → wanted ≡ command.Replay workers
      → Stands disk old new left before now wanted outcome text → (lane : ℕ) × HasRunTo disk old new workers left (drive_end.Stalled lane) text
  has_stalled before now wanted outcome workers is wants stood =
      let run = ran before now wanted outcome status.Stalled workers tt is wants stood in
      stalled_by workers run.0 run.1 run.2

  pub has_spent : (before now : ℕ) (wanted : Command) (outcome : Status) (workers : ℕ) (spent : Spent) → outcome ≡ status.Spent spent → wanted ≡ command.Replay workers
      → Stands disk old new left before now wanted outcome text → HasRunTo disk old new workers left (drive_end.Spent spent) text
  has_spent before now wanted outcome workers spent is wants stood =
      let run = ran before now wanted outcome (status.Spent spent) workers tt is wants stood in
      spent_by workers spent run.0 run.1 run.2
