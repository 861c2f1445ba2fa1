-- A run under a limit that has ended, and what its status says of it.
use Rattle.std.proofs.Common.{◌≡◌, ◌∙◌, ◌++◌, inl, inr, ℕ, List, Option, Result, Ok, Err, refl, sym, ap, subst}
use Rattle.std.specs.Prelude.{IfOk, OnErr}
use Rattle.sw_bucket.specs.declared.ends.BoundedEnd.{BoundedEnd}
use Rattle.sw_bucket.specs.declared.ends.BoundedEnd.TheVariants as end
use Rattle.sw_data.specs.declared.histories.Entry.{Entry}
use Rattle.sw_data.specs.declared.recordings.Recording.{Recording}
use Rattle.sw_data.specs.declared.storage.Kept.{Kept}
use Rattle.sw_disk.specs.declared.disk.Disk.{Ghosts}
use Rattle.sw_forms.specs.declared.error.RecordingError.{RecordingError}
use Rattle.sw_forms.specs.declared.limits.TheConstants.{RECORDING_LIMIT}
use Rattle.sw_host.specs.Bounding.{EndedWithin, EndsBounded, last_of, status_of, usage_text}
use Rattle.sw_host.specs.Reading.{IsRead, ReadsThen}
use Rattle.sw_host.specs.Stands.{BoundedAs, Bounds, BoundsOn, HasEndedWithin, IsLeftBounded, LeavesAfterBound, Stands}
use Rattle.sw_host.specs.Texts.{refusal_text}
use Rattle.sw_host.specs.declared.command.Command.{Command}
use Rattle.sw_host.specs.declared.command.Command.TheVariants as command
use Rattle.sw_host.specs.declared.report.Report.{Report}
use Rattle.sw_host.specs.declared.statuses.Status.{Status}
use Rattle.sw_host.specs.declared.statuses.Status.TheVariants as status
use Rattle.sw_print.specs.Transcript.{transcript}
use Rattle.sw_record.specs.Grammar.{recording_of}
use Rattle.sw_rules.specs.Durable.{durable}
use Rattle.sw_rules.specs.History.{after}
use Rattle.sw_sizes.specs.Usage.{usage}
use Rattle.sw_store.specs.Opened.{IsUnopened}
use Rattle.sw_host.proofs.Refused.{IsOfRun, unread, unrefused}

-- ---- a run that has ended

-- where there was memory to the end, no run has ended for want of it
some_status : (ended : BoundedEnd) → (ended ≡ end.NoMemory → ⊥) → status_of ended ≡ status.NoMemory → ⊥
some_status end.Done some is = absurd cc
some_status (end.Stalled lane) some is = absurd cc
some_status (end.DiskFault refused) some is = absurd cc
some_status (end.Full happened from needed) some is = absurd cc
some_status end.Spent some is = absurd cc
some_status end.NoMemory some is = some refl

module _ {D : Type 0} (disk : Ghosts D) (start now : D) (limit : ℕ) (recording : Recording) where
  -- the status and the text of a run
  pub ends_bounded : {E : Type 0} (base : Kept) (history : List Entry) (ended : BoundedEnd) (used : ℕ) (result : Result Report E)
      → EndedWithin disk start now limit recording base history ended → ((ended ≡ end.NoMemory → ⊥) → used ≡ usage (durable (after base history)))
      → IfOk result (λ report. report.status ≡ status_of ended) → IfOk result (λ report. ended ≡ end.NoMemory → ⊥)
      → IfOk result (λ report. report.text ≡ transcript history (last_of ended) ++ usage_text used limit)
      → IfOk result (λ report. EndsBounded disk start now limit recording report.status report.text)
  ends_bounded base history ended used (Ok report) run counted is some prints = record {
    base = base;
    history = history;
    ended = ended;
    run = run;
    ends = is;
    some = λ none. some_status ended some (sym is ∙ none);
    printed = prints ∙ ap (λ (n : ℕ). transcript history (last_of ended) ++ usage_text n limit) (counted some);
  }
  ends_bounded base history ended used (Err why) run counted is some prints = tt

  -- what a run leaves whose text found no memory
  pub left_by_bounded : {T E : Type 0} (base : Kept) (history : List Entry) (ended : BoundedEnd) (result : Result T E)
      → EndedWithin disk start now limit recording base history ended → OnErr result (IsLeftBounded disk start now limit recording)
  left_by_bounded base history ended (Ok value) run = tt
  left_by_bounded base history ended (Err why) run = inr (base, history, ended, run)

  -- what has ended is so on the disk
  pub bounds_on : {E : Type 0} (result : Result Report E) → IfOk result (λ report. EndsBounded disk start now limit recording report.status report.text)
      → IfOk result (λ report. BoundsOn disk start now limit recording report.status report.text)
  bounds_on (Ok report) ends = inl ends
  bounds_on (Err why) ends = tt

  -- a disk that was not opened is left so
  pub left_unopened : {T E : Type 0} (result : Result T E) → IsUnopened disk start now → OnErr result (IsLeftBounded disk start now limit recording)
  left_unopened (Ok value) unopened = tt
  left_unopened (Err why) unopened = inl unopened

-- ---- bytes that are a recording

module _ {D : Type 0} (disk : Ghosts D) (old now : D) (limit : ℕ) (bytes : List ℕ) (recording : Recording) (is : recording_of bytes ≡ Ok recording) where
  -- what has come of a recording is so of its bytes
  pub bounds_bytes : {E : Type 0} (result : Result Report E)
      → IfOk result (λ report. BoundsOn disk old now limit recording report.status report.text)
      → IfOk result (λ report. Bounds disk old now limit bytes report.status report.text)
  bounds_bytes result bounds =
      subst (λ (what : Result Recording RecordingError). IfOk result (λ report. BoundedAs disk old now limit what report.status report.text)) (sym is) bounds

  pub leaves_bytes : {T E : Type 0} (result : Result T E) → OnErr result (IsLeftBounded disk old now limit recording)
      → OnErr result (LeavesAfterBound disk old now limit bytes)
  leaves_bytes (Ok value) left = tt
  leaves_bytes (Err why) left = inr (recording, is, left)

-- ---- what a status says

module _ {D : Type 0} (disk : Ghosts D) (old new : D) (left : Option (List ℕ)) (text : List ℕ) where
  -- own: a recording was run under a limit to this status
  abbrev HasRun : ℕ → Status → Type 0
  HasRun limit outcome = (ended : BoundedEnd) × (outcome ≡ status_of ended) × HasEndedWithin disk old new limit left ended text

  reported : (limit : ℕ) (outcome : Status) → IsOfRun outcome → (bytes : List ℕ) → IsRead RECORDING_LIMIT left bytes → (what : Result Recording RecordingError)
      → recording_of bytes ≡ what → BoundedAs disk old new limit what outcome text → HasRun limit outcome
  reported limit outcome of_run bytes read (Ok recording) is (inl run) = (
    run.ended,
    run.ends,
    record {
      bytes = bytes;
      recording = recording;
      base = run.base;
      history = run.history;
      is_read = read;
      is_recording = is;
      run = run.run;
      printed = run.printed;
    },
  )
  reported limit outcome of_run bytes read (Ok recording) is (inr refused) = absurd (unrefused disk old new text outcome of_run refused)
  reported limit outcome of_run bytes read (Err why) is refused = absurd (unread text why outcome of_run refused.0)

  bounded : (limit before now : ℕ) (outcome : Status) → IsOfRun outcome
      → ReadsThen RECORDING_LIMIT (refusal_text status.TooLarge) left before now (Bounds disk old new limit) (new ≡ old) outcome text → HasRun limit outcome
  bounded limit before now outcome of_run (inl (bytes, read, is)) = reported limit outcome of_run bytes read (recording_of bytes) refl is
  bounded limit before now outcome of_run (inr (inl is, alone)) = absurd (subst IsOfRun is.0 of_run)
  bounded limit before now outcome of_run (inr (inr is, alone)) = absurd (subst IsOfRun is.0 of_run)

  done_by : (limit : ℕ) (ended : BoundedEnd) → status.Done ≡ status_of ended → HasEndedWithin disk old new limit left ended text
      → HasEndedWithin disk old new limit left end.Done text
  done_by limit end.Done is run = run
  done_by limit (end.Stalled lane) is run = absurd cc
  done_by limit (end.DiskFault refused) is run = absurd cc
  done_by limit (end.Full happened from needed) is run = absurd cc
  done_by limit end.Spent is run = absurd cc
  done_by limit end.NoMemory is run = absurd cc

  stalled_by : (limit : ℕ) (ended : BoundedEnd) → status.Stalled ≡ status_of ended → HasEndedWithin disk old new limit left ended text
      → (lane : ℕ) × HasEndedWithin disk old new limit left (end.Stalled lane) text
  stalled_by limit end.Done is run = absurd cc
  stalled_by limit (end.Stalled lane) is run = (lane, run)
  stalled_by limit (end.DiskFault refused) is run = absurd cc
  stalled_by limit (end.Full happened from needed) is run = absurd cc
  stalled_by limit end.Spent is run = absurd cc
  stalled_by limit end.NoMemory is run = absurd cc

  -- a recording was run where these words stand with this status
  ran : (before now : ℕ) (wanted : Command) (outcome known : Status) (limit : ℕ) → IsOfRun known → outcome ≡ known → wanted ≡ command.Quota limit
      → Stands disk old new left before now wanted outcome text → HasRun limit known
  ran before now wanted outcome known limit of_run is wants stood =
      bounded limit before now known of_run
      (subst (λ (c : Command). Stands disk old new left before now c known text) wants
      (subst (λ (s : Status). Stands disk old new left before now wanted s text) is stood))

  pub has_done_within : (before now : ℕ) (wanted : Command) (outcome : Status) (limit : ℕ) → outcome ≡ status.Done → wanted ≡ command.Quota limit
      → Stands disk old new left before now wanted outcome text → HasEndedWithin disk old new limit left end.Done text
  has_done_within before now wanted outcome limit is wants stood =
      let run = ran before now wanted outcome status.Done limit tt is wants stood in
      done_by limit run.0 run.1 run.2

  pub has_stalled_within : (before now : ℕ) (wanted : Command) (outcome : Status) (limit : ℕ) → outcome ≡ status.Stalled → wanted ≡ command.Quota limit
      → Stands disk old new left before now wanted outcome text → (lane : ℕ) × HasEndedWithin disk old new limit left (end.Stalled lane) text
  has_stalled_within before now wanted outcome limit is wants stood =
      let run = ran before now wanted outcome status.Stalled limit tt is wants stood in
      stalled_by limit run.0 run.1 run.2
