-- A run with look-ups beside it that has begun, and one that has ended.
use Rattle.std.proofs.Common.{◌≡◌, ◌⊎◌, ◌+◌, ◌∙◌, ◌++◌, [], ◌∷◌, inl, inr, ℕ, List, Result, Ok, Err, length, map, ap, sym, subst, arith, append_assoc, append-nil}
use Rattle.std.specs.Prelude.{IfOk, IsOkAnd, OnErr}
use Rattle.sw_data.specs.declared.histories.Entry.{Entry}
use Rattle.sw_data.specs.declared.recordings.Recording.{Recording}
use Rattle.sw_data.specs.declared.storage.Kept.{Kept}
use Rattle.sw_disk.specs.declared.disk.Disk.{Ghosts}
use Rattle.sw_forms.specs.declared.error.RecordingError.{RecordingError}
use Rattle.sw_host.proofs.EndLemmas.{some_status}
use Rattle.sw_host.specs.declared.report.Report.{Report}
use Rattle.sw_host.specs.Runs.{last_of, status_of}
use Rattle.sw_host.specs.Stands.{IsLeftAfter, LeavesAfterLooks, WatchedAs, Watches, WatchesOn}
use Rattle.sw_host.specs.Watching.{EndsWatched, asked_of, look_text, looks_text}
use Rattle.sw_readers.specs.declared.inputs.WatchedRecording.{WatchedRecording}
use Rattle.sw_pool.specs.declared.looking.Asked.{Asked}
use Rattle.sw_pool.specs.Looks.{AreAnswers}
use Rattle.sw_pool.specs.Yards.{IsOriginOf, Origin}
use Rattle.sw_print.specs.Transcript.{transcript}
use Rattle.sw_readers.specs.Watched.{watched_of}
use Rattle.sw_turns.specs.declared.ends.DriveEnd.{DriveEnd}
use Rattle.sw_turns.specs.declared.ends.DriveEnd.TheVariants as drive_end
use Rattle.sw_turns.specs.Ends.{Ended}
use Rattle.sw_view.specs.declared.looker.Look.{Look}

module _ {D : Type 0} (disk : Ghosts D) (start now : D) (workers : ℕ) (recording : Recording) (asked : List Asked) where
  -- the status and the text of a run with look-ups
  pub ends_watched : {V E F : Type 0} (items : V → List Look) (base : Kept) (history : List Entry) (ended : DriveEnd) (looks : Result V F) (result : Result Report E)
      → Ended disk start now workers recording base history ended → IfOk looks (λ seen. AreAnswers base history 0 asked (items seen))
      → IfOk result (λ report. report.status ≡ status_of ended) → IfOk result (λ report. ended ≡ drive_end.NoMemory → ⊥)
      → IfOk result (λ report. IsOkAnd looks (λ seen. report.text ≡ transcript history (last_of ended) ++ looks_text 0 (items seen)))
      → IfOk result (λ report. EndsWatched disk start now workers recording asked report.status report.text)
  ends_watched items base history ended (Ok seen) (Ok report) run answers is some prints = record {
    base = base;
    history = history;
    ended = ended;
    looks = items seen;
    run = run;
    ends = is;
    some = λ none. some_status ended some (sym is ∙ none);
    answers = answers;
    printed = prints;
  }
  ends_watched items base history ended (Err none) (Ok report) run answers is some prints = absurd prints
  ends_watched items base history ended looks (Err why) run answers is some prints = tt

module _ {D : Type 0} (disk : Ghosts D) (old now : D) (workers : ℕ) (recording : Recording) (origin : Origin D) (from : IsOriginOf workers recording old origin) where
  -- what has ended of what was begun is so on the disk
  pub watches_on : {E : Type 0} (asked : List Asked) (result : Result Report E)
      → IfOk result (λ report. EndsWatched disk origin.start now origin.passes origin.recording asked report.status report.text)
      → IfOk result (λ report. WatchesOn disk old now workers recording asked report.status report.text)
  watches_on asked (Err why) ends = tt
  watches_on asked (Ok report) ends =
      inl (subst (λ (o : Origin D). EndsWatched disk o.start now o.passes o.recording asked report.status report.text) from.1 ends)

  pub left_on : {T E : Type 0} (result : Result T E) → OnErr result (IsLeftAfter disk origin.start now origin.passes origin.recording)
      → OnErr result (IsLeftAfter disk old now workers recording)
  left_on result left = subst (λ (o : Origin D). OnErr result (IsLeftAfter disk o.start now o.passes o.recording)) from.1 left

module _ {D : Type 0} (disk : Ghosts D) (old now : D) (workers : ℕ) (bytes : List ℕ) (watched : WatchedRecording) (is : watched_of bytes ≡ Ok watched) where
  -- what has come of a recording with look-ups is so of its bytes
  pub watches_bytes : {E : Type 0} (result : Result Report E)
      → IfOk result (λ report. WatchesOn disk old now workers watched.recording (map asked_of watched.looks) report.status report.text)
      → IfOk result (λ report. Watches disk old now workers bytes report.status report.text)
  watches_bytes result watches =
      subst (λ (what : Result WatchedRecording RecordingError). IfOk result (λ report. WatchedAs disk old now workers what report.status report.text)) (sym is) watches

  pub leaves_bytes : {T E : Type 0} (result : Result T E) → OnErr result ((now ≡ old) ⊎ IsLeftAfter disk old now workers watched.recording)
      → OnErr result (LeavesAfterLooks disk old now workers bytes)
  leaves_bytes (Ok value) left = tt
  leaves_bytes (Err why) (inl same) = inl same
  leaves_bytes (Err why) (inr left) = inr (watched, is, left)

-- the lines of look-ups with one more behind them
pub one_more_line : (number : ℕ) (looks : List Look) (look : Look) → looks_text number (looks ++ look ∷ []) ≡ looks_text number looks ++ look_text (number + length looks) look
one_more_line number [] look = append-nil _ ∙ ap (λ n. look_text n look) (omega arith)
one_more_line number (first ∷ looks) look =
    ap (λ text. look_text number first ++ text) (one_more_line (number + 1) looks look ∙ ap (λ n. looks_text (number + 1) looks ++ look_text n look) (omega arith))
    ∙ sym (append_assoc (look_text number first) (looks_text (number + 1) looks) _)
