-- The rows of a table of workers: how they are found, changed and added.
use Rattle.std.proofs.Common.{◌≡◌, ◌∙◌, ℕ, zero, suc, ◌<◌, ◌≤◌, Bool, true, false, List, [], ◌∷◌, ◌++◌, length, get_or, Option, Some, None, IfSome, option_map, refl, sym, ap, subst, arith, slice_set, slice_index_or}
use Rattle.std.proofs.lemmas.List.{length-append, length-map, length-set, map-append}
use Rattle.sw_data.specs.declared.rows.HandlerRow.{HandlerRow}
use Rattle.sw_data.specs.declared.rows.WorkerRow.{WorkerRow}
use Rattle.sw_rules.specs.Rows.{changed}
use Rattle.sw_list.proofs.Placing.{flags_set}
use Rattle.sw_worker.specs.declared.edit.Edit.{Edit}
use Rattle.sw_worker.specs.declared.edit.Edit.TheVariants as edit_of
use Rattle.sw_worker.specs.Edits.{allows, call_counted, edited, task_counted}
use Rattle.sw_worker.specs.Kept.{AreWorkers, Counts, IndexesWorkers, StandsAt}
use Rattle.sw_worker.specs.Table.{has_worker, is_worker, runs_activate, worker_at}
use Rattle.sw_rules.proofs.Places.{changed_here, found_here, found_none, more_at_places, passes_here, place_within, set_at_places}

abbrev number : WorkerRow → ℕ
number row = row.number

pub row_here : (rows : List WorkerRow) (n : ℕ) (d : WorkerRow) → AreWorkers rows → n < length rows → worker_at n rows ≡ Some (slice_index_or rows n d)
row_here rows n d are below = found_here number rows n d (λ i e inside. (are i e inside).number) below

pub row_gone : (rows : List WorkerRow) (n : ℕ) → AreWorkers rows → length rows ≤ n → worker_at n rows ≡ None
row_gone rows n are past = found_none number rows n (λ i e inside. (are i e inside).number) past

pub within : (test : WorkerRow → Bool) (rows : List WorkerRow) (n : ℕ) → AreWorkers rows → has_worker test n rows ≡ true → n < length rows
within test rows n are has = place_within number test rows n (λ i e inside. (are i e inside).number) has

pub passes : (test : WorkerRow → Bool) (rows : List WorkerRow) (n : ℕ) (d : WorkerRow) → AreWorkers rows → has_worker test n rows ≡ true → test (slice_index_or rows n d) ≡ true
passes test rows n d are has = passes_here number test rows n d (λ i e inside. (are i e inside).number) has

-- ---- an edit

edited_counts : (edit : Edit) (row : WorkerRow) → allows edit row ≡ true → Counts row → Counts (edited edit row)
edited_counts (edit_of.State to) row allowed counts = record { install = counts.install; activate = counts.activate; unsettled = counts.unsettled }
edited_counts edit_of.Skip row allowed counts = record { install = counts.install; activate = counts.activate; unsettled = counts.unsettled }
edited_counts (edit_of.Start phase) row allowed counts = record { install = counts.install; activate = counts.activate; unsettled = omega arith }
edited_counts edit_of.End row allowed counts = record { install = counts.install; activate = counts.activate; unsettled = tt }
edited_counts (edit_of.CallMade fault task) row allowed counts = record {
  install = counts.install;
  activate = counts.activate;
  unsettled = by row.handler task counts.unsettled;
}
  where
    by : (h : Option HandlerRow) (task : Bool) → IfSome h (λ handler. handler.unsettled ≤ handler.made)
        → IfSome (option_map (call_counted fault task) h) (λ handler. handler.unsettled ≤ handler.made)
    by None task below = tt
    by (Some h) true below = omega (arith, below)
    by (Some h) false below = omega (arith, below)
edited_counts (edit_of.TaskSettled fault) row allowed counts = record {
  install = counts.install;
  activate = counts.activate;
  unsettled = by row.handler counts.unsettled;
}
  where
    by : (h : Option HandlerRow) → IfSome h (λ handler. handler.unsettled ≤ handler.made)
        → IfSome (option_map (task_counted fault) h) (λ handler. handler.unsettled ≤ handler.made)
    by None below = tt
    by (Some h) below = omega (arith, below)

edited_number : (edit : Edit) (row : WorkerRow) → (edited edit row).number ≡ row.number
edited_number (edit_of.State to) row = refl
edited_number edit_of.Skip row = refl
edited_number (edit_of.Start phase) row = refl
edited_number (edit_of.CallMade fault task) row = refl
edited_number (edit_of.TaskSettled fault) row = refl
edited_number edit_of.End row = refl

pub row_edited : (edit : Edit) (rows : List WorkerRow) (n : ℕ) (d new : WorkerRow) → AreWorkers rows → n < length rows
    → new ≡ edited edit (slice_index_or rows n d) → slice_set rows n new ≡ changed (is_worker n) (edited edit) rows
row_edited edit rows n d new are below is =
    ap (slice_set rows n) is ∙ changed_here number (edited edit) rows n d (λ i e inside. (are i e inside).number) below

pub kept_edited : (edit : Edit) (rows : List WorkerRow) (counts : List ℕ) (entries : List (ℕ × ℕ)) (flags : List Bool) (n : ℕ) (d new : WorkerRow)
    → IndexesWorkers rows counts entries flags → has_worker (allows edit) n rows ≡ true → new ≡ edited edit (slice_index_or rows n d)
    → IndexesWorkers (slice_set rows n new) counts entries (slice_set flags n (runs_activate new))
kept_edited edit rows counts entries flags n d new kept has is =
    let below = within (allows edit) rows n kept.workers has in
    let old = kept.workers n d below in
    record {
      workers = set_at_places StandsAt rows n new kept.workers below (subst (StandsAt n) (sym is) (record {
        number = edited_number edit (slice_index_or rows n d) ∙ old.number;
        counts = edited_counts edit (slice_index_or rows n d) (passes (allows edit) rows n d kept.workers has) old.counts;
      }));
      many = kept.many ∙ sym (length-set rows n new);
      counted = kept.counted;
      apart = kept.apart;
      activating = flags_set runs_activate rows flags n new (runs_activate new) kept.activating refl;
    }

-- there are as many flags as workers
pub many_flags : (rows : List WorkerRow) (counts : List ℕ) (entries : List (ℕ × ℕ)) (flags : List Bool) → IndexesWorkers rows counts entries flags
    → length flags ≡ length rows
many_flags rows counts entries flags kept = sym (ap length kept.activating) ∙ length-map rows runs_activate

-- ---- one more worker

more_counts : (counts : List ℕ) (n : ℕ) → get_or (counts ++ 0 ∷ []) n 0 ≡ get_or counts n 0
more_counts [] zero = refl
more_counts [] (suc n) = refl
more_counts (x ∷ xs) zero = refl
more_counts (x ∷ xs) (suc n) = more_counts xs n

pub kept_more : (rows : List WorkerRow) (counts : List ℕ) (entries : List (ℕ × ℕ)) (flags : List Bool) (new : WorkerRow)
    → IndexesWorkers rows counts entries flags → Counts new → new.number ≡ length rows
    → IndexesWorkers (rows ++ new ∷ []) (counts ++ 0 ∷ []) entries (flags ++ runs_activate new ∷ [])
kept_more rows counts entries flags new kept fits is = record {
  workers = more_at_places StandsAt rows new kept.workers (record { number = is; counts = fits });
  many = omega (arith, kept.many, length-append rows (new ∷ []), length-append counts (0 ∷ []));
  counted = λ n. kept.counted n ∙ sym (more_counts counts n);
  apart = kept.apart;
  activating = map-append runs_activate rows (new ∷ []) ∙ ap (λ fs. fs ++ runs_activate new ∷ []) kept.activating;
}
