-- An addAll whose fetches have ended settles with what was done to its cache.
use Rattle.std.proofs.Common.{◌≡◌, ◌∙◌, ℕ, List, Option, Some, None, refl, true, subst, arith, if◌then◌else◌}
use Rattle.std.specs.Prelude.{false, Result, Ok, Err, find, is_none, option_and_then}
use Rattle.std.specs.Option.{option_map_or}
use Rattle.std.proofs.lemmas.List.{append-nil}
use Rattle.sw_cachestorage.specs.Acts.{IsOutcome, IsStep}
use Rattle.sw_cachestorage.specs.Added.{IsAdded, is_fault, settled_by, stored, value_of}
use Rattle.sw_cachestorage.specs.declared.act.CacheStep.{CacheStep}
use Rattle.sw_data.specs.declared.answers.Answer.TheVariants as answer
use Rattle.sw_data.specs.declared.answers.Fault.{Fault}
use Rattle.sw_data.specs.declared.answers.Fault.TheVariants as fault
use Rattle.sw_data.specs.declared.exchange.Op.{Op}
use Rattle.sw_data.specs.declared.recordings.FetchLine.{FetchLine}
use Rattle.sw_ledgers.specs.Tasks.{has_task}
use Rattle.sw_rules.specs.Batch.{BatchFault, batch}
use Rattle.sw_rules.specs.Caching.{added, batch_changes, batch_fault, carry_out, pairs_of, puts_of, responses_fault, run_batch, settle_task, store_task, task_ended, task_refused, with_cache_pairs}
use Rattle.sw_rules.specs.Matching.{Pair}
use Rattle.sw_rules.specs.Rows.{is_task}
use Rattle.sw_rules.specs.State.{State, AddAll}
use Rattle.sw_rules.specs.Told.{Outcome, followed, refused}
use Rattle.sw_tables.proofs.Rows.{found_number}

module _ (here : State) (lines : List (Option FetchLine)) (row : AddAll) (step : CacheStep) where
  abbrev Does : Outcome → Type 0
  Does outcome = IsOutcome outcome here here.caches step

  abbrev Settles : Outcome → Type 0
  Settles outcome = IsAdded outcome here row.number (settled_by step)

  refuses : (why : Fault) → Does (refused here why) → Settles (task_refused here row.number why)
  unfolding settle_task
  refuses why is = record {
    answer = is.answer;
    notices = refl;
    state_is = (λ i. (settle_task (is.state_is i) row.number (value_of (is.answer i)) (is_fault (is.answer i))).state);
    changes = is.changes;
  }

  abbrev ops : List Op
  ops = puts_of row.requests lines

  stores : (pairs : List Pair) → Does (run_batch here row.key row.name ops answer.Ok batch_fault pairs) → Settles (store_task here row ops pairs)
  unfolding carry_out settle_task followed
  stores pairs = by (batch pairs ops)
    where
      by : (result : Result (List Pair) BatchFault)
          → Does (elim result [ Ok new ↦ record { answer = answer.Ok; told = carry_out here row.key row.name ops new } | Err why ↦ refused here (batch_fault why) ])
          → Settles (elim result [
            | Err why ↦ task_refused here row.number (batch_fault why)
            | Ok new ↦ record {
              answer = answer.Ok;
              told = followed (carry_out here row.key row.name ops new) (λ kept. settle_task kept row.number (value_of answer.Ok) (is_fault answer.Ok));
            }
          ])
      by (Ok new) is = record {
        answer = is.answer;
        notices = refl;
        state_is = (λ i. (settle_task (is.state_is i) row.number (value_of (is.answer i)) (is_fault (is.answer i))).state);
        changes = append-nil (batch_changes row.key row.name ops) ∙ is.changes;
      }
      by (Err why) is = refuses (batch_fault why) is

  ends_at : Does (stored here lines row) → Settles (task_ended here lines row)
  ends_at = by (responses_fault 0 row.requests lines)
    where
      on_pairs : (found : Option (List Pair))
          → Does (elim found [ None ↦ refused here fault.CacheGone | Some pairs ↦ run_batch here row.key row.name ops answer.Ok batch_fault pairs ])
          → Settles (elim found [ None ↦ task_refused here row.number fault.CacheGone | Some pairs ↦ store_task here row ops pairs ])
      on_pairs None is = refuses fault.CacheGone is
      on_pairs (Some pairs) is = stores pairs is

      by : (bad : Option Fault)
          → Does (elim bad [ Some why ↦ refused here why | None ↦ with_cache_pairs here row.key row.name (run_batch here row.key row.name ops answer.Ok batch_fault) ])
          → Settles (elim bad [
            | Some why ↦ task_refused here row.number why
            | None ↦ elim (pairs_of row.key row.name here.caches) [ None ↦ task_refused here row.number fault.CacheGone | Some pairs ↦ store_task here row ops pairs ]
          ])
      by (Some why) is = refuses why is
      by None is = on_pairs (pairs_of row.key row.name here.caches) is

  pub ends : (task : ℕ) → find (is_task task) here.tasks ≡ Some row → has_task (λ r. is_none r.settled) task here.tasks ≡ true
      → IsStep here.caches (λ state. stored state lines row) step
      → (outcome : Outcome) × (added here task lines ≡ Some outcome) × IsAdded outcome here task (settled_by step)
  ends task found unsettled is =
      let number : row.number ≡ task = found_number (λ r. r.number) task here.tasks row found in
      (task_ended here lines row, enabled (find (is_task task) here.tasks) found unsettled, subst (λ n. IsAdded (task_ended here lines row) here n (settled_by step)) number (ends_at (is here)))
    where
      enabled : (o : Option AddAll) → o ≡ Some row → option_map_or (λ r. is_none r.settled) o false ≡ true
          → option_and_then (λ r. if is_none r.settled then Some (task_ended here lines r) else None) o ≡ Some (task_ended here lines row)
      enabled None is passes = absurd cc
      enabled (Some r) is passes = grind (arith, is, passes)
