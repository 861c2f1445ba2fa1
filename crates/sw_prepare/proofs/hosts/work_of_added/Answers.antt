use Rattle.std.proofs.Common.{◌≡◌, ℕ, Bool, true, false, List, Option, Some, None, IsSome, is_none, option_and_then, refl, sym, subst, if◌then◌else◌}
use Rattle.std.specs.Option.{IfSome, option_map_or}
use Rattle.sw_cachestorage.specs.Added.{IsAdded}
use Rattle.sw_data.specs.declared.recordings.FetchLine.{FetchLine}
use Rattle.sw_ledgers.specs.Tasks.{has_task}
use Rattle.sw_rules.specs.Caching.{added, task_ended}
use Rattle.sw_rules.specs.Rows.{task_row}
use Rattle.sw_rules.specs.State.{State, AddAll}
use Rattle.sw_rules.specs.Told.{Outcome}
use Rattle.sw_state.specs.Hosted.{state_of}
use Rattle.sw_prepare.proofs.hosts.work_of_added.Goals as goal

-- an addAll whose fetches may end has not settled
unsettled : (state : State) (task : ℕ) (lines : List (Option FetchLine)) → IsSome (added state task lines) → has_task (λ row. is_none row.settled) task state.tasks ≡ true
unsettled state task lines ends = by (task_row state task) ends
  where
    taken : (test : Bool) (outcome : Outcome) → IsSome (if test then Some outcome else None) → test ≡ true
    taken true outcome is = refl
    taken false outcome is = absurd cc

    by : (found : Option AddAll) → IsSome (option_and_then (λ row. if is_none row.settled then Some (task_ended state lines row) else None) found)
        → option_map_or (λ row. is_none row.settled) found false ≡ true
    by None is = absurd cc
    by (Some row) is = taken (is_none row.settled) (task_ended state lines row) is

pub added-requires : goal.added-requires
added-requires c = unsettled (state_of c.args.host.now) c.args.task c.args.lines.now c.requires

pub returns-clause-works : goal.returns-clause-works
returns-clause-works c =
    let now = c.args.host.now in
    let ended = c.in_ok-step.ensures.step in
    record {
      means = subst (λ (o : Option Outcome). IfSome o (λ outcome. IsAdded outcome (state_of now) c.args.task c.in_ok-step.step)) (sym ended.1) ended.2;
      fits = record {
        act = c.in_ok-step.ensures.fits;
        unsettled =
            subst (λ (rows : List AddAll). has_task (λ row. is_none row.settled) c.args.task rows ≡ true) (sym c.added.ensures.same.tasks)
            (unsettled (state_of now) c.args.task c.args.lines.now c.requires);
      };
    }
