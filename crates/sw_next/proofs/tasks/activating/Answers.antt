use Rattle.std.proofs.Common.{◌∙◌, option_map, sym, ap}
use Rattle.std.specs.Option.{option_copied}
use Rattle.sw_next.proofs.Searching.{fewer_left, is_last, none_left, passes_both, passes_one}
use Rattle.sw_worker.specs.Table.{runs_activate}
use Rattle.sw_data.specs.declared.histories.Task.TheVariants as task
use Rattle.sw_data.specs.declared.rows.WorkerRow.{WorkerRow}
use Rattle.sw_rules.specs.Tasks.{may_activate}
use Rattle.sw_tables.specs.Lent.{shown_worker}
use Rattle.sw_state.specs.Hosted.{state_of}
use Rattle.sw_next.proofs.tasks.activating.Goals as goal

pub returns-then-may_activate : goal.returns-then-may_activate
returns-then-may_activate c =
    ap (option_map (λ (row : WorkerRow). task.Activate row.number))
    (passes_both (λ (row : WorkerRow). row.number) runs_activate
    (λ (row : WorkerRow). may_activate (state_of c.args.host.now) (shown_worker row))
    c.args.workers.now.rows c.requires c.loop-row.from c.in-Some.row.now
    (sym c.next_activating.ensures ∙ ap option_copied c.in-Some.is) (sym c.may_activate.ensures ∙ c.if-may_activate.true) c.loop-row.invariant)

pub loop-row-smaller : goal.loop-row-smaller
loop-row-smaller c =
    fewer_left (λ (row : WorkerRow). row.number) runs_activate
    (λ (row : WorkerRow). may_activate (state_of c.args.host.now) (shown_worker row))
    c.args.workers.now.rows c.requires c.loop-row.from c.in-Some.row.now
    (sym c.next_activating.ensures ∙ ap option_copied c.in-Some.is) c.in_ok-from.from (sym c.in_ok-from.was ∙ c.worker_behind.ensures)

pub loop-row-preserved : goal.loop-row-preserved
loop-row-preserved c =
    passes_one (λ (row : WorkerRow). row.number) runs_activate
    (λ (row : WorkerRow). may_activate (state_of c.args.host.now) (shown_worker row))
    c.args.workers.now.rows c.requires c.loop-row.from c.in-Some.row.now
    (sym c.next_activating.ensures ∙ ap option_copied c.in-Some.is) c.in_ok-from.from (sym c.may_activate.ensures ∙ c.if-may_activate.false) (sym c.in_ok-from.was ∙ c.worker_behind.ensures) c.loop-row.invariant

pub returns-in_err-from : goal.returns-in_err-from
returns-in_err-from c =
    c.from_residual.ensures ∙ ap (option_map (λ (row : WorkerRow). task.Activate row.number))
    (is_last (λ (row : WorkerRow). row.number) runs_activate
    (λ (row : WorkerRow). may_activate (state_of c.args.host.now) (shown_worker row))
    c.args.workers.now.rows c.requires c.loop-row.from c.in-Some.row.now
    (sym c.next_activating.ensures ∙ ap option_copied c.in-Some.is) (sym c.may_activate.ensures ∙ c.if-may_activate.false) (sym c.in_err-from.was ∙ c.worker_behind.ensures) c.loop-row.invariant)

pub returns : goal.returns
returns c =
    ap (option_map (λ (row : WorkerRow). task.Activate row.number))
    (none_left (λ (row : WorkerRow). row.number) runs_activate
    (λ (row : WorkerRow). may_activate (state_of c.args.host.now) (shown_worker row))
    c.args.workers.now.rows c.requires c.loop-row.from
    (sym c.next_activating.ensures ∙ ap option_copied c.in_default.is) c.loop-row.invariant)
