use Rattle.std.proofs.Common.{◌∙◌, false, option_map, option_and_then, sym, ap}
use Rattle.std.specs.Option.{option_copied, option_map_or}
use Rattle.sw_next.proofs.Searching.{fewer_left, is_last, none_left, passes_both, passes_one}
use Rattle.sw_data.specs.declared.histories.Task.TheVariants as task
use Rattle.sw_data.specs.declared.rows.JobRow.{JobRow}
use Rattle.sw_rules.specs.Rows.{free_handler, is_in_phase, is_install, is_installing}
use Rattle.sw_rules.specs.State.{Handler}
use Rattle.sw_state.specs.Hosted.{state_of}
use Rattle.sw_next.proofs.tasks.installing.Goals as goal

pub returns-then-goes_on : goal.returns-then-goes_on
returns-then-goes_on c =
    ap (option_map (λ (row : JobRow). task.Install row.job.number))
    (passes_both (λ (row : JobRow). row.job.number) (is_in_phase is_installing)
    (λ (row : JobRow). option_map_or (λ (handler : Handler). is_install handler.phase) (option_and_then (free_handler (state_of c.args.host.now)) row.worker) false)
    c.args.queues.now.rows c.are_numbered.ensures c.loop-row.from c.in-Some.row.now
    (sym c.next_installing.ensures ∙ ap option_copied c.in-Some.is) (sym c.goes_on.ensures ∙ c.if-goes_on.true) c.loop-row.invariant)

pub loop-row-smaller : goal.loop-row-smaller
loop-row-smaller c =
    fewer_left (λ (row : JobRow). row.job.number) (is_in_phase is_installing)
    (λ (row : JobRow). option_map_or (λ (handler : Handler). is_install handler.phase) (option_and_then (free_handler (state_of c.args.host.now)) row.worker) false)
    c.args.queues.now.rows c.are_numbered.ensures c.loop-row.from c.in-Some.row.now
    (sym c.next_installing.ensures ∙ ap option_copied c.in-Some.is) c.in_ok-from.from (sym c.in_ok-from.was ∙ c.job_behind.ensures)

pub loop-row-preserved : goal.loop-row-preserved
loop-row-preserved c =
    passes_one (λ (row : JobRow). row.job.number) (is_in_phase is_installing)
    (λ (row : JobRow). option_map_or (λ (handler : Handler). is_install handler.phase) (option_and_then (free_handler (state_of c.args.host.now)) row.worker) false)
    c.args.queues.now.rows c.are_numbered.ensures c.loop-row.from c.in-Some.row.now
    (sym c.next_installing.ensures ∙ ap option_copied c.in-Some.is) c.in_ok-from.from (sym c.goes_on.ensures ∙ c.if-goes_on.false) (sym c.in_ok-from.was ∙ c.job_behind.ensures) c.loop-row.invariant

pub returns-in_err-from : goal.returns-in_err-from
returns-in_err-from c =
    c.from_residual.ensures ∙ ap (option_map (λ (row : JobRow). task.Install row.job.number))
    (is_last (λ (row : JobRow). row.job.number) (is_in_phase is_installing)
    (λ (row : JobRow). option_map_or (λ (handler : Handler). is_install handler.phase) (option_and_then (free_handler (state_of c.args.host.now)) row.worker) false)
    c.args.queues.now.rows c.are_numbered.ensures c.loop-row.from c.in-Some.row.now
    (sym c.next_installing.ensures ∙ ap option_copied c.in-Some.is) (sym c.goes_on.ensures ∙ c.if-goes_on.false) (sym c.in_err-from.was ∙ c.job_behind.ensures) c.loop-row.invariant)

pub returns : goal.returns
returns c =
    ap (option_map (λ (row : JobRow). task.Install row.job.number))
    (none_left (λ (row : JobRow). row.job.number) (is_in_phase is_installing)
    (λ (row : JobRow). option_map_or (λ (handler : Handler). is_install handler.phase) (option_and_then (free_handler (state_of c.args.host.now)) row.worker) false)
    c.args.queues.now.rows c.are_numbered.ensures c.loop-row.from
    (sym c.next_installing.ensures ∙ ap option_copied c.in_default.is) c.loop-row.invariant)
