use Rattle.std.proofs.Common.{◌∙◌, not, option_map, sym, ap}
use Rattle.std.specs.Option.{option_copied}
use Rattle.sw_data.specs.declared.rows.JobRow.{JobRow}
use Rattle.sw_data.specs.declared.histories.Task.TheVariants as task
use Rattle.sw_lane.specs.Picked.{in_flight}
use Rattle.sw_rules.specs.Rows.{is_in_phase, is_fetching}
use Rattle.sw_next.proofs.Searching.{fewer_left, is_last, none_left, passes_both, passes_one}
use Rattle.sw_next.specs.Flying.{is_left}
use Rattle.sw_next.proofs.tasks.script_fetch.Goals as goal

pub returns-then-not-is_in_flight : goal.returns-then-not-is_in_flight
returns-then-not-is_in_flight c =
    ap (option_map (λ (row : JobRow). task.Fetch row.job.number))
    (passes_both (λ (row : JobRow). row.job.number) (is_in_phase is_fetching) (λ (row : JobRow). is_left (in_flight c.args.flights.now) (task.Fetch row.job.number))
    c.args.queues.now.rows c.are_numbered.ensures c.loop-row.from c.in-Some.row.now
    (sym c.next_fetching.ensures ∙ ap option_copied c.in-Some.is) (ap not (sym c.is_in_flight.ensures ∙ c.if-not-is_in_flight.true)) c.loop-row.invariant)

pub loop-row-smaller : goal.loop-row-smaller
loop-row-smaller c =
    fewer_left (λ (row : JobRow). row.job.number) (is_in_phase is_fetching) (λ (row : JobRow). is_left (in_flight c.args.flights.now) (task.Fetch row.job.number))
    c.args.queues.now.rows c.are_numbered.ensures c.loop-row.from c.in-Some.row.now
    (sym c.next_fetching.ensures ∙ ap option_copied c.in-Some.is) c.in_ok-from.from (sym c.in_ok-from.was ∙ c.job_behind.ensures)

pub loop-row-preserved : goal.loop-row-preserved
loop-row-preserved c =
    passes_one (λ (row : JobRow). row.job.number) (is_in_phase is_fetching) (λ (row : JobRow). is_left (in_flight c.args.flights.now) (task.Fetch row.job.number))
    c.args.queues.now.rows c.are_numbered.ensures c.loop-row.from c.in-Some.row.now
    (sym c.next_fetching.ensures ∙ ap option_copied c.in-Some.is) c.in_ok-from.from
    (ap not (sym c.is_in_flight.ensures ∙ c.if-not-is_in_flight.false)) (sym c.in_ok-from.was ∙ c.job_behind.ensures) c.loop-row.invariant

pub returns-in_err-from : goal.returns-in_err-from
returns-in_err-from c =
    c.from_residual.ensures ∙ ap (option_map (λ (row : JobRow). task.Fetch row.job.number))
    (is_last (λ (row : JobRow). row.job.number) (is_in_phase is_fetching) (λ (row : JobRow). is_left (in_flight c.args.flights.now) (task.Fetch row.job.number))
    c.args.queues.now.rows c.are_numbered.ensures c.loop-row.from c.in-Some.row.now
    (sym c.next_fetching.ensures ∙ ap option_copied c.in-Some.is) (ap not (sym c.is_in_flight.ensures ∙ c.if-not-is_in_flight.false)) (sym c.in_err-from.was ∙ c.job_behind.ensures) c.loop-row.invariant)

pub returns : goal.returns
returns c =
    ap (option_map (λ (row : JobRow). task.Fetch row.job.number))
    (none_left (λ (row : JobRow). row.job.number) (is_in_phase is_fetching) (λ (row : JobRow). is_left (in_flight c.args.flights.now) (task.Fetch row.job.number))
    c.args.queues.now.rows c.are_numbered.ensures c.loop-row.from
    (sym c.next_fetching.ensures ∙ ap option_copied c.in_default.is) c.loop-row.invariant)
