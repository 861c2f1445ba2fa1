use Rattle.std.proofs.Common.{◌∙◌, ℕ, Some, option_map, option_copied, ap, sym}
use Rattle.sw_data.specs.declared.rows.Job.{Job}
use Rattle.sw_pages.proofs.Asking.{newest_updated, none_updated}
use Rattle.sw_pages.specs.Acts.{outcome_of}
use Rattle.sw_pages.specs.Jobs.{schedules, update_job}
use Rattle.sw_rules.specs.Registering as rules
use Rattle.sw_state.specs.Hosted.{shown_of, state_of}
use Rattle.sw_tables.specs.Lent.{shown_worker}
use Rattle.sw_pages.proofs.jobs.update_named.Goals as goal

pub returns-in_default-newest_row-clause-gives : goal.returns-in_default-newest_row-clause-gives
returns-in_default-newest_row-clause-gives c who =
    let host = c.args.host.now in
    ap (λ r. rules.update_named (state_of host) who (option_map (shown_of host) (option_copied r)) c.args.referrer.now) c.in-Some.is
    ∙ none_updated (state_of host) who (shown_of host c.in-Some.row.now) c.args.referrer.now (sym c.in_default-newest_row.ensures)
    ∙ ap (λ w. outcome_of who w (state_of host)) (sym c.rejected-in_default-newest_row.ensures)

pub returns-clause-gives : goal.returns-clause-gives
returns-clause-gives c who =
    let host = c.args.host.now in
    let row = c.in-Some.row.now in
    let newest = c.in-Some-newest_row.newest.now in
    ap (λ r. rules.update_named (state_of host) who (option_map (shown_of host) (option_copied r)) c.args.referrer.now) c.in-Some.is
    ∙ newest_updated (state_of host) who (shown_of host row) c.args.referrer.now (shown_worker newest) (sym c.in-Some-newest_row.ensures)
    ∙ ap (λ (job : Job). outcome_of who (schedules host.queues.rows job) (state_of host))
    (sym (c.in_ok-update_job.ensures ∙ ap (λ (n : ℕ). update_job n row newest (Some c.args.referrer.now)) c.in_ok-number.ensures))
