use Rattle.std.proofs.Common.{◌∙◌, ℕ, None, option_map, option_copied, ap, sym}
use Rattle.sw_data.specs.declared.rows.Job.{Job}
use Rattle.sw_pages.proofs.Asking.{newest_soft_updated}
use Rattle.sw_pages.specs.Acts.{outcome_of}
use Rattle.sw_pages.specs.Jobs.{schedules, update_job}
use Rattle.sw_rules.specs.Registering as rules
use Rattle.sw_state.specs.Hosted.{shown_of, state_of}
use Rattle.sw_tables.specs.Lent.{shown_worker}
use Rattle.sw_pages.proofs.jobs.soft_update_named.Goals as goal

pub returns-clause-gives : goal.returns-clause-gives
returns-clause-gives c who =
    let host = c.args.host.now in
    let row = c.in-Some.row.now in
    let newest = c.in-Some-newest_row.newest.now in
    ap (λ r. rules.soft_update_named (state_of host) (option_map (shown_of host) (option_copied r))) c.in-Some.is
    ∙ newest_soft_updated (state_of host) who (shown_of host row) (shown_worker newest) (sym c.in-Some-newest_row.ensures)
    ∙ ap (λ (job : Job). outcome_of who (schedules host.queues.rows job) (state_of host))
    (sym (c.in_ok-update_job.ensures ∙ ap (λ (n : ℕ). update_job n row newest None) c.in_ok-number.ensures))
