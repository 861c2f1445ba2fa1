use Rattle.std.proofs.Common.{◌∙◌, option_map, slice_get, sym, ap}
use Rattle.std.specs.Option.{option_copied}
use Rattle.sw_next.proofs.FirstReady.{first_run}
use Rattle.sw_state.specs.contracts.tables.HostTables.{the_view}
use Rattle.sw_data.specs.declared.histories.Task.TheVariants as task
use Rattle.sw_data.specs.declared.rows.JobRow.{JobRow}
use Rattle.sw_rules.specs.Tasks.{runs}
use Rattle.sw_state.specs.Hosted.{Hosted, state_of}
use Rattle.sw_next.proofs.tasks.first_run.Goals as goal

pub returns-in_err-first_waiting : goal.returns-in_err-first_waiting
returns-in_err-first_waiting c =
    c.from_residual.ensures
    ∙ (ap (option_map (λ (row : JobRow). task.Run row.job.number)) (ap option_copied (sym c.in_err-first_waiting.was) ∙ c.first_waiting.ensures)
    ∙ (sym (first_run (the_view c.host.inside)) ∙ ap (λ (h : Hosted). slice_get (runs (state_of h)) 0) c.host.view_is))

pub returns : goal.returns
returns c =
    ap (option_map (λ (row : JobRow). task.Run row.job.number)) (ap option_copied (sym c.in_ok-first_waiting.was) ∙ c.first_waiting.ensures)
    ∙ (sym (first_run (the_view c.host.inside)) ∙ ap (λ (h : Hosted). slice_get (runs (state_of h)) 0) c.host.view_is)
