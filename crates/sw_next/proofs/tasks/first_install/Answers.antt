use Rattle.std.proofs.Common.{◌∙◌, List, find, option_map, sym, ap}
use Rattle.sw_next.proofs.FirstReady.{first_install}
use Rattle.sw_data.specs.declared.histories.Task.TheVariants as task
use Rattle.sw_data.specs.declared.rows.JobRow.{JobRow}
use Rattle.sw_rules.specs.Tasks.{may_install}
use Rattle.sw_state.specs.Hosted.{Hosted, state_of}
use Rattle.sw_next.proofs.tasks.first_install.Goals as goal

pub returns : goal.returns
returns c =
    c.installing.ensures
    ∙ (ap (λ (rows : List JobRow). option_map (λ (row : JobRow). task.Install row.job.number) (find (may_install (state_of c.args.host.now)) rows))
    (ap (λ (h : Hosted). h.queues.rows) c.host.view_is) ∙ sym (first_install c.args.host.now))
