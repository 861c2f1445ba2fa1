use Rattle.std.proofs.Common.{◌∙◌, List, find, option_map, sym, ap, subst}
use Rattle.sw_next.proofs.Handling.{activating_found}
use Rattle.sw_next.proofs.FirstReady.{first_activate}
use Rattle.sw_next.specs.Free.{activates}
use Rattle.sw_data.specs.declared.histories.Task.TheVariants as task
use Rattle.sw_data.specs.declared.rows.WorkerRow.{WorkerRow}
use Rattle.sw_state.specs.Hosted.{Hosted, IsJoined, state_of}
use Rattle.sw_next.proofs.tasks.first_activate.Goals as goal

pub returns : goal.returns
returns c =
    c.activating.ensures
    ∙ (ap (option_map (λ (row : WorkerRow). task.Activate row.number))
    (ap (λ (rows : List WorkerRow). find (activates (state_of c.args.host.now)) rows) (ap (λ (h : Hosted). h.workers.rows) c.host.view_is)
    ∙ activating_found c.args.host.now (subst IsJoined c.host.view_is c.host.invariant))
    ∙ sym (first_activate c.args.host.now))
