use Rattle.std.proofs.Common.{◌≡◌, subst}
use Rattle.std.specs.List.{list_any}
use Rattle.sw_lane.specs.Picked.{is_task}
use Rattle.sw_rules.specs.Tasks.{ready_tasks}
use Rattle.sw_state.specs.Hosted.{Hosted, state_of}
use Rattle.sw_core.proofs.core_tables.Core.ready.Goals as goal

pub returns : goal.returns
returns c = subst (λ (h : Hosted). c.ready.result ≡ list_any (is_task c.args.task) (ready_tasks (state_of h))) c.self.view_is c.ready.ensures
