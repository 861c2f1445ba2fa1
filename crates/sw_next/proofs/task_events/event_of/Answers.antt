use Rattle.std.proofs.Common.{subst}
use Rattle.sw_next.proofs.TaskEvents.{happens, happens_some}
use Rattle.sw_data.specs.declared.rows.JobRow.{JobRow}
use Rattle.sw_tables.specs.Linked.{ArePlaces}
use Rattle.sw_state.specs.Hosted.{Hosted}
use Rattle.sw_next.proofs.task_events.event_of.Goals as goal

pub returns-clause-none : goal.returns-clause-none
returns-clause-none c =
    happens_some c.args.host.now
    (subst (λ (h : Hosted). ArePlaces (λ (row : JobRow). row.job.number) h.queues.rows) c.host.view_is c.are_numbered.ensures)
    c.args.task c.requires.ready c.own_event.result c.own_event.ensures

pub returns-clause-event : goal.returns-clause-event
returns-clause-event c = happens c.args.host.now c.args.task c.own_event.result c.own_event.ensures
