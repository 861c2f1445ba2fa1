use Rattle.std.proofs.Common.{◌≡◌, ◌∙◌, Some, option_map, ap, subst, sym}
use Rattle.sw_pages.proofs.Pending.{end_here, event_there, worker_there}
use Rattle.sw_state.specs.Hosted.{Hosted, IsJoined}
use Rattle.sw_tables.specs.Linked.{registration_of}
use Rattle.sw_worker.specs.Table.{event_at}
use Rattle.sw_pages.proofs.events.end.Goals as goal

pub returns-in-Some-registration_of-clause-gives : goal.returns-in-Some-registration_of-clause-gives
returns-in-Some-registration_of-clause-gives c who =
    let there = subst (λ (h : Hosted). Some c.in-Some.worker ≡ option_map (λ found. found.worker) (event_at c.args.event h.workers.events)) c.host.view_is c.in-Some.ensures in
    end_here c.args.host.now c.args.event c.in-Some.worker c.in-Some-registration_of.registration there c.in-Some-registration_of.ensures

pub returns-in-None-clause-gives : goal.returns-in-None-clause-gives
returns-in-None-clause-gives c =
    let now = c.args.host.now in
    let joined = subst IsJoined c.host.view_is c.host.invariant in
    let there = subst (λ (h : Hosted). Some c.in-Some.worker ≡ option_map (λ found. found.worker) (event_at c.args.event h.workers.events)) c.host.view_is c.in-Some.ensures in
    let found = event_there c.in-Some.worker (event_at c.args.event now.workers.events) there in
    absurd (worker_there now.workers c.args.event found.0 joined.linked.slots.events found.1
    (c.in-None.ensures ∙ ap (registration_of now.workers.rows) (sym found.2)))
