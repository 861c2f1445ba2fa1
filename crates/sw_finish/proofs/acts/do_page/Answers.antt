use Rattle.std.proofs.Common.{refl, sym, subst}
use Rattle.sw_pages.specs.Acts.{told_by}
use Rattle.sw_pages.specs.declared.worked.PageAct.{PageAct}
use Rattle.sw_rules.specs.Clients.{add_client, add_event}
use Rattle.sw_rules.specs.Jobs.{schedule}
use Rattle.sw_rules.specs.Noticing.{Did}
use Rattle.sw_tables.proofs.Chain.{did_quietly}
use Rattle.sw_state.specs.Hosted.{state_of}
use Rattle.sw_finish.proofs.acts.do_page.Goals as goal

pub returns-in-Open-clause-did : goal.returns-in-Open-clause-did
unfolding add_client
returns-in-Open-clause-did c =
    subst (λ (a : PageAct). Did (told_by a (state_of c.args.host.now)) c.args.notices.now c.args.notices.now (state_of c.add_client.new.host)) (sym c.in-Open.is)
    (did_quietly (add_client (state_of c.args.host.now) c.in-Open.new.client) c.args.notices.now (state_of c.add_client.new.host) refl c.add_client.ensures.state)

pub returns-in-Schedule-clause-did : goal.returns-in-Schedule-clause-did
unfolding schedule
returns-in-Schedule-clause-did c =
    subst (λ (a : PageAct). Did (told_by a (state_of c.args.host.now)) c.args.notices.now c.args.notices.now (state_of c.schedule.new.host)) (sym c.in-Schedule.is)
    (did_quietly (schedule (state_of c.args.host.now) c.in-Schedule.row.job) c.args.notices.now (state_of c.schedule.new.host) refl c.schedule.ensures.state)

pub returns-in-Begin-clause-did : goal.returns-in-Begin-clause-did
unfolding add_event
returns-in-Begin-clause-did c =
    subst (λ (a : PageAct). Did (told_by a (state_of c.args.host.now)) c.args.notices.now c.args.notices.now (state_of c.begin_event.new.host)) (sym c.in-Begin.is)
    (did_quietly (add_event (state_of c.args.host.now) c.in-Begin.new.number c.in-Begin.new.worker) c.args.notices.now (state_of c.begin_event.new.host) refl c.begin_event.ensures.state)
