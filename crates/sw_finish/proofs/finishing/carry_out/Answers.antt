use Rattle.std.proofs.Common.{Option, subst}
use Rattle.sw_finish.proofs.Going.{agree_goes}
use Rattle.sw_rules.specs.Told.{Outcome}
use Rattle.sw_tables.specs.Happened.{Happened}
use Rattle.sw_state.specs.Hosted.{state_of}
use Rattle.sw_work.specs.Plans.{Means, started_outcome}
use Rattle.sw_work.specs.declared.plan.Work.{Work}
use Rattle.sw_finish.proofs.finishing.carry_out.Goals as goal

pub returns-in-Start : goal.returns-in-Start
returns-in-Start c outcome means =
    let agrees = subst (λ (w : Work). Means w c.args.host.now outcome) c.in-Start.is means in
    agree_goes outcome (started_outcome c.in-Start.answer c.in-Start.new c.in-Start.then (state_of c.args.host.now)) c.do_start.result c.args.notices.now c.args.notices.now
    (state_of c.do_start.new.host) agrees.same (c.do_start.ensures c.args.notices.now)

pub returns-in-Fetched : goal.returns-in-Fetched
returns-in-Fetched c outcome means =
    let meant = subst (λ (w : Work). Means w c.args.host.now outcome) c.in-Fetched.is means in
    let happened =
    subst (λ (o : Option Outcome). Happened o c.fetched.result c.args.notices.now c.fetched.new.notices (state_of c.args.host.now) (state_of c.fetched.new.host)) meant.1
    (c.fetched.ensures meant.0 meant.2) in
    record { answer = happened.0; did = happened.1 }

pub returns-in-Added : goal.returns-in-Added
returns-in-Added c outcome means =
    c.do_added.ensures outcome c.args.notices.now (subst (λ (w : Work). Means w c.args.host.now outcome) c.in-Added.is means)
