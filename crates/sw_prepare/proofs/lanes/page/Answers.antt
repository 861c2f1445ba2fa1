use Rattle.std.proofs.Common.{◌∙◌, is_some, sym, ap}
use Rattle.std.proofs.lemmas.Result.{IfOk-weaker}
use Rattle.sw_prepare.proofs.Given.{await_comes, begin_comes, given, ready_comes}
use Rattle.sw_data.specs.declared.events.Who.TheVariants as maker
use Rattle.sw_state.specs.Hosted.{state_of}
use Rattle.sw_prepare.proofs.lanes.page.Goals as goal

pub await_promise-requires : goal.await_promise-requires
await_promise-requires c at =
    ap is_some (sym (await_comes (state_of c.args.host.now) c.args.event.now c.in-Await.who c.args.lane c.args.at c.requires.who c.in-Await.of c.in-Await.is))
    ∙ c.requires.enabled

pub returns-in-Await-clause-gives : goal.returns-in-Await-clause-gives
returns-in-Await-clause-gives c =
    given _ _
    (await_comes (state_of c.args.host.now) c.args.event.now c.in-Await.who c.args.lane c.args.at c.requires.who c.in-Await.of c.in-Await.is
    ∙ c.await_promise.ensures.gives c.args.at)

pub ready-requires : goal.ready-requires
ready-requires c =
    ap is_some (sym (ready_comes (state_of c.args.host.now) c.args.event.now c.in-Ready.who c.args.lane c.args.at c.requires.who c.in-Ready.client c.in-Ready.is))
    ∙ c.requires.enabled

pub returns-in-Ready-clause-gives : goal.returns-in-Ready-clause-gives
returns-in-Ready-clause-gives c =
    given _ _
    (ready_comes (state_of c.args.host.now) c.args.event.now c.in-Ready.who c.args.lane c.args.at c.requires.who c.in-Ready.client c.in-Ready.is
    ∙ c.ready.ensures.gives (maker.Lane c.args.lane c.args.at))

pub begin-requires-clause-enabled : goal.begin-requires-clause-enabled
begin-requires-clause-enabled c =
    ap is_some (sym (begin_comes (state_of c.args.host.now) c.args.event.now c.in-Begin.who c.args.lane c.args.at c.requires.who c.in-Begin.client c.in-Begin.event c.in-Begin.is))
    ∙ c.requires.enabled

pub returns-in-Begin-clause-gives : goal.returns-in-Begin-clause-gives
returns-in-Begin-clause-gives c =
    IfOk-weaker c.begin.result _ _
    (λ worked gives.
    given _ _
    (begin_comes (state_of c.args.host.now) c.args.event.now c.in-Begin.who c.args.lane c.args.at c.requires.who c.in-Begin.client c.in-Begin.event c.in-Begin.is
    ∙ gives (maker.Lane c.args.lane c.args.at)))
    c.begin.ensures.gives
