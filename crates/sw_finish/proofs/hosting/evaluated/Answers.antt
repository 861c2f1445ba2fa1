use Rattle.std.proofs.Common.{Option, sym, subst}
use Rattle.sw_finish.proofs.Doing.{with_tables}
use Rattle.sw_state.specs.contracts.tables.HostTables.{the_view}
use Rattle.sw_data.specs.declared.answers.Answer.{Answer}
use Rattle.sw_laws.specs.Coherent.{Coherent}
use Rattle.sw_rules.specs.Installing as rules
use Rattle.sw_tables.specs.Happened.{Happened}
use Rattle.sw_work.proofs.Coherence.{under_way}
use Rattle.sw_state.specs.Hosted.{Hosted, rest_of, state_of}
use Rattle.sw_finish.proofs.hosting.evaluated.Goals as goal

pub evaluated-done-requires-clause-goes : goal.evaluated-done-requires-clause-goes
evaluated-done-requires-clause-goes c =
    let host : Hosted = the_view c.host.inside in
    under_way host.scopes host.workers host.registrations host.clients (rest_of host) c.args.job
    (subst (λ (h : Hosted). Coherent (state_of h)) (sym c.host.view_is) c.requires.coherent) c.host.invariant.linked

pub returns : goal.returns
returns c =
    let host : Hosted = the_view c.host.inside in
    let new = c.evaluated-done.new in
    let after : Hosted = with_tables host new.map new.workers new.registrations new.clients new.queues in
    subst (λ (h : Hosted). Happened (rules.evaluated (state_of h) c.args.job) c.evaluated_answer.result c.args.notices.now new.notices (state_of h) (state_of after)) c.host.view_is
    (subst (λ (r : Option Answer). Happened (rules.evaluated (state_of host) c.args.job) r c.args.notices.now new.notices (state_of host) (state_of after)) (sym c.evaluated_answer.ensures)
    (c.evaluated-done.ensures.did (rest_of host)))
