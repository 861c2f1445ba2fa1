use Rattle.std.proofs.Common.{Option, sym, subst}
use Rattle.sw_finish.proofs.Doing.{with_tables}
use Rattle.sw_state.specs.contracts.tables.HostTables.{the_view}
use Rattle.sw_data.specs.declared.answers.Answer.{Answer}
use Rattle.sw_install.specs.Fetches.{ComesTo}
use Rattle.sw_laws.specs.Coherent.{Coherent}
use Rattle.sw_rules.specs.Installing as rules
use Rattle.sw_tables.specs.Happened.{Happened}
use Rattle.sw_work.proofs.Coherence.{under_way}
use Rattle.sw_state.specs.Hosted.{Hosted, rest_of, state_of}
use Rattle.sw_finish.proofs.hosting.fetched.Goals as goal

pub fetched-done-requires-clause-goes : goal.fetched-done-requires-clause-goes
fetched-done-requires-clause-goes c =
    let host : Hosted = the_view c.host.inside in
    under_way host.scopes host.workers host.registrations host.clients (rest_of host) c.args.job
    (subst (λ (h : Hosted). Coherent (state_of h)) (sym c.host.view_is) c.requires.coherent) c.host.invariant.linked

pub returns : goal.returns
returns c line comes =
    let host : Hosted = the_view c.host.inside in
    let new = c.fetched-done.new in
    let after : Hosted = with_tables host new.map new.workers new.registrations new.clients new.queues in
    subst (λ (h : Hosted). Happened (rules.fetched (state_of h) c.args.job line) c.fetched_answer.result c.args.notices.now new.notices (state_of h) (state_of after)) c.host.view_is
    (subst (λ (r : Option Answer). Happened (rules.fetched (state_of host) c.args.job line) r c.args.notices.now new.notices (state_of host) (state_of after)) (sym c.fetched_answer.ensures)
    (c.fetched-done.ensures.did (rest_of host) line
    (subst (λ (h : Hosted). ComesTo c.args.outcome c.args.rows.worker (state_of h) c.args.job line) (sym c.host.view_is) comes)))
