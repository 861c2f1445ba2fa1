use Rattle.std.proofs.Common.{Option, sym, subst}
use Rattle.sw_finish.proofs.Doing.{with_tables}
use Rattle.sw_state.specs.contracts.tables.HostTables.{the_view}
use Rattle.sw_data.specs.declared.answers.Answer.{Answer}
use Rattle.sw_rules.specs.Registering as rules
use Rattle.sw_tables.specs.Happened.{Happened}
use Rattle.sw_state.specs.Hosted.{Hosted, rest_of, state_of}
use Rattle.sw_finish.proofs.hosting.run_unregister.Goals as goal

pub returns : goal.returns
returns c =
    let host : Hosted = the_view c.host.inside in
    let new = c.run_unregister-done.new in
    let after : Hosted = with_tables host new.map new.workers new.registrations new.clients new.queues in
    subst (λ (h : Hosted). Happened (rules.run (state_of h) c.args.job) c.finished_answer.result c.args.notices.now new.notices (state_of h) (state_of after)) c.host.view_is
    (subst (λ (r : Option Answer). Happened (rules.run (state_of host) c.args.job) r c.args.notices.now new.notices (state_of host) (state_of after)) (sym c.finished_answer.ensures)
    (c.run_unregister-done.ensures.did (rest_of host)))
