use Rattle.std.proofs.Common.{sym, subst}
use Rattle.sw_finish.proofs.Doing.{call_follows, promise_follows}
use Rattle.sw_rules.specs.Noticing.{Did}
use Rattle.sw_state.specs.Hosted.{state_of}
use Rattle.sw_work.specs.Plans.{told_then}
use Rattle.sw_work.specs.declared.plan.Then.{Then}
use Rattle.sw_finish.proofs.acts.follow.Goals as goal

pub returns-in-Promise : goal.returns-in-Promise
returns-in-Promise c told before after did =
    subst (λ (t : Then). Did (told_then t told) before after (state_of c.promise.new.host)) (sym c.in-Promise.is)
    (promise_follows told c.in-Promise.row before after (state_of c.args.host.now) (state_of c.promise.new.host) did c.promise.ensures)

pub returns-in-Called : goal.returns-in-Called
returns-in-Called c told before after did =
    subst (λ (t : Then). Did (told_then t told) before after (state_of c.call_made.new.host)) (sym c.in-Called.is)
    (call_follows told c.in-Called.worker c.in-Called.fault before after (state_of c.args.host.now) (state_of c.call_made.new.host) did c.call_made.ensures)
