use Rattle.std.proofs.Common.{refl, sym, ap, subst}
use Rattle.sw_cachestorage.specs.Adding.{added_by}
use Rattle.sw_finish.proofs.Doing.{call_follows, left_in, promise_follows}
use Rattle.sw_rules.specs.Caching.{add_task}
use Rattle.sw_rules.specs.Noticing.{Did}
use Rattle.sw_rules.specs.Told.{Told}
use Rattle.sw_tables.proofs.Chain.{did_quietly}
use Rattle.sw_state.specs.Hosted.{state_of}
use Rattle.sw_work.specs.Plans.{FitsThen, told_then}
use Rattle.sw_work.specs.declared.plan.Then.{Then}
use Rattle.sw_finish.proofs.acts.start_then.Goals as goal

pub start_called-requires-clause-calls : goal.start_called-requires-clause-calls
start_called-requires-clause-calls c =
    left_in c.args.host.now c.in-Called.worker
    (subst (λ (t : Then). FitsThen t (state_of c.args.host.now) c.args.host.now) c.in-Called.is c.requires.then)

pub returns-in-Nothing : goal.returns-in-Nothing
unfolding add_task
returns-in-Nothing c notices =
    let told = added_by c.args.new (state_of c.args.host.now) in
    subst (λ (t : Then). Did (told_then t told) notices notices (state_of c.start_all.new.host)) (sym c.in-Nothing.is)
    (did_quietly told notices (state_of c.start_all.new.host) refl (sym (ap (λ (t : Told). t.state) c.start_all.ensures.told)))

pub returns-in-Promise : goal.returns-in-Promise
unfolding add_task
returns-in-Promise c notices =
    let told = added_by c.args.new (state_of c.args.host.now) in
    subst (λ (t : Then). Did (told_then t told) notices notices (state_of c.start_promised.new.host)) (sym c.in-Promise.is)
    (promise_follows told c.in-Promise.row notices notices told.state (state_of c.start_promised.new.host) (did_quietly told notices told.state refl refl) c.start_promised.ensures)

pub returns-in-Called : goal.returns-in-Called
unfolding add_task
returns-in-Called c notices =
    let told = added_by c.args.new (state_of c.args.host.now) in
    subst (λ (t : Then). Did (told_then t told) notices notices (state_of c.start_called.new.host)) (sym c.in-Called.is)
    (call_follows told c.in-Called.worker c.in-Called.fault notices notices told.state (state_of c.start_called.new.host) (did_quietly told notices told.state refl refl) c.start_called.ensures.state)
