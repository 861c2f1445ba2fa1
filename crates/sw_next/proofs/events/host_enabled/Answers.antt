use Rattle.std.proofs.Common.{◌∙◌, sym, ap}
use Rattle.std.specs.Prelude.{is_some}
use Rattle.sw_next.proofs.Enabling.{activated_where, added_where, tried_where}
use Rattle.sw_work.proofs.Others.{activated_comes, added_comes, evaluated_comes, fetched_comes, forgets_comes, installed_comes, run_comes, tries_comes}
use Rattle.sw_state.specs.Hosted.{state_of}
use Rattle.sw_next.proofs.events.host_enabled.Goals as goal

pub returns-in-Run : goal.returns-in-Run
returns-in-Run c =
    c.may_run.ensures ∙ ap is_some (sym (run_comes (state_of c.args.host.now) c.args.event.now c.in-Run.who c.in-Run.job c.requires c.in-Run.is))

pub returns-in-Fetched : goal.returns-in-Fetched
returns-in-Fetched c =
    c.may_end_fetch.ensures c.in-Fetched.line
    ∙ ap is_some (sym (fetched_comes (state_of c.args.host.now) c.args.event.now c.in-Fetched.who c.in-Fetched.job c.requires c.in-Fetched.line c.in-Fetched.is))

pub returns-in-Evaluated : goal.returns-in-Evaluated
returns-in-Evaluated c =
    c.may_evaluate.ensures
    ∙ ap is_some (sym (evaluated_comes (state_of c.args.host.now) c.args.event.now c.in-Evaluated.who c.in-Evaluated.job c.requires c.in-Evaluated.is))

pub returns-in-Installed : goal.returns-in-Installed
returns-in-Installed c =
    c.may_end_install.ensures
    ∙ ap is_some (sym (installed_comes (state_of c.args.host.now) c.args.event.now c.in-Installed.who c.in-Installed.job c.requires c.in-Installed.is))

pub returns-in-TryActivate : goal.returns-in-TryActivate
returns-in-TryActivate c =
    c.is_owed.ensures
    ∙ (tried_where (state_of c.args.host.now) c.in-TryActivate.registration
    ∙ ap is_some (sym (tries_comes (state_of c.args.host.now) c.args.event.now c.in-TryActivate.who c.in-TryActivate.registration c.requires c.in-TryActivate.is)))

pub returns-in-Activated : goal.returns-in-Activated
returns-in-Activated c =
    c.is_at_end.ensures
    ∙ (activated_where (state_of c.args.host.now) c.in-Activated.worker
    ∙ ap is_some (sym (activated_comes (state_of c.args.host.now) c.args.event.now c.in-Activated.who c.in-Activated.worker c.requires c.in-Activated.is)))

pub returns-in-Added : goal.returns-in-Added
returns-in-Added c =
    c.is_unsettled.ensures
    ∙ (added_where (state_of c.args.host.now) c.in-Added.task c.in-Added.lines
    ∙ ap is_some (sym (added_comes (state_of c.args.host.now) c.args.event.now c.in-Added.who c.in-Added.task c.requires c.in-Added.lines c.in-Added.is)))

pub returns-in-Forget : goal.returns-in-Forget
returns-in-Forget c =
    sym (ap is_some (forgets_comes (state_of c.args.host.now) c.args.event.now c.in-Forget.who c.in-Forget.place c.requires c.in-Forget.is))
