use Rattle.std.proofs.Common.{◌∙◌, List, Option, is_some, ap, subst, sym}
use Rattle.std.specs.Prelude.{IfOk, IfSome}
use Rattle.sw_work.proofs.Others.{activated_comes, added_comes, evaluated_comes, fetched_comes, forgets_comes, installed_comes, run_comes, tries_comes}
use Rattle.sw_data.specs.declared.recordings.FetchLine.{FetchLine}
use Rattle.sw_rules.specs.Caching.{added}
use Rattle.sw_rules.specs.Installing.{fetched}
use Rattle.sw_rules.specs.Step.{step}
use Rattle.sw_rules.specs.Told.{Outcome}
use Rattle.sw_state.specs.Hosted.{state_of}
use Rattle.sw_work.specs.Plans.{Means, Works}
use Rattle.sw_work.proofs.Calling.{both_ok}
use Rattle.sw_work.proofs.Working.{comes_so}
use Rattle.sw_prepare.proofs.hosts.work_of_host.Goals as goal

pub work_of_run-requires : goal.work_of_run-requires
work_of_run-requires c =
    ap is_some (sym (run_comes (state_of c.args.host.now) c.args.event.now c.in-Run.who c.in-Run.job c.requires.who c.in-Run.is)) ∙ c.requires.enabled

pub returns-in-Run-clause-works : goal.returns-in-Run-clause-works
returns-in-Run-clause-works c =
    subst (λ (o : Option Outcome). IfOk c.work_of_run.result (Works c.args.host.now c.work_of_run.new.host o))
    (sym (run_comes (state_of c.args.host.now) c.args.event.now c.in-Run.who c.in-Run.job c.requires.who c.in-Run.is))
    c.work_of_run.ensures.works

pub work_of_fetched-requires-clause-ends : goal.work_of_fetched-requires-clause-ends
work_of_fetched-requires-clause-ends c =
    let state = state_of c.args.host.now in
    ap is_some
    (ap (λ (line : Option FetchLine). fetched state c.in-Fetched.job line) c.unboxed_option.ensures
    ∙ sym (fetched_comes state c.args.event.now c.in-Fetched.who c.in-Fetched.job c.requires.who c.in-Fetched.line c.in-Fetched.is))
    ∙ c.requires.enabled

pub returns-in-Fetched-clause-works : goal.returns-in-Fetched-clause-works
returns-in-Fetched-clause-works c =
    let state = state_of c.args.host.now in
    subst (λ (o : Option Outcome). IfOk c.work_of_fetched.result (Works c.args.host.now c.work_of_fetched.new.host o))
    (ap (λ (line : Option FetchLine). fetched state c.in-Fetched.job line) c.unboxed_option.ensures
    ∙ sym (fetched_comes state c.args.event.now c.in-Fetched.who c.in-Fetched.job c.requires.who c.in-Fetched.line c.in-Fetched.is))
    c.work_of_fetched.ensures.works

pub returns-in-Evaluated-clause-works : goal.returns-in-Evaluated-clause-works
returns-in-Evaluated-clause-works c = record {
  means = comes_so _ _ (evaluated_comes (state_of c.args.host.now) c.args.event.now c.in-Evaluated.who c.in-Evaluated.job c.requires.who c.in-Evaluated.is);
  fits = tt;
}

pub returns-in-Installed-clause-works : goal.returns-in-Installed-clause-works
returns-in-Installed-clause-works c = record {
  means = comes_so _ _ (installed_comes (state_of c.args.host.now) c.args.event.now c.in-Installed.who c.in-Installed.job c.requires.who c.in-Installed.is);
  fits = tt;
}

pub returns-in-TryActivate-clause-works : goal.returns-in-TryActivate-clause-works
returns-in-TryActivate-clause-works c = record {
  means =
      comes_so _ _ (tries_comes (state_of c.args.host.now) c.args.event.now c.in-TryActivate.who c.in-TryActivate.registration c.requires.who c.in-TryActivate.is);
  fits = tt;
}

pub returns-in-Activated-clause-works : goal.returns-in-Activated-clause-works
returns-in-Activated-clause-works c = record {
  means = comes_so _ _ (activated_comes (state_of c.args.host.now) c.args.event.now c.in-Activated.who c.in-Activated.worker c.requires.who c.in-Activated.is);
  fits = tt;
}

pub work_of_added-requires : goal.work_of_added-requires
work_of_added-requires c =
    let state = state_of c.args.host.now in
    ap is_some
    (ap (λ (lines : List (Option FetchLine)). added state c.in-Added.task lines) c.as_slice.ensures
    ∙ sym (added_comes state c.args.event.now c.in-Added.who c.in-Added.task c.requires.who c.in-Added.lines c.in-Added.is))
    ∙ c.requires.enabled

pub returns-in-Added-clause-works : goal.returns-in-Added-clause-works
returns-in-Added-clause-works c =
    subst (λ (o : Option Outcome). IfOk c.work_of_added.result (Works c.args.host.now c.work_of_added.new.host o))
    (ap (λ (lines : List (Option FetchLine)). added (state_of c.args.host.now) c.in-Added.task lines) c.as_slice.ensures
    ∙ sym (added_comes (state_of c.args.host.now) c.args.event.now c.in-Added.who c.in-Added.task c.requires.who c.in-Added.lines c.in-Added.is))
    c.work_of_added.ensures.works

pub returns-in-Forget-clause-works : goal.returns-in-Forget-clause-works
returns-in-Forget-clause-works c =
    let state = state_of c.args.host.now in
    let comes = forgets_comes state c.args.event.now c.in-Forget.who c.in-Forget.place c.requires.who c.in-Forget.is in
    both_ok c.work_of_forget.result _ _ (Works c.args.host.now c.work_of_forget.new.host (step state c.args.event.now))
    (λ work fits means. record {
      means = subst (λ (o : Option Outcome). IfSome o (Means work c.args.host.now)) (sym comes) means;
      fits = fits;
    })
    c.work_of_forget.ensures.fits c.work_of_forget.ensures.means
