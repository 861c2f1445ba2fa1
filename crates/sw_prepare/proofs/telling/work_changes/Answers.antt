use Rattle.std.proofs.Common.{◌∙◌, Option, refl, subst, sym}
use Rattle.std.specs.Prelude.{IfOk}
use Rattle.sw_prepare.proofs.Changing.{registers}
use Rattle.sw_data.specs.declared.rows.JobKind.TheVariants as job_kind
use Rattle.sw_prepare.specs.Telling.{HasChanges}
use Rattle.sw_rules.specs.Told.{Outcome}
use Rattle.sw_work.specs.Plans.{FitsWork, Means}
use Rattle.sw_work.specs.declared.plan.Work.{Work}
use Rattle.sw_prepare.proofs.telling.work_changes.Goals as goal

pub no_changes-requires : goal.no_changes-requires
no_changes-requires c =
    let fits = subst (λ (w : Work). FitsWork w c.args.host.now) c.in-Register.is c.requires.fits in
    registers job_kind.Register c.in-Register.job c.args.host.now.queues.rows refl fits.kind

pub no_changes-requires-in-Update : goal.no_changes-requires-in-Update
no_changes-requires-in-Update c =
    let fits = subst (λ (w : Work). FitsWork w c.args.host.now) c.in-Update.is c.requires.fits in
    registers job_kind.Update c.in-Update.job c.args.host.now.queues.rows refl fits.kind

pub returns-in-Asked : goal.returns-in-Asked
returns-in-Asked c outcome means =
    c.asked_changes.ensures outcome (subst (λ (w : Work). Means w c.args.host.now outcome) c.in-Asked.is means)

pub returns-in-Start : goal.returns-in-Start
returns-in-Start c outcome means =
    let meant = subst (λ (w : Work). Means w c.args.host.now outcome) c.in-Start.is means in
    c.new.ensures.items ∙ sym meant.changes

pub returns-in-Fetched : goal.returns-in-Fetched
returns-in-Fetched c outcome means =
    let meant = subst (λ (w : Work). Means w c.args.host.now outcome) c.in-Fetched.is means in
    subst (λ (o : Option Outcome). IfOk c.fetched_changes.result (λ changes. HasChanges o changes.items)) meant.1
    (c.fetched_changes.ensures meant.0 c.in-Fetched.rows.worker meant.2)

pub returns-in-Register : goal.returns-in-Register
returns-in-Register c outcome means =
    subst (λ (o : Option Outcome). IfOk c.no_changes.result (λ changes. HasChanges o changes.items))
    (subst (λ (w : Work). Means w c.args.host.now outcome) c.in-Register.is means) c.no_changes.ensures

pub returns-in-Update : goal.returns-in-Update
returns-in-Update c outcome means =
    subst (λ (o : Option Outcome). IfOk c.no_changes-in-Update.result (λ changes. HasChanges o changes.items))
    (subst (λ (w : Work). Means w c.args.host.now outcome) c.in-Update.is means) c.no_changes-in-Update.ensures

pub returns-in-Unregister : goal.returns-in-Unregister
returns-in-Unregister c outcome means =
    subst (λ (o : Option Outcome). IfOk c.unregister_changes.result (λ changes. HasChanges o changes.items))
    (subst (λ (w : Work). Means w c.args.host.now outcome) c.in-Unregister.is means) c.unregister_changes.ensures

pub returns-in-Evaluated : goal.returns-in-Evaluated
returns-in-Evaluated c outcome means =
    subst (λ (o : Option Outcome). IfOk c.evaluated_changes.result (λ changes. HasChanges o changes.items))
    (subst (λ (w : Work). Means w c.args.host.now outcome) c.in-Evaluated.is means) c.evaluated_changes.ensures

pub returns-in-Installed : goal.returns-in-Installed
returns-in-Installed c outcome means =
    subst (λ (o : Option Outcome). IfOk c.installed_changes.result (λ changes. HasChanges o changes.items))
    (subst (λ (w : Work). Means w c.args.host.now outcome) c.in-Installed.is means) c.installed_changes.ensures

pub returns-in-TryActivate : goal.returns-in-TryActivate
returns-in-TryActivate c outcome means =
    subst (λ (o : Option Outcome). IfOk c.try_activate_changes.result (λ changes. HasChanges o changes.items))
    (subst (λ (w : Work). Means w c.args.host.now outcome) c.in-TryActivate.is means) c.try_activate_changes.ensures

pub returns-in-Activated : goal.returns-in-Activated
returns-in-Activated c outcome means =
    subst (λ (o : Option Outcome). IfOk c.activated_changes.result (λ changes. HasChanges o changes.items))
    (subst (λ (w : Work). Means w c.args.host.now outcome) c.in-Activated.is means) c.activated_changes.ensures
