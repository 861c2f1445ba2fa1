use Rattle.std.proofs.Common.{Option, None, option_copied, subst, sym}
use Rattle.std.specs.Option.{IfSome}
use Rattle.sw_state.proofs.Same.{same_joined}
use Rattle.sw_data.specs.declared.recordings.Fetched.{Fetched}
use Rattle.sw_install.specs.Fetches.{IsOutcome}
use Rattle.sw_install.specs.declared.calls.Rows.{Rows}
use Rattle.sw_laws.specs.Coherent.{Coherent}
use Rattle.sw_rules.specs.Installing.{fetched}
use Rattle.sw_state.specs.contracts.tables.HostTables.{the_view}
use Rattle.sw_state.specs.Hosted.{Hosted, rest_of, state_of}
use Rattle.sw_work.specs.Plans.{Means}
use Rattle.sw_work.specs.declared.plan.Work.{Work}
use Rattle.sw_work.specs.declared.plan.Work.TheVariants as work
use Rattle.sw_work.proofs.Working.{fetch_means, made_room, owner_there}
use Rattle.sw_prepare.proofs.hosts.work_of_fetched.Goals as goal

pub invariant_of-host : goal.invariant_of-host
invariant_of-host c = same_joined _ _ (made_room _ _ c.in_err-outcome.ensures.same) c.host.invariant

pub invariant_of-host-2 : goal.invariant_of-host-2
invariant_of-host-2 c = same_joined _ _ (made_room _ _ c.in_ok-outcome.ensures.same) c.host.invariant

pub returns-clause-works : goal.returns-clause-works
returns-clause-works c =
    let host : Hosted = the_view c.host.inside in
    let line = option_copied c.args.line in
    let row = c.in-Some.row.now in
    let registration = c.in-Some-registration.registration in
    let rows : Rows = record { registration = None; scope = None; worker = c.in_ok-outcome.worker } in
    let given = c.in_ok-outcome.outcome in
    let came : Work = work.Fetched c.args.job given rows in
    let sound = subst (λ (h : Hosted). Coherent (state_of h)) (sym c.host.view_is) c.requires.coherent in
    record {
      means =
          subst (λ (h : Hosted). IfSome (fetched (state_of h) c.args.job line) (Means came h)) c.host.view_is
          (fetch_means c.args.job line given rows host row registration (sym c.in-Some.ensures) c.in-Some-registration.is
          (subst (λ (f : Option Fetched). IsOutcome given rows.worker (state_of host) row f registration) c.fetched_of.ensures
          (c.in_ok-outcome.ensures.comes host.scopes host.clients (rest_of host))));
      fits = c.in_ok-outcome.ensures.fits (owner_there host c.args.job row registration sound (sym c.in-Some.ensures) c.in-Some-registration.is);
    }
