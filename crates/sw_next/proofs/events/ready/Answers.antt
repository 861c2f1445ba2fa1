use Rattle.std.proofs.Common.{◌∙◌, subst}
use Rattle.sw_next.proofs.Readied.{activate_ready, evaluate_ready, fetch_all_ready, fetch_ready, install_ready, run_ready, try_ready}
use Rattle.sw_state.specs.Hosted.{Hosted, IsJoined, state_of}
use Rattle.sw_data.specs.declared.rows.JobRow.{JobRow}
use Rattle.sw_rules.specs.State.{AddAll}
use Rattle.sw_tables.specs.Linked.{ArePlaces}
use Rattle.sw_next.proofs.events.ready.Goals as goal

pub returns-in-Run : goal.returns-in-Run
returns-in-Run c =
    let jobs = subst (λ (h : Hosted). ArePlaces (λ (row : JobRow). row.job.number) h.queues.rows) c.host.view_is c.are_numbered.ensures in
    c.may_run.ensures ∙ run_ready (state_of c.args.host.now) c.in-Run.job c.args.task jobs c.in-Run.is

pub returns-in-Fetch : goal.returns-in-Fetch
returns-in-Fetch c =
    let jobs = subst (λ (h : Hosted). ArePlaces (λ (row : JobRow). row.job.number) h.queues.rows) c.host.view_is c.are_numbered.ensures in
    c.has_fetch.ensures ∙ fetch_ready (state_of c.args.host.now) c.in-Fetch.job c.args.task jobs c.in-Fetch.is

pub returns-in-FetchAll : goal.returns-in-FetchAll
returns-in-FetchAll c =
    let places = subst (λ (h : Hosted). ArePlaces (λ (row : AddAll). row.number) h.tasks.rows) c.host.view_is c.are_numbered-2.ensures in
    c.is_unsettled.ensures ∙ fetch_all_ready (state_of c.args.host.now) c.in-FetchAll.number c.args.task places c.in-FetchAll.is

pub returns-in-Evaluate : goal.returns-in-Evaluate
returns-in-Evaluate c =
    let jobs = subst (λ (h : Hosted). ArePlaces (λ (row : JobRow). row.job.number) h.queues.rows) c.host.view_is c.are_numbered.ensures in
    c.has_evaluation.ensures ∙ evaluate_ready (state_of c.args.host.now) c.in-Evaluate.job c.args.task jobs c.in-Evaluate.is

pub returns-in-Install : goal.returns-in-Install
returns-in-Install c =
    let jobs = subst (λ (h : Hosted). ArePlaces (λ (row : JobRow). row.job.number) h.queues.rows) c.host.view_is c.are_numbered.ensures in
    c.may_install.ensures ∙ install_ready (state_of c.args.host.now) c.in-Install.job c.args.task jobs c.in-Install.is

pub returns-in-TryActivate : goal.returns-in-TryActivate
returns-in-TryActivate c =
    c.is_owed.ensures ∙ try_ready (state_of c.args.host.now) c.in-TryActivate.registration c.args.task c.in-TryActivate.is

pub returns-in-Activate : goal.returns-in-Activate
returns-in-Activate c =
    let joined = subst IsJoined c.host.view_is c.host.invariant in
    c.activates.ensures ∙ activate_ready c.args.host.now c.in-Activate.worker c.args.task joined.linked.slots.worker_places c.in-Activate.is
