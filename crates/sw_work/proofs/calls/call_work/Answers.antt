-- The next call of a handler.
use Rattle.std.proofs.Common.{◌≡◌, ◌∙◌, ℕ, true, List, Option, Some, IfSome, IsSome, is_some, refl, sym, ap, subst}
use Rattle.sw_state.proofs.Same.{same_refl}
use Rattle.sw_data.specs.declared.events.Who.{Who}
use Rattle.sw_data.specs.declared.events.Who.TheVariants as maker
use Rattle.sw_data.specs.declared.recordings.CacheAddAll.{CacheAddAll}
use Rattle.sw_data.specs.declared.recordings.Call.{Call}
use Rattle.sw_data.specs.declared.recordings.Call.TheVariants as call
use Rattle.sw_data.specs.declared.rows.RegistrationRow.{RegistrationRow}
use Rattle.sw_data.specs.declared.rows.WorkerRow.{WorkerRow}
use Rattle.sw_data.specs.declared.workers.Phase.{Phase}
use Rattle.sw_reg.specs.Table.{registration_at}
use Rattle.sw_rules.specs.Caching.{add_all}
use Rattle.sw_rules.specs.Calls.{make_call, noted, update_own}
use Rattle.sw_rules.specs.State.{Worker}
use Rattle.sw_tables.proofs.Rows.{found_number}
use Rattle.sw_state.specs.contracts.tables.HostTables.{the_view}
use Rattle.sw_state.specs.Hosted.{Hosted, SameRows, state_of}
use Rattle.sw_tables.specs.Lent.{shown_worker}
use Rattle.sw_work.specs.Plans.{Means, Works, has_calls_left}
use Rattle.sw_work.specs.declared.plan.Work.{Work}
use Rattle.sw_work.proofs.Calling.{both_ok, calls_left, host_left, no_registration, no_worker, own_row, row_shown, works_next}
use Rattle.sw_worker.specs.Table as workers
use Rattle.sw_worker.specs.Table.{worker_at}
use Rattle.sw_work.proofs.calls.call_work.Goals as goal

-- a call that happens on a host happens on its tables
happens : (host now : Hosted) (by : Who) (asked : Call) → host ≡ now → IsSome (make_call (state_of now) by asked) → IsSome (make_call (state_of host) by asked)
happens host now by asked is = subst (λ (h : Hosted). IsSome (make_call (state_of h) by asked)) (sym is)

left_at : (host now : Hosted) (worker : ℕ) (in_phase : Phase) (number : ℕ) (asked : Call) (row : WorkerRow) → host ≡ now → worker_at worker host.workers.rows ≡ Some row
    → IsSome (make_call (state_of now) (maker.Handler worker in_phase number) asked) → workers.has_calls_left row ≡ true
left_at host now worker in_phase number asked row is there comes =
    calls_left host worker in_phase number asked row there (happens host now (maker.Handler worker in_phase number) asked is comes)

-- and so does the state say
left_by : (host now : Hosted) (worker : ℕ) (in_phase : Phase) (number : ℕ) (asked : Call) (row : WorkerRow) → host ≡ now → worker_at worker host.workers.rows ≡ Some row
    → IsSome (make_call (state_of now) (maker.Handler worker in_phase number) asked) → has_calls_left worker (state_of now) ≡ true
left_by host now worker in_phase number asked row is there comes =
    subst (λ (h : Hosted). has_calls_left worker (state_of h) ≡ true) is
    (subst (λ (n : ℕ). has_calls_left n (state_of host) ≡ true) (found_number (λ (w : WorkerRow). w.number) worker host.workers.rows row there)
    (host_left host row (own_row host worker row there) (left_at host now worker in_phase number asked row is there comes)))

row_now : (host now : Hosted) (worker : ℕ) (row : WorkerRow) → host ≡ now → worker_at worker host.workers.rows ≡ Some row → worker_at worker now.workers.rows ≡ Some row
row_now host now worker row is = subst (λ (h : Hosted). worker_at worker h.workers.rows ≡ Some row) is

of_now : (host now : Hosted) (row : WorkerRow) (of : RegistrationRow) → host ≡ now → registration_at row.registration host.registrations.rows ≡ Some of
    → registration_at row.registration now.registrations.rows ≡ Some of
of_now host now row of is = subst (λ (h : Hosted). registration_at row.registration h.registrations.rows ≡ Some of) is

pub unreachable-requires : goal.unreachable-requires
unreachable-requires c =
    no_worker (the_view c.host.inside) c.args.worker c.args.phase c.args.number c.args.call.now
    (happens (the_view c.host.inside) c.args.host.now (maker.Handler c.args.worker c.args.phase c.args.number) c.args.call.now c.host.view_is c.requires.next) (sym c.in_default.ensures)

pub unreachable-requires-in_default-row : goal.unreachable-requires-in_default-row
unreachable-requires-in_default-row c =
    no_registration (the_view c.host.inside) c.args.worker c.args.phase c.args.number c.args.call.now c.in-Some.row.now (sym c.in-Some.ensures)
    (happens (the_view c.host.inside) c.args.host.now (maker.Handler c.args.worker c.args.phase c.args.number) c.args.call.now c.host.view_is c.requires.next) (sym c.in_default-row.ensures)

pub skip_work-requires : goal.skip_work-requires
skip_work-requires c = record {
  left =
      left_at (the_view c.host.inside) c.args.host.now c.args.worker c.args.phase c.args.number c.args.call.now c.in-Some.row.now c.host.view_is (sym c.in-Some.ensures) c.requires.next;
}

pub claim_work-requires : goal.claim_work-requires
claim_work-requires c = record {
  left =
      left_at (the_view c.host.inside) c.args.host.now c.args.worker c.args.phase c.args.number c.args.call.now c.in-Some.row.now c.host.view_is (sym c.in-Some.ensures) c.requires.next;
}

pub update_work-requires-clause-left : goal.update_work-requires-clause-left
update_work-requires-clause-left c =
    let host = the_view c.host.inside in
    left_by host c.args.host.now c.args.worker c.args.phase c.args.number c.args.call.now c.in-Some.row.now c.host.view_is (sym c.in-Some.ensures) c.requires.next

pub add_all_work-requires-clause-left : goal.add_all_work-requires-clause-left
add_all_work-requires-clause-left c =
    let host = the_view c.host.inside in
    left_by host c.args.host.now c.args.worker c.args.phase c.args.number c.args.call.now c.in-Some.row.now c.host.view_is (sym c.in-Some.ensures) c.requires.next

pub caches_work-requires-clause-left : goal.caches_work-requires-clause-left
caches_work-requires-clause-left c =
    left_at (the_view c.host.inside) c.args.host.now c.args.worker c.args.phase c.args.number c.args.call.now c.in-Some.row.now c.host.view_is (sym c.in-Some.ensures) c.requires.next

pub returns-in-SkipWaiting-clause-works : goal.returns-in-SkipWaiting-clause-works
returns-in-SkipWaiting-clause-works c =
    let now = c.args.host.now in
    let row = c.in-Some.row.now in
    let of = c.in-Some-row.of.now in
    let there = row_now (the_view c.host.inside) now c.args.worker row c.host.view_is (sym c.in-Some.ensures) in
    let held = of_now (the_view c.host.inside) now row of c.host.view_is (sym c.in-Some-row.ensures) in
    works_next now c.args.worker c.args.phase c.args.number c.args.call.now row there now of call.SkipWaiting c.skip_work.result held c.in-SkipWaiting.is
    (c.skip_work.ensures.means now (maker.Handler c.args.worker c.args.phase c.args.number) c.args.phase of.key refl)
    (c.skip_work.ensures.fits now c.requires.coherent (own_row now c.args.worker row there))

pub returns-in-Claim-clause-works : goal.returns-in-Claim-clause-works
returns-in-Claim-clause-works c =
    let now = c.args.host.now in
    let row = c.in-Some.row.now in
    let of = c.in-Some-row.of.now in
    let there = row_now (the_view c.host.inside) now c.args.worker row c.host.view_is (sym c.in-Some.ensures) in
    let held = of_now (the_view c.host.inside) now row of c.host.view_is (sym c.in-Some-row.ensures) in
    works_next now c.args.worker c.args.phase c.args.number c.args.call.now row there now of call.Claim c.claim_work.result held c.in-Claim.is
    (c.claim_work.ensures.means now (maker.Handler c.args.worker c.args.phase c.args.number) c.args.phase of.key refl)
    (c.claim_work.ensures.fits now c.requires.coherent (own_row now c.args.worker row there))

pub update_work-requires-clause-there : goal.update_work-requires-clause-there
update_work-requires-clause-there c =
    ap is_some (row_now (the_view c.host.inside) c.args.host.now c.args.worker c.in-Some.row.now c.host.view_is (sym c.in-Some.ensures))

pub returns-in-Update-clause-works : goal.returns-in-Update-clause-works
returns-in-Update-clause-works c =
    let now = c.args.host.now in
    let row = c.in-Some.row.now in
    let of = c.in-Some-row.of.now in
    let by = maker.Handler c.args.worker c.args.phase c.args.number in
    let there = row_now (the_view c.host.inside) now c.args.worker row c.host.view_is (sym c.in-Some.ensures) in
    let held = of_now (the_view c.host.inside) now row of c.host.view_is (sym c.in-Some-row.ensures) in
    let own = found_number (λ (w : WorkerRow). w.number) c.args.worker now.workers.rows row there in
    both_ok c.update_work.result _ _
    (λ (work : Work). Works now c.update_work.new.host (make_call (state_of now) by c.args.call.now) work)
    (λ work fits means.
    works_next now c.args.worker c.args.phase c.args.number c.args.call.now row there c.update_work.new.host of call.Update work held c.in-Update.is
    (subst (λ (n : ℕ). Means work now (noted (update_own (state_of now) by (shown_worker row) c.args.phase) n)) (sym own)
    (subst (λ (o : Option Worker). IfSome o (λ w. Means work now (noted (update_own (state_of now) by w c.args.phase) c.args.worker))) (row_shown now c.args.worker row there) (means by refl)))
    fits)
    c.update_work.ensures.fits c.update_work.ensures.means

pub returns-in_ok-key-in-AddAll-clause-works : goal.returns-in_ok-key-in-AddAll-clause-works
returns-in_ok-key-in-AddAll-clause-works c =
    let now = c.args.host.now in
    let row = c.in-Some.row.now in
    let of = c.in-Some-row.of.now in
    let asked = c.get.result.now in
    let by = maker.Handler c.args.worker c.args.phase c.args.number in
    let there = row_now (the_view c.host.inside) now c.args.worker row c.host.view_is (sym c.in-Some.ensures) in
    let held = of_now (the_view c.host.inside) now row of c.host.view_is (sym c.in-Some-row.ensures) in
    let own = found_number (λ (w : WorkerRow). w.number) c.args.worker now.workers.rows row there in
    both_ok c.add_all_work.result _ _
    (λ (work : Work). Works now c.add_all_work.new.host (make_call (state_of now) by c.args.call.now) work)
    (λ work fits means.
    works_next now c.args.worker c.args.phase c.args.number c.args.call.now row there c.add_all_work.new.host of (call.AddAll asked) work held (c.in-AddAll.is ∙ ap (λ (it : CacheAddAll). call.AddAll it) (sym c.get.ensures))
    (subst (λ (n : ℕ). Means work now (noted (add_all (state_of now) by row.script asked of.key) n)) (sym own)
    (subst (λ (base : List ℕ). Means work now (noted (add_all (state_of now) by base asked of.key) c.args.worker)) c.in_ok-base-in-AddAll.ensures
    (subst (λ (key : List ℕ). Means work now (noted (add_all (state_of now) by c.in_ok-base-in-AddAll.base asked key) c.args.worker)) c.in_ok-key-in-AddAll.ensures means)))
    fits)
    c.add_all_work.ensures.fits c.add_all_work.ensures.means

pub returns-in_default-call : goal.returns-in_default-call
returns-in_default-call c =
    let host : Hosted = the_view c.host.inside in
    let row = c.in-Some.row.now in
    let there = sym c.in-Some.ensures in
    let by = maker.Handler c.args.worker c.args.phase c.args.number in
    let new : Hosted = record host { caches = c.caches_work.new.caches } in
    let works =
    both_ok c.caches_work.result _ _
    (λ (work : Work). Works c.args.host.now new (make_call (state_of c.args.host.now) by c.args.call.now) work)
    (λ work fits means.
    subst (λ (h : Hosted). Works h new (make_call (state_of h) by c.args.call.now) work) c.host.view_is
    (works_next host c.args.worker c.args.phase c.args.number c.args.call.now row there new c.in-Some-row.of.now c.args.call.now work (sym c.in-Some-row.ensures) refl
    (means host by c.args.phase)
    (fits host (own_row host c.args.worker row there))))
    c.caches_work.ensures.fits c.caches_work.ensures.means in
    let kept = same_refl host in
    record {
      same = subst (λ (h : Hosted). SameRows h new) c.host.view_is (record {
        scopes = kept.scopes;
        jobs = kept.jobs;
        workers = kept.workers;
        events = kept.events;
        registrations = kept.registrations;
        clients = kept.clients;
        known = kept.known;
        caches = c.caches_work.ensures.same;
        preloads = kept.preloads;
        promises = kept.promises;
        tasks = kept.tasks;
        draws = kept.draws;
      });
      works = works;
    }
