-- What the host's events that were worked out mean and need.
use Rattle.std.proofs.Common.{◌≡◌, ◌∙◌, ℕ, ◌<◌, true, false, List, [], length, Option, Some, None, option_map, find, refl, sym, ap, subst, arith}
use Rattle.std.proofs.lemmas.List.{length-map}
use Rattle.std.specs.Prelude.{Ok, Err, IfSome}
use Rattle.std.specs.Option.{option_map_or}
use Rattle.sw_activate.specs.Answers.{unregister_refusal}
use Rattle.sw_client.specs.Table as clients
use Rattle.sw_data.specs.declared.answers.Fault.{Fault}
use Rattle.sw_data.specs.declared.recordings.Fetched.{Fetched}
use Rattle.sw_data.specs.declared.recordings.FetchLine.{FetchLine}
use Rattle.sw_data.specs.declared.rows.JobKind.TheVariants as job_kind
use Rattle.sw_data.specs.declared.rows.JobRow.{JobRow}
use Rattle.sw_data.specs.declared.rows.WorkerRow.{WorkerRow}
use Rattle.sw_data.specs.Addresses.{without_fragment}
use Rattle.sw_install.proofs.Enabled.{both, if_some, some_if}
use Rattle.sw_install.specs.Fetches.{ComesTo, IsOutcome, fetch_outcome}
use Rattle.sw_install.specs.Runs.{HasNewRegistration, is_ready, register_fault}
use Rattle.sw_install.specs.declared.calls.FetchOutcome.{FetchOutcome}
use Rattle.sw_install.specs.declared.calls.FetchOutcome.TheVariants as outcome
use Rattle.sw_install.specs.declared.calls.Rows.{Rows}
use Rattle.sw_laws.proofs.Places.{all_at_found}
use Rattle.sw_laws.specs.Coherent.{Coherent, has_own_registration}
use Rattle.sw_ledgers.specs.Drawn as draws
use Rattle.sw_ledgers.specs.Drawn.{FitsDraw}
use Rattle.sw_ledgers.specs.Preloaded as preloads
use Rattle.sw_ledgers.specs.Preloaded.{PreloadRow}
use Rattle.sw_reg.specs.Table as registrations
use Rattle.sw_rules.specs.Installing.{fetched, fetched_of, is_same_script, job_in, made_worker, script_of}
use Rattle.sw_rules.specs.Jobs.{next_draw}
use Rattle.sw_rules.specs.Registering.{run}
use Rattle.sw_rules.specs.Rows.{is_in_phase, is_fetching, is_job}
use Rattle.sw_rules.specs.State.{State}
use Rattle.sw_rules.specs.Told.{Outcome}
use Rattle.sw_scope.specs.Scopes.{Scopes, maps}
use Rattle.sw_tables.specs.Lent.{Rest, lent, shown_worker}
use Rattle.sw_work.proofs.Coherence.{registered}
use Rattle.sw_state.specs.Hosted.{Hosted, SameRows, rest_of, state_of}
use Rattle.sw_work.specs.Plans.{FitsFetch, Means, first_preload}
use Rattle.sw_work.specs.Running.{HasTables, IsRun}
use Rattle.sw_work.specs.declared.plan.NewFetch.{NewFetch}
use Rattle.sw_work.specs.declared.plan.Work.TheVariants as work
use Rattle.sw_worker.specs.Edits.{new_worker}
use Rattle.sw_worker.specs.Table as workers

-- ---- what is there

-- what is there is what it is
pub some_is : {X : Type 0} (o : Option X) → IfSome o (λ x. o ≡ Some x)
some_is None = tt
some_is (Some x) = refl

-- what an event comes to is what it is
pub comes_so : {X : Type 0} (o p : Option X) → o ≡ p → IfSome o (λ x. p ≡ Some x)
comes_so {X = X} o p is = subst (λ (q : Option X). IfSome q (λ x. p ≡ Some x)) (sym is) (some_is p)

-- what holds of what is there holds of what is weaker
pub if_some_map : {X : Type 0} (P Q : X → Type 0) → ((x : X) → P x → Q x) → (found : Option X) → IfSome found P → IfSome found Q
if_some_map P Q to (Some x) is = to x is
if_some_map P Q to None is = is

-- ---- the run of a job

module _ (job : ℕ) (row : JobRow) where
  fetch_fits : (fetch : NewFetch) (host : Hosted) → find (is_job job) host.queues.rows ≡ Some row
      → fetch.ordinal ≡ next_draw host.draws.rows row.job.script → without_fragment row.job.script ≡ fetch.draw → FitsDraw fetch.draw host.draws
      → FitsFetch fetch job host
  fetch_fits fetch host found number address room = record {
    number = some_if (λ (r : JobRow). fetch.ordinal ≡ next_draw host.draws.rows r.job.script) (find (is_job job) host.queues.rows) row found number;
    address = ap (λ (o : Option JobRow). without_fragment (option_map_or (λ r. r.job.script) o [])) found ∙ address;
    room = room;
  }

  -- an update job that was worked out
  pub updates : (fetch : NewFetch) (of_draws : draws.Table) → row.job.what ≡ job_kind.Update
      → fetch.ordinal ≡ next_draw of_draws.rows row.job.script → without_fragment row.job.script ≡ fetch.draw → FitsDraw fetch.draw of_draws
      → IsRun job row (λ host. host.draws ≡ of_draws) (work.Update job fetch)
  updates fetch of_draws what number address room = record {
    means = λ host. some_is (run (state_of host) job);
    fits = λ host has found. record {
      kind = some_if (λ (r : JobRow). r.job.what ≡ job_kind.Update) (find (is_job job) host.queues.rows) row found what;
      fetch =
          fetch_fits fetch host found
          (number ∙ ap (λ (d : draws.Table). next_draw d.rows row.job.script) (sym has)) address
          (subst (λ (d : draws.Table). FitsDraw fetch.draw d) (sym has) room);
    };
  }

  -- an unregister job that was worked out
  pub unregisters : (refusal : Option Fault) → row.job.what ≡ job_kind.Unregister → refusal ≡ unregister_refusal row.job
      → IsRun job row (λ host. Unit {0}) (work.Unregister job refusal)
  unregisters refusal what why = record {
    means = λ host. some_is (run (state_of host) job);
    fits = λ host has found.
        some_if (λ (r : JobRow). (r.job.what ≡ job_kind.Unregister) × (refusal ≡ unregister_refusal r.job)) (find (is_job job) host.queues.rows) row found (what, why);
  }

  -- what a register job maps that was worked out
  pub registers : (refusal : Option Fault) (fetch : NewFetch) (preload : PreloadRow) (rows : Rows)
      (old scopes : Scopes) (of_registrations : registrations.Table) (of_clients : clients.Table) (of_preloads : preloads.Table) (of_draws : draws.Table)
      → row.job.what ≡ job_kind.Register → refusal ≡ register_fault row.job
      → ((key scope : List ℕ) → maps scopes key scope ≡ maps old key scope)
      → (refusal ≡ None → maps old row.job.key row.job.scope ≡ None → HasNewRegistration rows.registration rows.scope row.job scopes of_registrations of_clients)
      → fetch.ordinal ≡ next_draw of_draws.rows row.job.script → without_fragment row.job.script ≡ fetch.draw → FitsDraw fetch.draw of_draws
      → preload ≡ first_preload (length of_registrations.rows) → 0 < of_preloads.spare
      → IsRun job row (HasTables scopes of_registrations of_clients of_preloads of_draws) (work.Register job refusal fetch preload rows)
  registers refusal fetch preload rows old scopes of_registrations of_clients of_preloads of_draws what why same new number address room first spare = record {
    means = λ host. some_is (run (state_of host) job);
    fits = λ host has found. record {
      kind = some_if (λ (r : JobRow). r.job.what ≡ job_kind.Register) (find (is_job job) host.queues.rows) row found what;
      refusal = some_if (λ (r : JobRow). refusal ≡ register_fault r.job) (find (is_job job) host.queues.rows) row found why;
      new =
          some_if
          (λ (r : JobRow). is_ready host.queues.rows r ≡ true → refusal ≡ None → maps host.scopes r.job.key r.job.scope ≡ None
          → HasNewRegistration rows.registration rows.scope r.job host.scopes host.registrations host.clients)
          (find (is_job job) host.queues.rows) row found
          (λ ready allowed unmapped.
          rw (has.scopes, has.registrations, has.clients)
          (new allowed (sym (same row.job.key row.job.scope) ∙ (ap (λ (s : Scopes). maps s row.job.key row.job.scope) (sym has.scopes) ∙ unmapped))));
      fetch =
          fetch_fits fetch host found
          (number ∙ ap (λ (d : draws.Table). next_draw d.rows row.job.script) (sym has.draws)) address
          (subst (λ (d : draws.Table). FitsDraw fetch.draw d) (sym has.draws) room);
      preload = record {
        first = first ∙ ap (λ (t : registrations.Table). first_preload (length t.rows)) (sym has.registrations);
        room = subst (λ (t : preloads.Table). 0 < t.spare) (sym has.preloads) spare;
      };
    };
  }

-- ---- the end of a fetch

module _ (job : ℕ) (line : Option FetchLine) where
  comes_to : (given : FetchOutcome) (made : Option WorkerRow) (state : State) (row : JobRow) (registration : ℕ)
      → find (is_job job) state.jobs ≡ Some row → row.registration ≡ Some registration → IsOutcome given made state row (fetched_of line) registration
      → ComesTo given made state job line
  comes_to given made state row registration found of is = by (job_in (is_in_phase is_fetching) state job) refl
    where
      by : (o : Option JobRow) → job_in (is_in_phase is_fetching) state job ≡ o → IfSome o (λ r. IfSome r.registration (IsOutcome given made state r (fetched_of line)))
      by None none = tt
      by (Some r) there =
          let here = both (is_in_phase is_fetching) (find (is_job job) state.jobs) r there in
          let one : row ≡ r = cc (found, here.0) in
          subst (λ (r : JobRow). IfSome r.registration (IsOutcome given made state r (fetched_of line))) one
          (some_if (IsOutcome given made state row (fetched_of line)) row.registration registration of is)

  -- what the fetch of a job comes to
  pub fetch_means : (given : FetchOutcome) (rows : Rows) (host : Hosted) (row : JobRow) (registration : ℕ)
      → find (is_job job) host.queues.rows ≡ Some row → row.registration ≡ Some registration → IsOutcome given rows.worker (state_of host) row (fetched_of line) registration
      → IfSome (fetched (state_of host) job line) (Means (work.Fetched job given rows) host)
  fetch_means given rows host row registration found of is = by (fetched (state_of host) job line) refl
    where
      by : (o : Option Outcome) → fetched (state_of host) job line ≡ o → IfSome o (Means (work.Fetched job given rows) host)
      by None ends = tt
      by (Some comes) ends = (line, ends, comes_to given rows.worker (state_of host) row registration found of is)

-- a script without a fault, which is that of the newest worker
pub script_kept : (state : State) (row : JobRow) (registration : ℕ) (script : Fetched) → script_of row.job (Some script) ≡ Ok script
    → is_same_script state row.job registration script.response.body ≡ true → outcome.Unchanged ≡ fetch_outcome state row registration (Some script)
script_kept state row registration script is same = grind (arith, is, same)

-- and one that is another
pub script_changed : (state : State) (row : JobRow) (registration : ℕ) (script : Fetched) → script_of row.job (Some script) ≡ Ok script
    → is_same_script state row.job registration script.response.body ≡ false → outcome.Changed ≡ fetch_outcome state row registration (Some script)
script_changed state row registration script is other = grind (arith, is, other)

-- a fetch that is at fault is rejected
pub script_rejected : (state : State) (row : JobRow) (registration : ℕ) (given : Option Fetched) (why : Fault) → script_of row.job given ≡ Err why
    → outcome.Rejected why ≡ fetch_outcome state row registration given
script_rejected state row registration given why is = grind (arith, is)

-- the worker that is made of what was fetched
pub made_shown : (scopes : Scopes) (of_workers : workers.Table) (of_registrations : registrations.Table) (of_clients : clients.Table) (rest : Rest)
    (row : JobRow) (registration : ℕ) (new : Fetched) (made : WorkerRow)
    → made ≡ new_worker (length of_workers.rows) registration row.job.script row.job.kind new.response.body row.fetch new.handlers
    → option_map shown_worker (Some made) ≡ Some (made_worker (lent scopes of_workers of_registrations of_clients rest) row registration new)
made_shown scopes of_workers of_registrations of_clients rest row registration new made is =
    ap (λ (w : WorkerRow). Some (shown_worker w)) is
    ∙ ap (λ (n : ℕ). Some (record (made_worker (lent scopes of_workers of_registrations of_clients rest) row registration new) { number = n }))
    (sym (length-map of_workers.rows shown_worker))

-- only room for workers was made
pub made_room : (host : Hosted) (new : workers.Table) → new ≡ record host.workers { spare_rows = new.spare_rows } → SameRows host (record host { workers = new })
made_room host new same = record {
  scopes = λ key scope. refl;
  jobs = refl;
  workers = ap (λ (t : workers.Table). t.rows) same;
  events = ap (λ (t : workers.Table). t.events) same;
  registrations = refl;
  clients = refl;
  known = omega arith;
  caches = refl;
  preloads = refl;
  promises = refl;
  tasks = refl;
  draws = refl;
}

-- the registration of a job is there
pub owner_there : (host : Hosted) (job : ℕ) (row : JobRow) (registration : ℕ) → Coherent (state_of host)
    → find (is_job job) host.queues.rows ≡ Some row → row.registration ≡ Some registration → registrations.is_there registration host.registrations.rows ≡ true
owner_there host job row registration sound found of =
    let has = all_at_found (is_job job) (has_own_registration (state_of host).registrations) host.queues.rows row found sound.work.keys in
    if_some (λ (n : ℕ). registrations.is_there n host.registrations.rows ≡ true) row.registration registration of
    (registered host.scopes host.workers host.registrations host.clients (rest_of host) row row.registration has)
