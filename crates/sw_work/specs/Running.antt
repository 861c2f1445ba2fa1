-- What the host's events that were worked out mean and need.
use Rattle.std.specs.Prelude.{◌≡◌, ℕ, find, Some, IfSome}
use Rattle.sw_client.specs.Table as clients
use Rattle.sw_data.specs.declared.rows.JobRow.{JobRow}
use Rattle.sw_ledgers.specs.Drawn as draws
use Rattle.sw_ledgers.specs.Preloaded as preloads
use Rattle.sw_reg.specs.Table as registrations
use Rattle.sw_rules.specs.Registering.{run}
use Rattle.sw_rules.specs.Rows.{is_job}
use Rattle.sw_scope.specs.Scopes.{Scopes}
use Rattle.sw_state.specs.Hosted.{Hosted, state_of}
use Rattle.sw_work.specs.Plans.{FitsWork, Means}
use Rattle.sw_work.specs.declared.plan.Work.{Work}

-- own: a host has these of its tables
pub record HasTables (map : Scopes) (of_registrations : registrations.Table) (of_clients : clients.Table) (of_preloads : preloads.Table) (of_draws : draws.Table) (host : Hosted) : Type 0 where
  pub scopes : host.scopes ≡ map
  pub registrations : host.registrations ≡ of_registrations
  pub clients : host.clients ≡ of_clients
  pub preloads : host.preloads ≡ of_preloads
  pub draws : host.draws ≡ of_draws

-- own: a work is the run of the job of this row; where a host has these tables, it may be done without memory
pub record IsRun (job : ℕ) (row : JobRow) (HasThese : Hosted → Type 0) (work : Work) : Type 0 where
  pub means : (host : Hosted) → IfSome (run (state_of host) job) (Means work host)
  pub fits : (host : Hosted) → HasThese host → find (is_job job) host.queues.rows ≡ Some row → FitsWork work host
