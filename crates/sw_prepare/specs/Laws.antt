-- Laws of the durable changes of jobs.
use Rattle.std.specs.Prelude.{◌≡◌, ℕ, false, [], IfSome}
use Rattle.sw_rules.specs.Jobs.{is_unregister}
use Rattle.sw_rules.specs.Registering.{run}
use Rattle.sw_rules.specs.Rows.{job_row}
use Rattle.sw_rules.specs.State.{State}

-- own: the run of a register job, or of an update job, has no durable changes
abbrev pub RegistersQuietly : Type 0
RegistersQuietly =
    (state : State) (job : ℕ) → IfSome (job_row state job) (λ row. is_unregister row.job.what ≡ false)
    → IfSome (run state job) (λ outcome. outcome.told.changes ≡ [])
