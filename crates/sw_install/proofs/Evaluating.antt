-- What the evaluation of a job's script comes to.
use Rattle.std.proofs.Common.{◌≡◌, ℕ, true, false, Some, find, arith}
use Rattle.sw_data.specs.declared.answers.Answer.TheVariants as answer
use Rattle.sw_data.specs.declared.rows.JobRow.{JobRow}
use Rattle.sw_rules.specs.Installing.{evaluated, install, throw}
use Rattle.sw_rules.specs.Rows.{is_in_phase, is_evaluating, is_job, is_worker}
use Rattle.sw_rules.specs.State.{State, Worker}
use Rattle.sw_tables.proofs.Rows.{found_number}

module _ (state : State) (number registration worker : ℕ) (row : JobRow) (made : Worker) (is : find (is_job number) state.jobs ≡ Some row) (evaluates : is_in_phase is_evaluating row ≡ true) (of : row.registration ≡ Some registration) (by : row.worker ≡ Some worker) (there : find (is_worker worker) state.workers ≡ Some made) where
  own_number : row.job.number ≡ number
  own_number = found_number (λ (r : JobRow). r.job.number) number state.jobs row is

  made_number : made.number ≡ worker
  made_number = found_number (λ (r : Worker). r.number) worker state.workers made there

  pub thrown : made.handlers.throws ≡ true → evaluated state number ≡ Some (record { answer = answer.Threw; told = throw state number registration worker })
  thrown throws = grind (arith, is, evaluates, of, by, there, own_number, made_number, throws)

  pub installs : made.handlers.throws ≡ false → evaluated state number ≡ Some (record { answer = answer.Installing; told = install state row.job registration worker })
  installs throws = grind (arith, is, evaluates, of, by, there, made_number, throws)
