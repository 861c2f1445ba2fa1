-- What the end of an install handler comes to.
use Rattle.std.proofs.Common.{◌≡◌, ℕ, true, false, ◌||◌, Some, None, find, arith}
use Rattle.sw_data.specs.declared.answers.Answer.TheVariants as answer
use Rattle.sw_data.specs.declared.rows.JobRow.{JobRow}
use Rattle.sw_rules.specs.Installing.{ended_handler, fail_install, finish_install, installed}
use Rattle.sw_rules.specs.Rows.{is_in_phase, is_install, is_installing, is_job, is_worker}
use Rattle.sw_rules.specs.State.{State, Handler, Worker}
use Rattle.sw_tables.proofs.Rows.{found_number}

module _ (state : State) (number registration worker : ℕ) (row : JobRow) (made : Worker) (handler : Handler) (is : find (is_job number) state.jobs ≡ Some row) (installs : is_in_phase is_installing row ≡ true) (of : row.registration ≡ Some registration) (by : row.worker ≡ Some worker) (there : find (is_worker worker) state.workers ≡ Some made) (ended : ended_handler state is_install made ≡ Some handler) where
  own_number : row.job.number ≡ number
  own_number = found_number (λ (r : JobRow). r.job.number) number state.jobs row is

  made_number : made.number ≡ worker
  made_number = found_number (λ (r : Worker). r.number) worker state.workers made there

  pub failed : (made.handlers.install_fails || handler.faulted) ≡ true → installed state number ≡ Some (record { answer = answer.Failed; told = fail_install state row registration worker })
  failed fails = grind (arith, is, installs, of, by, there, ended, made_number, fails)

  pub succeeded : (made.handlers.install_fails || handler.faulted) ≡ false → installed state number ≡ Some (record { answer = answer.Ok; told = finish_install state number registration made })
  succeeded fails = grind (arith, is, installs, of, by, there, ended, own_number, fails)

-- the handler isn't at its end
pub not_ended : (state : State) (number registration worker : ℕ) (row : JobRow) (made : Worker) → find (is_job number) state.jobs ≡ Some row → is_in_phase is_installing row ≡ true → row.registration ≡ Some registration → row.worker ≡ Some worker
    → find (is_worker worker) state.workers ≡ Some made → ended_handler state is_install made ≡ None → installed state number ≡ None
not_ended state number registration worker row made is installs of by there ended = grind (arith, is, installs, of, by, there, ended)
