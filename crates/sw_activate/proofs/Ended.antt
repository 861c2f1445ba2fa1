-- What the end of an activate handler comes to.
use Rattle.std.proofs.Common.{◌≡◌, ℕ, Some, None, find, arith}
use Rattle.sw_data.specs.declared.answers.Answer.TheVariants as answer
use Rattle.sw_data.specs.declared.workers.Phase.TheVariants as phase
use Rattle.sw_rules.specs.Activating.{activated, finish_activate}
use Rattle.sw_rules.specs.Installing.{ended_handler}
use Rattle.sw_rules.specs.Rows.{is_worker}
use Rattle.sw_rules.specs.State.{State, Handler, Worker}
use Rattle.sw_tables.specs.Ends.{is_in}

pub no_worker : (state : State) (number : ℕ) → find (is_worker number) state.workers ≡ None → activated state number ≡ None
no_worker state number none = grind (arith, none)

pub not_ended : (state : State) (number : ℕ) (row : Worker) → find (is_worker number) state.workers ≡ Some row
    → ended_handler state (is_in phase.Activate) row ≡ None → activated state number ≡ None
not_ended state number row there none = grind (arith, there, none)

pub comes_to : (state : State) (number : ℕ) (row : Worker) (handler : Handler) → find (is_worker number) state.workers ≡ Some row → row.number ≡ number
    → ended_handler state (is_in phase.Activate) row ≡ Some handler
    → activated state number ≡ Some (record { answer = answer.Ok; told = finish_activate state row.registration number })
comes_to state number row handler there own ended = grind (arith, there, own, ended)
