use Rattle.std.proofs.Common.{Option, ℕ, ◌∙◌, sym, subst, ap}
use Rattle.std.specs.Prelude.{◌≡◌, IfOk}
use Rattle.sw_data.specs.declared.workers.Mode.{Mode}
use Rattle.sw_prepare.specs.OfJobs.{mode_changes}
use Rattle.sw_rules.specs.State.{State}
use Rattle.sw_tables.specs.Lent.{lent}
use Rattle.sw_prepare.proofs.jobs.mode_changes.Goals as goal

pub returns-in-Some : goal.returns-in-Some
returns-in-Some c = λ of_workers of_clients rest has.
    let state : State = lent c.args.map.now of_workers c.args.registrations.now of_clients rest in
    subst (λ (found : Option (ℕ × Mode)). IfOk c.mode_change.result (λ changes. changes.items ≡ mode_changes state found))
    (sym c.in-Some.is ∙ c.new_mode.ensures) (c.mode_change.ensures of_workers of_clients rest has)

pub returns-in-None : goal.returns-in-None
returns-in-None c = λ of_workers of_clients rest has.
    let state : State = lent c.args.map.now of_workers c.args.registrations.now of_clients rest in
    c.nothing.ensures ∙ ap (mode_changes state) (sym c.in-None.is ∙ c.new_mode.ensures)
