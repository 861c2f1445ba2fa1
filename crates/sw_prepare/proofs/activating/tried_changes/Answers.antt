use Rattle.std.proofs.Common.{◌≡◌, ◌∙◌, Bool, List, [], sym, subst, if◌then◌else◌}
use Rattle.std.specs.Prelude.{IfOk}
use Rattle.sw_data.specs.declared.storage.Change.{Change}
use Rattle.sw_data.specs.declared.storage.Change.TheVariants as change
use Rattle.sw_rules.specs.Told.{kept_change}
use Rattle.sw_tables.specs.Lent.{lent}
use Rattle.sw_prepare.proofs.activating.tried_changes.Goals as goal

pub returns-then-takes : goal.returns-then-takes
returns-then-takes c = λ of_workers of_clients rest has is.
    let all : List Change = kept_change (lent c.args.map.now of_workers c.args.registrations.now of_clients rest) c.args.registration (λ row. change.Active row.key row.scope) in
    subst (λ (b : Bool). IfOk c.active_change.result (λ changes. changes.items ≡ (if b then all else []))) (sym c.if-takes.true ∙ is)
    (c.active_change.ensures of_workers of_clients rest has)

pub returns-else-takes : goal.returns-else-takes
returns-else-takes c = λ of_workers of_clients rest has is.
    let all : List Change = kept_change (lent c.args.map.now of_workers c.args.registrations.now of_clients rest) c.args.registration (λ row. change.Active row.key row.scope) in
    subst (λ (b : Bool). c.new.result.items ≡ (if b then all else [])) (sym c.if-takes.false ∙ is) c.new.ensures.items
