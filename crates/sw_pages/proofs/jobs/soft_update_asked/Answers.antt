use Rattle.std.proofs.Common.{◌≡◌, ◌∙◌, Some, ap, sym, arith}
use Rattle.std.proofs.lemmas.Result.{IfOk-weaker}
use Rattle.sw_data.specs.declared.answers.Answer.TheVariants as answer
use Rattle.sw_data.specs.declared.answers.Cause.TheVariants as cause
use Rattle.sw_pages.proofs.Named.{scope_given}
use Rattle.sw_rules.specs.Registering as rules
use Rattle.sw_rules.specs.Rows.{mapped_registration, named_scope}
use Rattle.sw_rules.specs.Told.{answered, type_error}
use Rattle.sw_state.specs.Hosted.{state_of}
use Rattle.sw_pages.proofs.jobs.soft_update_asked.Goals as goal

pub returns-clause-gives : goal.returns-clause-gives
returns-clause-gives c =
    let state = state_of c.args.host.now in
    let client = c.in-Some.client.now in
    let scoped : named_scope client c.args.of.now.scope ≡ Some c.in-Some-2.scope = grind (arith, c.in_ok-scope.ensures, c.in-Some-2.is) in
    IfOk-weaker c.soft_update_named.result _ _
    (λ job gives who.
    scope_given state c.args.of.now.client c.args.of.now.scope (answered state (answer.Fault (type_error cause.Unparsed))) (λ row scope. rules.soft_update_named state (mapped_registration state row.key scope)) client c.in-Some-2.scope (sym c.in-Some.ensures) scoped
    ∙ ap (λ row. rules.soft_update_named state row) (sym c.mapped_row-row.ensures.row)
    ∙ gives who)
    c.soft_update_named.ensures.gives
