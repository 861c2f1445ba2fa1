use Rattle.std.proofs.Common.{◌≡◌, ◌∙◌, List, option_map, ap, sym, subst}
use Rattle.std.specs.Option.{option_copied}
use Rattle.std.specs.Prelude.{IfOk}
use Rattle.sw_data.specs.declared.storage.Change.{Change}
use Rattle.sw_rules.specs.State.{State}
use Rattle.sw_tables.specs.Lent.{lent, shown_registration}
use Rattle.sw_prepare.proofs.ActivationChanges.{both_kept, none_kept}
use Rattle.sw_prepare.proofs.activating.both_changes.Goals as goal

pub returns-in-Some : goal.returns-in-Some
returns-in-Some c = λ before after of_clients rest has then_has taking.
    let a = c.args in
    let first : State = lent a.map.now before a.registrations.now of_clients rest in
    let second : State = lent a.map.now after a.registrations.now of_clients rest in
    let here = ap (λ o. option_map (shown_registration a.map.now rest) (option_copied o)) c.in-Some.is in
    subst (λ (l : List Change). IfOk c.row_changes.result (λ changes. changes.items ≡ l))
    (both_kept first second a.registration (shown_registration a.map.now rest c.in-Some.row.now) a.takes
    (sym (c.kept_row.ensures before of_clients rest has) ∙ here) (sym (c.kept_row.ensures after of_clients rest then_has) ∙ here) taking)
    c.row_changes.ensures

pub returns-in-None : goal.returns-in-None
returns-in-None c = λ before after of_clients rest has then_has taking.
    let a = c.args in
    let first : State = lent a.map.now before a.registrations.now of_clients rest in
    let second : State = lent a.map.now after a.registrations.now of_clients rest in
    let none = ap (λ o. option_map (shown_registration a.map.now rest) (option_copied o)) c.in-None.is in
    c.new.ensures.items ∙ none_kept first second a.registration
    (sym (c.kept_row.ensures before of_clients rest has) ∙ none) (sym (c.kept_row.ensures after of_clients rest then_has) ∙ none)
