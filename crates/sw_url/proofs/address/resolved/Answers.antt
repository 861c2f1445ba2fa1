use Rattle.std.proofs.Common.{◌≡◌, ◌∙◌, List, ℕ, Some, Ok, ap, subst, sym}
use Rattle.url.specs.Parts.{IsValid, serialize}
use Rattle.sw_data.specs.Addresses.{resolved}
use Rattle.sw_url.proofs.ResolvedLemmas.{answered, answered_again}
use Rattle.sw_url.proofs.address.resolved.Goals as goal

pub returns-clause-again : goal.returns-clause-again
returns-clause-again c = λ other some.
    let valid_base = subst IsValid c.base.view_is c.base.invariant.valid in
    let text : c.in_ok-of.field-0 ≡ serialize c.in_ok-url.url = c.in_ok-of.ensures ∙ c.as_str.ensures.value in
    let again = answered_again c.in_ok-base.base c.in_ok-url.url c.args.base.now c.args.text.now c.in_ok-base.ensures c.in_ok-url.ensures valid_base c.as_str.ensures.valid other some in
    let P : List ℕ → Type 0 = λ address. resolved address other ≡ Some address in
    subst P (sym text) again

pub returns-clause-answer : goal.returns-clause-answer
returns-clause-answer c =
    answered c.in_ok-base.base c.in_ok-url.url c.args.base.now c.args.text.now c.in_ok-base.ensures c.in_ok-url.ensures
    ∙ ap Ok (sym (c.in_ok-of.ensures ∙ c.as_str.ensures.value))
