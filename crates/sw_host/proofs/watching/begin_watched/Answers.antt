-- The only looker is of the view.
use Rattle.std.proofs.Common.{◌≡◌, ◌∙◌, All, List, arith, subst}
use Rattle.sw_host.proofs.watching.begin_watched.Goals as goal
use Rattle.sw_view.specs.Views.{Published}

pub returns-in-Ok-begin-clause-view : goal.returns-in-Ok-begin-clause-view
returns-in-Ok-begin-clause-view g c =
    let all = subst (λ (lookers : List Published). All (λ (looker : Published). looker ≡ c.in-Ok.publisher) lookers) c.only.ensures c.in-Ok.ensures.lookers in
    (c.in-Ok.ensures.base ∙ c.base.ensures, c.in-Ok.ensures.empty, all 0 c.only.result (omega arith))
