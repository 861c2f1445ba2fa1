use Rattle.std.proofs.Common.{◌∙◌, ap, sym}
use Rattle.sw_pages.proofs.Active.{matched_here}
use Rattle.sw_pages.specs.Acts.{outcome_of}
use Rattle.sw_pages.specs.declared.worked.Worked.{Worked}
use Rattle.sw_rules.specs.Told.{answered}
use Rattle.sw_state.specs.Hosted.{state_of}
use Rattle.sw_pages.proofs.look.matched_at.Goals as goal

pub returns-then-branch-clause-gives : goal.returns-then-branch-clause-gives
returns-then-branch-clause-gives c who =
    let state = state_of c.args.host.now in
    matched_here state c.args.row.now c.args.url.now _ c.matched-found.result (sym c.in_ok-same_origin.ensures ∙ c.if-branch.true) c.as_bytes.ensures c.matched-found.ensures
    ∙ sym (ap (λ (worked : Worked). outcome_of who worked state) c.answered.ensures ∙ ap (answered state) c.registration_or_undefined.ensures)
