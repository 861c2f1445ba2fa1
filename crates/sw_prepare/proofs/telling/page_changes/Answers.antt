use Rattle.std.proofs.Common.{◌≡◌, subst, sym}
use Rattle.std.specs.Prelude.{IfOk}
use Rattle.sw_pages.specs.Acts.{told_by}
use Rattle.sw_pages.specs.declared.worked.PageAct.{PageAct}
use Rattle.sw_state.specs.Hosted.{state_of}
use Rattle.sw_work.specs.Plans.{FitsPageAct}
use Rattle.sw_prepare.proofs.telling.page_changes.Goals as goal

pub claim_changes-requires : goal.claim_changes-requires
claim_changes-requires c =
    record { claimant = subst (λ (a : PageAct). FitsPageAct a c.args.host.now) c.in-Claim.is c.requires }

pub returns-in-Close : goal.returns-in-Close
returns-in-Close c =
    subst (λ (a : PageAct). IfOk c.close_changes.result (λ changes. changes.items ≡ (told_by a (state_of c.args.host.now)).changes)) (sym c.in-Close.is) c.close_changes.ensures

pub returns-in-SkipWaiting : goal.returns-in-SkipWaiting
returns-in-SkipWaiting c =
    subst (λ (a : PageAct). IfOk c.skip_waiting_changes.result (λ changes. changes.items ≡ (told_by a (state_of c.args.host.now)).changes)) (sym c.in-SkipWaiting.is) c.skip_waiting_changes.ensures

pub returns-in-Claim : goal.returns-in-Claim
returns-in-Claim c =
    subst (λ (a : PageAct). IfOk c.claim_changes.result (λ changes. changes.items ≡ (told_by a (state_of c.args.host.now)).changes)) (sym c.in-Claim.is) c.claim_changes.ensures

pub returns-in-End : goal.returns-in-End
returns-in-End c =
    subst (λ (a : PageAct). IfOk c.end_changes.result (λ changes. changes.items ≡ (told_by a (state_of c.args.host.now)).changes)) (sym c.in-End.is) c.end_changes.ensures
