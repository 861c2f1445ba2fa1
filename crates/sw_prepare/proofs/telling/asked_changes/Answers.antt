use Rattle.std.proofs.Common.{◌≡◌, List, [], ◌∷◌, subst, sym}
use Rattle.std.specs.Prelude.{IfOk}
use Rattle.sw_prepare.proofs.Changing.{asked_tells}
use Rattle.sw_data.specs.declared.storage.Change.{Change}
use Rattle.sw_data.specs.declared.storage.Change.TheVariants as change
use Rattle.sw_pages.specs.Acts.{told_by}
use Rattle.sw_rules.specs.Forgetting.{forget_key}
use Rattle.sw_rules.specs.Preloading.{set_preload}
use Rattle.sw_state.specs.Hosted.{state_of}
use Rattle.sw_work.specs.Plans.{told_by_act}
use Rattle.sw_work.specs.declared.plan.Act.{Act}
use Rattle.sw_prepare.proofs.telling.asked_changes.Goals as goal

pub returns-in-Page : goal.returns-in-Page
returns-in-Page c outcome asked =
    let state = state_of c.args.host.now in
    let tells : outcome.told.changes ≡ (told_by c.in-Page.act state).changes =
    subst (λ (a : Act). outcome.told.changes ≡ (told_by_act a state).changes) c.in-Page.is (asked_tells outcome c.args.asked.now state asked) in
    subst (λ (all : List Change). IfOk c.page_changes.result (λ changes. changes.items ≡ all)) (sym tells) c.page_changes.ensures

pub returns-in-Preload : goal.returns-in-Preload
returns-in-Preload c outcome asked =
    let state = state_of c.args.host.now in
    let row = c.in-Preload.row in
    let tells : outcome.told.changes ≡ (set_preload state row.registration row.on row.value).changes =
    subst (λ (a : Act). outcome.told.changes ≡ (told_by_act a state).changes) c.in-Preload.is (asked_tells outcome c.args.asked.now state asked) in
    subst (λ (all : List Change). IfOk c.preload_changes.result (λ changes. changes.items ≡ all)) (sym tells) c.preload_changes.ensures

pub returns-in-Forget : goal.returns-in-Forget
unfolding forget_key
returns-in-Forget c outcome asked =
    let state = state_of c.args.host.now in
    let tells : outcome.told.changes ≡ change.Forgot c.in-Forget.key ∷ [] =
    subst (λ (a : Act). outcome.told.changes ≡ (told_by_act a state).changes) c.in-Forget.is (asked_tells outcome c.args.asked.now state asked) in
    subst (λ (all : List Change). IfOk c.forgotten.result (λ changes. changes.items ≡ all)) (sym tells) c.forgotten.ensures
