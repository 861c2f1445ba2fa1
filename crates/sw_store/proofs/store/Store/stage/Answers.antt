use Rattle.std.proofs.Common.{◌≡◌, ◌≢◌, ◌+◌, ◌++◌, [], ℕ, List, Some, sym, subst}
use Rattle.sw_codec.specs.Spelling.{spelled_all}
use Rattle.sw_disk.proofs.Images.{ok_so}
use Rattle.sw_rules.specs.State.{State}
use Rattle.sw_rules.specs.Step.{changes_of}
use Rattle.sw_store.proofs.Happened.{goes_on, staged_store}
use Rattle.sw_store.proofs.store.Store.stage.Goals as goal
use Rattle.sw_store.specs.Groups.{IsGroup, IsPlaced, IsTooLong}
use Rattle.sw_store.specs.Stores.{FitsBehind, StoreState, store_of}
use Rattle.sw_state.specs.Hosted.{state_of}

pub returns-in-Ok-clause-goes_on : goal.returns-in-Ok-clause-goes_on
returns-in-Ok-clause-goes_on c begun group =
    let i = c.self.inside in
    let event = c.args.event in
    let mid = c.work_out.new.core in
    let done = c.stage_plan.new in
    let old = store_of i.core i.twin i.base i.group i.mark i.since in
    let new = store_of done.core done.twin i.base done.group i.mark i.since in
    ok_so c.stage_plan.result
    ((more : List ℕ) × (spelled_all (changes_of (state_of mid) event) ≡ Some more) × IsPlaced event c.args.pass (state_of mid) i.group more done.group (state_of done.core)
    × (more ≢ [] → FitsBehind i.twin (i.group.payload ++ more)))
    (IsGroup begun new)
    (λ h. goes_on begun event c.args.pass old new
    (staged_store event c.args.pass i.core mid done.core i.twin done.twin i.base i.group done.group i.mark i.since c.work_out.ensures.same c.stage_plan.ensures.twin h.0 h.1 h.2)
    (subst (IsGroup begun) (sym c.self.view_is) group))
    c.stage_plan.ensures.happened

pub returns-in-Ok-clause-full : goal.returns-in-Ok-clause-full
returns-in-Ok-clause-full c refused from needed is =
    let i = c.self.inside in
    let event = c.args.event in
    let p = c.stage_plan.ensures.full refused from needed is in
    subst (λ (s : StoreState). (refused ≡ event) × (s.staged ≡ []) × (from ≡ s.twin.journal.gate + 1) × IsTooLong (changes_of (state_of s.core) event) s.payload s.twin needed) c.self.view_is
    (p.0, p.1, p.2, subst (λ (s : State). IsTooLong (changes_of s event) i.group.payload i.twin needed) c.work_out.ensures.same p.3)
