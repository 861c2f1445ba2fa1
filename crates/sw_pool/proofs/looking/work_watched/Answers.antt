-- A run is of what its lock was made with, and what was seen is of its history.
use Rattle.std.proofs.Common.{◌≡◌, ◌∙◌, List, ap, sym, subst}
use mathlib.Core.List.{IsPrefix}
use denote.Exit.{no}
use denote.Param.{param}
use denote.Param.Send.{arg_send, arg_sync, param_send, param_sync}
use Rattle.sw_data.specs.declared.histories.Entry.{Entry}
use Rattle.sw_lock.specs.Passes.{opened_of}
use Rattle.sw_pool.proofs.Crossing.{watched_yard_send}
use Rattle.sw_pool.proofs.LookLemmas.{seen_is_right}
use Rattle.sw_pool.proofs.crew.Crew.TheSendSync as crew
use Rattle.sw_pool.proofs.looking.work_watched.Goals as goal
use Rattle.sw_pool.specs.Yards.{IsWorked, Origin}
use Rattle.sw_view.proofs.Fronts.{prefix_trans}
use Rattle.sw_view.specs.Views.{Published}

pub side_by_side-looks-requires-send-C : goal.side_by_side-looks-requires-send-C
side_by_side-looks-requires-send-C g c κs within =
    param_send 1 _ (arg_send _ no _ (crew.the_send _ _ _ _ _ (watched_yard_send (param 2 g.row.D) (param 1 g.row.W) g.D.Disk g.D.Disk-dict c.type_bounds.send-D c.type_bounds.send-W)))

pub side_by_side-looks-requires-after_bounds : goal.side_by_side-looks-requires-after_bounds
side_by_side-looks-requires-after_bounds g c κs within = λ p is.
    let r = param_sync 0 _ (arg_sync _ no _ c.type_bounds.sync-R) in
    let g = param_sync 3 _ (arg_sync _ no _ c.type_bounds.sync-G) in
    let d = param_send 2 _ (arg_send _ no _ c.type_bounds.send-D) in
    let w = param_send 1 _ (arg_send _ no _ c.type_bounds.send-W) in
    ((r, g, d, w), (w, d, r, g))

pub returns-then-covers-clause-worked : goal.returns-then-covers-clause-worked
returns-then-covers-clause-worked g c =
    let moved = c.side_by_side-looks.ensures.crew in
    let same : c.side_by_side-looks.new.crew.lock ≡ c.in-Ok.crew.lock = sym (λ i. (moved.left i).lock) ∙ moved.call ∙ (λ i. (moved.argument_is i).lock) in
    subst (λ (origin : Origin g.row.D.Denot). IsWorked g.D.Disk origin c.end_of.result.disk c.end_of.result.progress c.end_of.result.end)
    ((λ i. (c.into_parts-yard.ensures.value i).origin) ∙ (λ i. (c.close-watched.ensures.base i).base) ∙ (λ i. (opened_of (same i)).value.origin)
    ∙ (λ i. (c.in-Ok.ensures.opened i).value.origin) ∙ (λ i. (c.new-watched.ensures.value i).origin)) c.end_of.ensures.worked

pub returns-then-covers-clause-answers : goal.returns-then-covers-clause-answers
returns-then-covers-clause-answers g c =
    seen_is_right (λ looks. looks.items) _ c.args.yard.origin.base _ c.end_of.result.progress.history.items c.args.asked.now c.side_by_side-looks.result
    (ap (λ (seen : Published). seen.base) c.requires.looker ∙ c.requires.base)
    (subst (λ (entries : List Entry). IsPrefix c.side_by_side-looks.new.looker.entries entries) (sym (λ i. (c.end_of.ensures.progress i).history.items)) (prefix_trans _ _ _ (c.covers.ensures.front (c.covers.ensures.exactly.0 c.if-covers.true)) c.into_parts-yard.ensures.begins))
    c.side_by_side-looks.ensures.answers

pub returns-in-Ok-clause-worked : goal.returns-in-Ok-clause-worked
returns-in-Ok-clause-worked g c =
    let moved = c.side_by_side-looks.ensures.crew in
    let same : c.side_by_side-looks.new.crew.lock ≡ c.in-Ok.crew.lock = sym (λ i. (moved.left i).lock) ∙ moved.call ∙ (λ i. (moved.argument_is i).lock) in
    subst (λ (origin : Origin g.row.D.Denot). IsWorked g.D.Disk origin c.end_of-else-covers.result.disk c.end_of-else-covers.result.progress c.end_of-else-covers.result.end)
    ((λ i. (c.into_parts-yard.ensures.value i).origin) ∙ (λ i. (c.close-watched.ensures.base i).base) ∙ (λ i. (opened_of (same i)).value.origin)
    ∙ (λ i. (c.in-Ok.ensures.opened i).value.origin) ∙ (λ i. (c.new-watched.ensures.value i).origin)) c.end_of-else-covers.ensures.worked

pub returns-clause-worked : goal.returns-clause-worked
returns-clause-worked g c =
    subst (λ (origin : Origin g.row.D.Denot). IsWorked g.D.Disk origin c.end_of-in-Err.result.disk c.end_of-in-Err.result.progress c.end_of-in-Err.result.end)
    ((λ i. (c.into_parts-yard-in-Err.ensures.value i).origin) ∙ (λ i. (c.in-Err.ensures.back i).value.origin) ∙ (λ i. (c.new-watched.ensures.value i).origin))
    c.end_of-in-Err.ensures.worked
