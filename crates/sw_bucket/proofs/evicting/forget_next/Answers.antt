-- The forget that was due has happened, or none is due.
use Rattle.std.proofs.Common.{◌≡◌, ⊎_elim, Some, None, true, refl, sym, arith}
use Rattle.sw_bucket.proofs.EvictLemmas.{due_after, due_here, forget_comes}
use Rattle.sw_bucket.proofs.RunLemmas.{ahead_by, ends_short, ends_spent, may_forget}
use Rattle.sw_bucket.proofs.evicting.forget_next.Goals as goal

pub returns-then-len-ge-MOST-clause-forgotten : goal.returns-then-len-ge-MOST-clause-forgotten
returns-then-len-ge-MOST-clause-forgotten g c course between = (
  ends_spent g.D.Disk c.args.disk.now course c.args.history.now.items c.args.store.now between.at_work between.quiet.staged course.lanes between.under_way
      (omega (arith, c.if-len-ge-MOST.true, c.len.ensures)),
  λ some. between.notes,
)

pub happen-requires : goal.happen-requires
happen-requires g c =
    let course = c.requires.between.0 in
    let between = c.requires.between.1 in
    record {
      next = (
        course,
        course.lanes,
        between,
        forget_comes g.D.Disk g.B.Bound c.args.disk.now c.args.bound.now course c.args.history.now.items c.args.store.now between c.core.result.now c.in-Ok-Some.field-0 (Some c.in-Ok-Some.event) c.core.ensures c.in-Ok-Some.field-0-is c.in-Ok-Some.ensures.due
            c.in-Ok-Some.event refl c.in-Ok-Some.ensures.forget,
      );
    }

pub returns-in-Ok-clause-forgotten : goal.returns-in-Ok-clause-forgotten
returns-in-Ok-clause-forgotten g c course between =
    let comes = forget_comes g.D.Disk g.B.Bound c.args.disk.now c.args.bound.now course c.args.history.now.items c.args.store.now between c.core.result.now c.in-Ok-Some.field-0 (Some c.in-Ok-Some.event) c.core.ensures c.in-Ok-Some.field-0-is c.in-Ok-Some.ensures.due c.in-Ok-Some.event refl c.in-Ok-Some.ensures.forget in
    let both = c.in-Ok.ensures.happened course course.lanes between comes in (
      both.0,
      ahead_by g.D.Disk c.args.disk.now c.happen.new.disk course.base c.args.history.now.items c.happen.new.history.items (c.in-Ok.some ≡ true) (Some c.in-Ok.some ≡ Some true) (λ is. cc) both.1,
      λ none. absurd cc,
    )

pub returns-in-Ok-clause-added : goal.returns-in-Ok-clause-added
returns-in-Ok-clause-added g c course between =
    may_forget (g.B.Bound.forgets c.args.bound.now) course.base c.args.history.now.items c.happen.new.history.items c.in-Ok-Some.event
    (due_after g.D.Disk g.B.Bound c.args.disk.now c.args.bound.now course c.args.history.now.items c.args.store.now between c.core.result.now c.in-Ok-Some.field-0 (Some c.in-Ok-Some.event) c.core.ensures c.in-Ok-Some.field-0-is c.in-Ok-Some.ensures.due)
    c.happen.ensures.added

pub returns-in-Err-happen-clause-forgotten : goal.returns-in-Err-happen-clause-forgotten
returns-in-Err-happen-clause-forgotten g c course between =
    let comes = forget_comes g.D.Disk g.B.Bound c.args.disk.now c.args.bound.now course c.args.history.now.items c.args.store.now between c.core.result.now c.in-Ok-Some.field-0 (Some c.in-Ok-Some.event) c.core.ensures c.in-Ok-Some.field-0-is c.in-Ok-Some.ensures.due c.in-Ok-Some.event refl c.in-Ok-Some.ensures.forget in
    c.in-Err-happen.ensures.happened course course.lanes between comes

pub returns-in-Err-happen-clause-added : goal.returns-in-Err-happen-clause-added
returns-in-Err-happen-clause-added g c course between =
    may_forget (g.B.Bound.forgets c.args.bound.now) course.base c.args.history.now.items c.happen.new.history.items c.in-Ok-Some.event
    (due_after g.D.Disk g.B.Bound c.args.disk.now c.args.bound.now course c.args.history.now.items c.args.store.now between c.core.result.now c.in-Ok-Some.field-0 (Some c.in-Ok-Some.event) c.core.ensures c.in-Ok-Some.field-0-is c.in-Ok-Some.ensures.due)
    c.happen.ensures.added

pub returns-in-Ok-None-clause-forgotten : goal.returns-in-Ok-None-clause-forgotten
returns-in-Ok-None-clause-forgotten g c course between = (
  between,
  ⊎_elim (λ was. was) (λ is. absurd cc),
  λ none. (
    sym (due_here g.D.Disk g.B.Bound c.args.disk.now c.args.bound.now course c.args.history.now.items c.args.store.now between c.core.result.now c.in-Ok-None.field-0 None c.core.ensures c.in-Ok-None.field-0-is c.in-Ok-None.ensures.due),
    omega (arith, c.if-len-ge-MOST.false, c.len.ensures),
  ),
)

pub returns-in-Err-clause-forgotten : goal.returns-in-Err-clause-forgotten
returns-in-Err-clause-forgotten g c course between = (
  ends_short g.D.Disk c.args.disk.now course c.args.history.now.items c.args.store.now between.at_work between.quiet.staged course.lanes between.under_way,
  λ some. absurd (some refl),
)
