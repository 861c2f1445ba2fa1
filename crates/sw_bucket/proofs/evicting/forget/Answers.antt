-- Forgets of the host, one after another.
use Rattle.std.proofs.Common.{◌∙◌, inl, inr, Bool, List, Option, Some, refl, ap, subst, arith}
use Rattle.sw_bucket.proofs.EvictLemmas.{adds_more, adds_none, opened}
use Rattle.sw_bucket.proofs.evicting.forget.Goals as goal
use Rattle.sw_bucket.specs.Running.{MayForget}
use Rattle.sw_data.specs.declared.events.Event.{Event}
use Rattle.sw_data.specs.declared.histories.Entry.{Entry}
use Rattle.sw_data.specs.declared.storage.Kept.{Kept}
use Rattle.sw_rules.specs.State.{State}

pub forgets-init : goal.forgets-init
forgets-init g c = record {
  goes = λ course between. (between, λ wrote. absurd cc);
  adds = λ course between. adds_none (g.B.Bound.forgets c.args.bound.now) course.base c.args.history.now.items;
  same = refl;
}

pub forget_next-requires : goal.forget_next-requires
forget_next-requires g c =
    let it = c.requires.between in
    record { between = (it.0, (c.forgets.invariant.goes it.0 it.1).0) }

pub forgets-smaller-then-wrote : goal.forgets-smaller-then-wrote
forgets-smaller-then-wrote g c =
    let more = rw c.in-Ok-Some.field-0-is at c.in-Ok-Some.ensures.more in
    omega (arith, more.0, more.1)

pub forgets-smaller : goal.forgets-smaller
forgets-smaller g c =
    let more = rw c.in-Ok-Some.field-0-is at c.in-Ok-Some.ensures.more in
    omega (arith, more.0, more.1)

pub forgets-preserved-then-wrote : goal.forgets-preserved-then-wrote
forgets-preserved-then-wrote g c = record {
  goes = λ course between.
      let was = c.forgets.invariant.goes course between in
      let now = c.in-Ok-Some.ensures.forgotten course was.0 in
      (now.0, λ is. now.1 (inl (was.1 c.if-wrote.true)));
  adds = λ course between.
      let was = c.forgets.invariant.goes course between in
      adds_more (g.B.Bound.forgets c.args.bound.now) course.base c.args.history.now.items c.forgets.history.items c.forget_next.new.history.items
      (opened g.D.Disk g.B.Bound c.args.disk.now c.args.bound.now course c.args.history.now.items c.args.store.now between) (c.forgets.invariant.adds course between)
      (subst (λ (forgets : Kept → List Entry → State → Option Event). MayForget forgets course.base c.forgets.history.items c.forget_next.new.history.items) c.forgets.invariant.same
      (c.in-Ok-Some.ensures.added course was.0));
  same = c.forget_next.ensures.same ∙ c.forgets.invariant.same;
}

pub forgets-preserved : goal.forgets-preserved
forgets-preserved g c = record {
  goes = λ course between.
      let was = c.forgets.invariant.goes course between in
      let now = c.in-Ok-Some.ensures.forgotten course was.0 in
      (now.0, λ is. now.1 (inr (c.in-Ok-Some.field-0-is ∙ ap (λ (some : Bool). Some some) is)));
  adds = λ course between.
      let was = c.forgets.invariant.goes course between in
      adds_more (g.B.Bound.forgets c.args.bound.now) course.base c.args.history.now.items c.forgets.history.items c.forget_next.new.history.items
      (opened g.D.Disk g.B.Bound c.args.disk.now c.args.bound.now course c.args.history.now.items c.args.store.now between) (c.forgets.invariant.adds course between)
      (subst (λ (forgets : Kept → List Entry → State → Option Event). MayForget forgets course.base c.forgets.history.items c.forget_next.new.history.items) c.forgets.invariant.same
      (c.in-Ok-Some.ensures.added course was.0));
  same = c.forget_next.ensures.same ∙ c.forgets.invariant.same;
}

pub returns-in-Ok-None-clause-cleared : goal.returns-in-Ok-None-clause-cleared
returns-in-Ok-None-clause-cleared g c course between =
    let was = c.forgets.invariant.goes course between in
    let now = c.in-Ok-None.ensures.forgotten course was.0 in
    (now.0, now.2 c.in-Ok-None.field-0-is, λ is. now.1 (inl (was.1 is)))

pub returns-in-Ok-None-clause-added : goal.returns-in-Ok-None-clause-added
returns-in-Ok-None-clause-added g c course between =
    let was = c.forgets.invariant.goes course between in
    adds_more (g.B.Bound.forgets c.args.bound.now) course.base c.args.history.now.items c.forgets.history.items c.forget_next.new.history.items
    (opened g.D.Disk g.B.Bound c.args.disk.now c.args.bound.now course c.args.history.now.items c.args.store.now between) (c.forgets.invariant.adds course between)
    (subst (λ (forgets : Kept → List Entry → State → Option Event). MayForget forgets course.base c.forgets.history.items c.forget_next.new.history.items) c.forgets.invariant.same
    (c.in-Ok-None.ensures.added course was.0))

pub returns-in-Ok-None-clause-same : goal.returns-in-Ok-None-clause-same
returns-in-Ok-None-clause-same g c = c.forget_next.ensures.same ∙ c.forgets.invariant.same

pub returns-in-Err-clause-cleared : goal.returns-in-Err-clause-cleared
returns-in-Err-clause-cleared g c course between = c.in-Err.ensures.forgotten course (c.forgets.invariant.goes course between).0

pub returns-in-Err-clause-added : goal.returns-in-Err-clause-added
returns-in-Err-clause-added g c course between =
    let was = c.forgets.invariant.goes course between in
    adds_more (g.B.Bound.forgets c.args.bound.now) course.base c.args.history.now.items c.forgets.history.items c.forget_next.new.history.items
    (opened g.D.Disk g.B.Bound c.args.disk.now c.args.bound.now course c.args.history.now.items c.args.store.now between) (c.forgets.invariant.adds course between)
    (subst (λ (forgets : Kept → List Entry → State → Option Event). MayForget forgets course.base c.forgets.history.items c.forget_next.new.history.items) c.forgets.invariant.same
    (c.in-Err.ensures.added course was.0))

pub returns-in-Err-clause-same : goal.returns-in-Err-clause-same
returns-in-Err-clause-same g c = c.forget_next.ensures.same ∙ c.forgets.invariant.same
