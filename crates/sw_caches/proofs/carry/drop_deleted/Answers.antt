use Rattle.std.proofs.Common.{arith, refl, sym, ap, ◌∙◌, ◌++◌, ◌∷◌, [], take}
use Rattle.std.proofs.lemmas.List.{take_more}
use Rattle.sw_rules.specs.Batch.{without_matching}
use Rattle.sw_caches.specs.Entries.{number, pair, pair_digest, pairs}
use Rattle.sw_caches.specs.Plans.{left_by}
use Rattle.sw_caches.proofs.BatchLemmas.{left_delete, left_nothing}
use Rattle.sw_list.proofs.IndexLemmas.{above_more, above_same, drops_more}
use Rattle.sw_caches.proofs.carry.drop_deleted.Goals as goal

pub loop-query-init : goal.loop-query-init
loop-query-init c = record {
  indexed = c.requires.indexed;
  bytes = c.requires.bytes;
  pairs = sym (left_nothing (pairs c.args.entries.now.items));
  above = above_same number c.args.entries.now.items c.args.slots.now;
  marks = λ key n h. (h, λ m. m);
  bound = omega arith;
  capacity = refl;
}

pub loop-query-preserved : goal.loop-query-preserved
loop-query-preserved c =
    let at = c.loop-query in
    let query = c.query-item.result in
    let old = pairs c.args.entries.now.items in
    let so_far = take at.query-index c.args.deletes.now in
    record {
      indexed = c.drop_matching.ensures.indexed;
      bytes = c.drop_matching.ensures.bytes;
      pairs =
          c.drop_matching.ensures.pairs ∙ (ap (without_matching query.0 query.1) at.invariant.pairs
          ∙ (left_delete so_far [] old query.0 query.1
          ∙ ap (λ deletes. left_by deletes [] old) (ap (λ item. so_far ++ item ∷ []) c.query-item.is ∙ sym (take_more c.args.deletes.now at.query-index query c.loop-query-test.true))));
      above = above_more number c.args.entries.now.items at.entries.items c.drop_matching.new.entries.items c.args.slots.now at.slots c.drop_matching.new.slots at.invariant.above c.drop_matching.ensures.above;
      marks = drops_more number pair pair_digest c.args.entries.now.items at.entries.items c.drop_matching.new.entries.items c.args.slots.now at.slots c.drop_matching.new.slots at.invariant.marks c.drop_matching.ensures.marks;
      bound = let h = at.invariant.bound in omega arith;
      capacity = c.drop_matching.ensures.capacity ∙ at.invariant.capacity;
    }
