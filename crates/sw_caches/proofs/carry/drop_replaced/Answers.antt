use Rattle.std.proofs.Common.{arith, refl, sym, ap, ◌∙◌, ◌++◌, ◌∷◌, [], take}
use Rattle.std.proofs.lemmas.List.{take_more, map-append}
use Rattle.sw_data.specs.Exchange.{no_options}
use Rattle.sw_rules.specs.Batch.{without_matching}
use Rattle.sw_caches.specs.Entries.{number, pair, pair_digest, pairs}
use Rattle.sw_caches.specs.Plans.{left_by}
use Rattle.sw_caches.proofs.BatchLemmas.{left_put, left_nothing}
use Rattle.sw_list.proofs.IndexLemmas.{above_more, above_same, drops_more}
use Rattle.sw_caches.proofs.carry.drop_replaced.Goals as goal

pub loop-entry-init : goal.loop-entry-init
loop-entry-init c = record {
  indexed = c.requires.indexed;
  bytes = c.requires.bytes;
  pairs = sym (left_nothing (pairs c.args.entries.now.items));
  above = above_same number c.args.entries.now.items c.args.slots.now;
  marks = λ key n h. (h, λ m. m);
  bound = omega arith;
  capacity = refl;
}

pub loop-entry-preserved : goal.loop-entry-preserved
loop-entry-preserved c =
    let at = c.loop-entry in
    let entry = c.entry-item.result in
    let old = pairs c.args.entries.now.items in
    let so_far = take at.entry-index c.args.added.now in
    record {
      indexed = c.drop_matching.ensures.indexed;
      bytes = c.drop_matching.ensures.bytes;
      pairs =
          c.drop_matching.ensures.pairs ∙ (ap (λ put. without_matching put.0 no_options (pairs at.entries.items)) c.deref.ensures
          ∙ (ap (without_matching entry.pair.value.0 no_options) at.invariant.pairs
          ∙ (left_put [] (pairs so_far) old (pair entry)
          ∙ ap (λ puts. left_by [] puts old) (sym (map-append pair so_far (entry ∷ []))
          ∙ ap pairs (ap (λ item. so_far ++ item ∷ []) c.entry-item.is ∙ sym (take_more c.args.added.now at.entry-index entry c.loop-entry-test.true))))));
      above = above_more number c.args.entries.now.items at.entries.items c.drop_matching.new.entries.items c.args.slots.now at.slots c.drop_matching.new.slots at.invariant.above c.drop_matching.ensures.above;
      marks = drops_more number pair pair_digest c.args.entries.now.items at.entries.items c.drop_matching.new.entries.items c.args.slots.now at.slots c.drop_matching.new.slots at.invariant.marks c.drop_matching.ensures.marks;
      bound = let h = at.invariant.bound in omega arith;
      capacity = c.drop_matching.ensures.capacity ∙ at.invariant.capacity;
    }
