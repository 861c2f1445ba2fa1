use Rattle.std.proofs.Common.{◌≡◌, ◌∙◌, ◌<◌, ◌+◌, ap, arith, length, subst, sym}
use Rattle.std.specs.Prelude.{remove}
use Rattle.sw_rules.specs.Matching.{matches_pair}
use Rattle.sw_caches.specs.Slots.{address_mark}
use Rattle.sw_caches.specs.Bytes.{made_size}
use Rattle.sw_caches.specs.Entries.{number, pair, pair_digest, pairs}
use Rattle.sw_caches.proofs.BytesLemmas.{bytes_removed}
use Rattle.sw_list.proofs.FindLemmas.{none_reads, found_low}
use Rattle.sw_list.proofs.IndexLemmas.{thinned_more}
use Rattle.sw_caches.proofs.entries.drop_matching.Goals.{After-remove-entry}
use Rattle.sw_caches.proofs.entries.drop_matching.Goals as goal

pub first_matching-requires : goal.first_matching-requires
first_matching-requires c = rw c.deref.ensures.value c.loop-place.invariant.thinned.indexed

pub remove-entry-requires : goal.remove-entry-requires
remove-entry-requires c =
    let low = found_low pair (matches_pair c.args.query.now c.args.options) _ _ _ c.in-Some.ensures in
    subst (λ n. c.in-Some.place < n) c.deref.ensures.len low

-- the entry takes its bytes with it
taken : (c : After-remove-entry) → made_size c.args.names (pairs (remove c.loop-place.entries.items c.in-Some.place)) + (5 + c.args.names + c.remove-entry.result.size) ≡ c.loop-place.bytes
taken c =
    let low : c.in-Some.place < length c.loop-place.entries.items = found_low pair (matches_pair c.args.query.now c.args.options) _ _ _ (rw c.deref.ensures.value at c.in-Some.ensures) in
    bytes_removed c.args.names c.loop-place.entries.items c.in-Some.place c.remove-entry.result low c.remove-entry.ensures.value ∙ sym c.loop-place.invariant.bytes

pub overflow_sub-bytes-in-Some-2 : goal.overflow_sub-bytes-in-Some-2
overflow_sub-bytes-in-Some-2 c = let is = taken (goal.at.overflow_sub-bytes-in-Some-2 c).After-remove-entry in omega (arith, is)

pub loop-place-preserved : goal.loop-place-preserved
loop-place-preserved c = record {
  thinned = rw c.remove-entry.ensures.items (thinned_more number pair pair_digest (matches_pair c.args.query.now c.args.options) _ _ _ c.loop-place.slots _ c.in-Some.place _ c.remove-entry.result c.loop-place.invariant.thinned
      (rw c.deref.ensures.value at c.in-Some.ensures) c.remove-entry.ensures.value
      c.mark_of.result (c.mark_of.ensures ∙ ap (λ p. address_mark p.0.url c.remove-entry.result.number) c.deref-in-Some.ensures) c.take_mark.ensures.others c.take_mark.ensures.fewer c.take_mark.ensures.gone);
  bytes = let is = taken (goal.at.loop-place-preserved c).After-remove-entry in rw c.remove-entry.ensures.items (omega (arith, is));
  bound = let h = c.loop-place.invariant.bound in omega arith;
  capacity = c.remove-entry.ensures.capacity ∙ c.loop-place.invariant.capacity;
}

pub returns-clause-pairs : goal.returns-clause-pairs
returns-clause-pairs c =
    none_reads pair (matches_pair c.args.query.now c.args.options) _ 0 (sym (rw c.deref.ensures.value at c.in_default.ensures)) ∙ c.loop-place.invariant.thinned.others
