use Rattle.std.proofs.Common.{subst, ◌∙◌}
use Rattle.std.specs.Prelude.{◌^◌}
use Rattle.sw_rules.specs.Matching.{matches_pair}
use Rattle.sw_list.specs.Marks.{NoneBetween}
use Rattle.sw_caches.specs.Slots.{address_digest}
use Rattle.sw_caches.specs.Entries.{number, pair, pair_digest}
use Rattle.sw_caches.proofs.PairLemmas.{same_digest}
use Rattle.sw_caches.proofs.PlaceLemmas.{places_start, places_none, places_more, places_end}
use Rattle.sw_caches.proofs.entries.matching_places.Goals as goal

pub loop-number-init : goal.loop-number-init
loop-number-init c =
    let query = c.args.query.now in
    let kind = c.args.options.ignore_search in
    c.new-places.ensures.items ∙ places_start number pair pair_digest (matches_pair query c.args.options) (address_digest kind query.url) kind (same_digest query c.args.options) c.args.entries.now c.args.slots.now c.requires

pub loop-number-preserved-in_ok-push : goal.loop-number-preserved-in_ok-push
loop-number-preserved-in_ok-push c =
    let query = c.args.query.now in
    let kind = c.args.options.ignore_search in
    rw c.in_ok-push.ensures.items (rw (c.loop-number.invariant, c.in_ok-number_of.ensures)
    (places_more number pair pair_digest (matches_pair query c.args.options) (address_digest kind query.url) kind (same_digest query c.args.options) c.args.entries.now c.args.slots.now c.requires c.loop-number.after c.in-Some.number _ _ c.in-Some.ensures.0
    (subst (λ key. NoneBetween c.args.slots.now key c.loop-number.after c.in-Some.number) c.address_digest-key.ensures c.in-Some.ensures.1) c.in-Some-hit.ensures.0 c.in-Some-hit.ensures.1 c.in-Some-hit.ensures.2))

pub loop-number-preserved : goal.loop-number-preserved
loop-number-preserved c =
    let query = c.args.query.now in
    let kind = c.args.options.ignore_search in
    c.loop-number.invariant ∙ places_none number pair pair_digest (matches_pair query c.args.options) (address_digest kind query.url) kind (same_digest query c.args.options) c.args.entries.now c.args.slots.now c.requires c.loop-number.after c.in-Some.number c.in-Some.ensures.0
    (subst (λ key. NoneBetween c.args.slots.now key c.loop-number.after c.in-Some.number) c.address_digest-key.ensures c.in-Some.ensures.1) c.in_default-hit.ensures

pub returns : goal.returns
returns c =
    let query = c.args.query.now in
    let kind = c.args.options.ignore_search in
    c.loop-number.invariant ∙ places_end number pair pair_digest (matches_pair query c.args.options) (address_digest kind query.url) kind (same_digest query c.args.options) c.args.entries.now c.args.slots.now c.requires c.loop-number.after
    (subst (λ key. NoneBetween c.args.slots.now key c.loop-number.after (2 ^ 64)) c.address_digest-key.ensures c.in_default.ensures)
