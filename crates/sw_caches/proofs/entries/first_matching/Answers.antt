use Rattle.std.proofs.Common.{subst}
use Rattle.std.specs.Prelude.{◌^◌}
use Rattle.sw_rules.specs.Matching.{matches_pair}
use Rattle.sw_list.specs.Marks.{NoneBetween}
use Rattle.sw_caches.specs.Slots.{address_digest}
use Rattle.sw_caches.specs.Entries.{number, pair, pair_digest}
use Rattle.sw_caches.proofs.PairLemmas.{same_digest}
use Rattle.sw_list.proofs.IndexLemmas.{step, first_found, first_none}
use Rattle.sw_caches.proofs.entries.first_matching.Goals as goal

pub returns-in-Some-hit : goal.returns-in-Some-hit
returns-in-Some-hit c =
    let query = c.args.query.now in
    let kind = c.args.options.ignore_search in
    first_found number pair pair_digest (matches_pair query c.args.options) (address_digest kind query.url) kind (same_digest query c.args.options) c.args.entries.now c.args.slots.now c.requires c.loop-number.after c.loop-number.invariant
    c.in-Some.number _ _ (subst (λ key. NoneBetween c.args.slots.now key c.loop-number.after c.in-Some.number) c.address_digest-key.ensures c.in-Some.ensures.1) c.in-Some-hit.ensures.0 c.in-Some-hit.ensures.1 c.in-Some-hit.ensures.2

pub loop-number-preserved : goal.loop-number-preserved
loop-number-preserved c =
    let query = c.args.query.now in
    let kind = c.args.options.ignore_search in
    step number pair pair_digest (matches_pair query c.args.options) (address_digest kind query.url) kind (same_digest query c.args.options) c.args.entries.now c.args.slots.now c.requires c.loop-number.after c.loop-number.invariant
    c.in-Some.number (subst (λ key. NoneBetween c.args.slots.now key c.loop-number.after c.in-Some.number) c.address_digest-key.ensures c.in-Some.ensures.1) c.in-None.ensures

pub returns : goal.returns
returns c =
    let query = c.args.query.now in
    let kind = c.args.options.ignore_search in
    first_none number pair pair_digest (matches_pair query c.args.options) (address_digest kind query.url) kind (same_digest query c.args.options) c.args.entries.now c.args.slots.now c.requires c.loop-number.after c.loop-number.invariant
    (subst (λ key. NoneBetween c.args.slots.now key c.loop-number.after (2 ^ 64)) c.address_digest-key.ensures c.in_default.ensures)
