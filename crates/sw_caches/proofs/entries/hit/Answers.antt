use Rattle.std.proofs.Common.{ap, ◌∙◌, sym}
use Rattle.std.proofs.lemmas.List.{get_or_default}
use Rattle.sw_rules.specs.Matching.{matches_pair}
use Rattle.sw_caches.specs.Entries.{number, pair}
use Rattle.sw_list.proofs.FindLemmas.{none_of}
use Rattle.sw_caches.proofs.entries.hit.Goals as goal

pub returns-else-matches_pair : goal.returns-else-matches_pair
returns-else-matches_pair c =
    let test = matches_pair c.args.query.now c.args.options in
    none_of number pair test c.args.entries.now c.args.at c.in-Some.place c.requires c.in-Some.ensures
    (λ d. ap (λ entry. test (pair entry)) (get_or_default _ _ d c.index-entries-place.result c.in-Some.ensures.0)
    ∙ (ap test (sym c.deref-pair.ensures) ∙ sym c.if-matches_pair.ensures))
