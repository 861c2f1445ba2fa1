use Rattle.std.proofs.Common.{◌≡◌, ◌+◌, ◌++◌, ◌∷◌, [], sym, ap, ◌∙◌, arith}
use Rattle.std.specs.List.{range_with_len}
use Rattle.std.proofs.lemmas.List.{map-id}
use Rattle.std.proofs.lemmas.List.FromFn.{map-range_with_len_more}
use Rattle.sw_caches.proofs.pairs.Pairs.all.Goals as goal

pub loop-place-preserved : goal.loop-place-preserved
loop-place-preserved c =
    let place = c.loop-place.place in
    let zero : 0 + place ≡ place = omega arith in
    c.in_ok-push.ensures.items ∙ ((λ i. c.loop-place.invariant i ++ c.in_ok-number_of.ensures i ∷ [])
    ∙ (ap (λ list. list ++ place ∷ []) (sym (map-id (range_with_len 0 place)))
    ∙ (sym (map-range_with_len_more (λ n. n) 0 place place zero) ∙ map-id (range_with_len 0 (place + 1)))))
