-- The put of this place stands behind those so far, if there is one.
use Rattle.std.proofs.Common.{◌∙◌, ◌+◌, [], ◌∷◌, ◌++◌, drop, sym, ap}
use Rattle.std.proofs.lemmas.List.{append_assoc, drop_more}
use Rattle.sw_cachestorage.proofs.FetchedLemmas.{before, puts_here}
use Rattle.sw_rules.specs.Caching.{puts_of}
use Rattle.sw_cachestorage.proofs.ended.puts_of.Goals.{in-Some+in_ok-push, in_default}
use Rattle.sw_cachestorage.proofs.ended.puts_of.Goals as goal

pub loop-place-preserved : goal.loop-place-preserved
loop-place-preserved c =
    let requests = c.args.requests.now in
    let lines = c.args.lines.now in
    let place = c.loop-place.place in
    let request = c.index-requests-place.result in
    let here = drop_more requests place request c.loop-place-test.true ∙ ap (λ y. y ∷ drop (place + 1) requests) (sym c.index-requests-place.is) in
    let others = puts_of (drop (place + 1) requests) (drop (place + 1) lines) in
    let so_far = c.loop-place.invariant ∙ ap (λ puts. c.loop-place.ops.items ++ puts) (puts_here requests lines place request here ∙ ap (λ put. before put others) (sym c.in_ok-put.ensures)) in
    elim c.match-branch-2.branch [
      | in-Some+in_ok-push w ↦
          so_far
          ∙ (ap (λ put. c.loop-place.ops.items ++ before put others) w.in-Some.is
          ∙ (sym (append_assoc c.loop-place.ops.items (w.in-Some.put ∷ []) others)
          ∙ ap (λ puts. puts ++ others) (sym (ap (λ ops. ops.items) w.ops-is ∙ w.in_ok-push.ensures.items))))
      | in_default w ↦
          so_far
          ∙ (ap (λ put. c.loop-place.ops.items ++ before put others) w.in_default.is
          ∙ ap (λ ops. ops.items ++ others) (sym w.ops-is))
    ]
