use Rattle.std.proofs.Common.{◌∙◌, ◌++◌, ap}
use Rattle.sw_net.specs.Places.{noted}
use Rattle.sw_net.proofs.Noting.{own_place, places_grown}
use Rattle.sw_net.proofs.places_of.Goals as goal

pub loop-at-preserved : goal.loop-at-preserved
loop-at-preserved c address =
    let before = noted (λ key. key.items) (λ own. own.items) c.loop-at.places.entries address in
    c.in_ok-note.ensures address
    ∙ (ap (λ own. before ++ own_place own address c.loop-at.at) c.as_bytes.ensures
    ∙ places_grown (λ line. line.fetch) c.args.lines.now c.loop-at.at c.index-lines-at.result address before
    c.loop-at-test.true (c.loop-at.invariant address))
