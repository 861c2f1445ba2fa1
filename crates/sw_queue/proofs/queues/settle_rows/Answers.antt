use Rattle.std.proofs.Common.{◌∙◌, ap}
use Rattle.std.proofs.lemmas.List.{take_all}
use Rattle.sw_queue.specs.Tables.{settled_all}
use Rattle.sw_queue.proofs.Settling.{settled_last, settled_next}
use Rattle.sw_queue.proofs.queues.settle_rows.Goals as goal

pub loop-follower-preserved : goal.loop-follower-preserved
loop-follower-preserved c =
    let at = c.loop-follower.follower-index in
    let inside = c.loop-follower-test.true in
    settled_next c.args.value c.args.rows.now c.loop-follower.rows c.args.followers.now at 0 c.index-rows-follower.result c.settle_one.new.row
    c.requires.numbers inside c.loop-follower.invariant (c.requires.followers at 0 inside) c.settle_one.ensures

pub returns : goal.returns
returns c =
    let all = take_all c.loop-follower.follower-index c.args.followers.now c.loop-follower-test.false in
    settled_last c.args.value c.args.rows.now c.loop-follower.rows c.args.followers.now c.args.job c.index-rows-job.result c.settle_one-2.new.row
    c.requires.numbers (c.loop-follower.invariant ∙ ap (settled_all c.args.value c.args.rows.now) all) c.requires.job c.settle_one-2.ensures
