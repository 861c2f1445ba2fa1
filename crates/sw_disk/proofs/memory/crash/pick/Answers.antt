use Rattle.std.proofs.Common.{sym, ◌∙◌, drop}
use Rattle.sw_disk.proofs.PickSteps.{rest_step, picked_step, left_step}
use Rattle.sw_disk.proofs.memory.crash.pick.Goals as goal

pub loop-i-preserved : goal.loop-i-preserved
loop-i-preserved c =
    let marks = c.args.marks.now in
    let first = c.args.bytes.now in
    let at = c.loop-i.invariant in
    let size = c.loop-i.auto.bytes in
    let within = c.loop-i-test.true in
    let call = c.pick_at.ensures in
    let picks = drop c.loop-i.used c.args.picks.now in
    let rest = drop c.pick_at.new.used c.args.picks.now in
    record {
      within = call.within at.within;
      rest = rest_step marks first c.loop-i.bytes c.pick_at.new.bytes picks rest c.loop-i.i within size at.rest call.bytes call.used;
      so_far = sym (picked_step marks first c.loop-i.bytes c.pick_at.new.bytes picks rest c.loop-i.i within size at.rest call.bytes call.used) ∙ at.so_far;
      left = sym (left_step marks first c.loop-i.bytes c.pick_at.new.bytes picks rest c.loop-i.i within size at.rest call.bytes call.used) ∙ at.left;
    }
