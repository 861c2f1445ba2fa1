use Rattle.std.proofs.Common.{arith}
use Rattle.sw_queue.proofs.Telling.{told_next}
use Rattle.sw_queue.proofs.queues.tell_rows.Goals as goal

pub loop-job-preserved : goal.loop-job-preserved
loop-job-preserved c =
    let inside = c.loop-job-test.true in
    let so_far = c.loop-job.invariant in
    let one = c.tell_one.ensures in (
      told_next c.args.value c.args.rows.now c.args.jobs.now c.loop-job.job-index 0 c.index-rows-job.result c.args.notices.now.rows c.loop-job.notices.rows
          c.tell_one.new.notices.rows inside (c.requires.jobs c.loop-job.job-index 0 inside) c.index-rows-job.is so_far.0 one.told,
      omega (arith, so_far.1, one.room),
    )
