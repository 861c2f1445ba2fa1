-- The value under the lock may cross threads.
use denote.Exit.{no}
use denote.Param.{param}
use denote.Param.Send.{arg_send, param_send}
use Rattle.sw_pool.proofs.Crossing.{watched_yard_send}
use Rattle.sw_pool.proofs.looking.fn.work_watched.work.Goals as goal

pub drive-requires-send-T : goal.drive-requires-send-T
drive-requires-send-T g c κs within =
    param_send 1 _ (arg_send _ no _ (watched_yard_send (param 2 g.row.D) (param 1 g.row.W) g.D.Disk g.D.Disk-dict c.requires.2 c.requires.3))
