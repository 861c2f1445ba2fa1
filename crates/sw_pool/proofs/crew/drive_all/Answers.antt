-- The lock and its passes may cross threads, since the value under it may.
use denote.Exit.{no}
use denote.Param.{param}
use denote.Param.Send.{arg_send, param_send, shr_sync}
use mir.Syntax.{named}
use Rattle.sw_lock.proofs.lock.Shared.TheSendSync as shared
use Rattle.sw_lock.proofs.pass.Pass.TheSendSync as pass
use Rattle.sw_pool.proofs.Crossing.{captured_sync}
use Rattle.sw_pool.proofs.crew.drive_all.Goals as goal
use Rattle.sw_pool.specs.contracts.ends.Nothing as Nothing
use Rattle.sw_pool.specs.contracts.ends.Turned as Turned

pub for_each_mut-requires-send-T : goal.for_each_mut-requires-send-T
for_each_mut-requires-send-T g c κs within = param_send 1 _ (arg_send _ no _ (pass.the_send _ _ _ _ _ c.type_bounds.send-T))

pub for_each_mut-requires-sync-F : goal.for_each_mut-requires-sync-F
for_each_mut-requires-sync-F g c κs within =
    record {
      shared = (captured_sync _ _ _ (shr_sync (named 6) κs.1.1.1.1.1.1.0 _ c.type_bounds.sync-R)
          (shr_sync (named 7) κs.1.1.1.1.1.1.1.0 _ (shared.the_sync (param 1 g.row.T) (param 3 g.row.T-Entry) Nothing.the_row Turned.the_row g.T.Logged c.type_bounds.send-T)) (shr_sync (named 8) κs.1.1.1.1.1.1.1.1.0 _ c.type_bounds.sync-G)).shared;
    }
