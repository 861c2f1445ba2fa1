-- What is captured beside the look-ups may cross threads.
use denote.Exit.{no}
use denote.Param.Send.{arg_send, mut_send, param_send, shr_send, shr_slice_send}
use mir.Syntax.{named}
use Rattle.std.proofs.Crossing.{sync}
use Rattle.sw_pool.proofs.Crossing.{captured_send, looker_send}
use Rattle.sw_pool.proofs.looking.Asked.TheSendSync as asked
use Rattle.sw_pool.proofs.looking.side_by_side.Goals as goal

pub join_mut-looks-requires-send-F : goal.join_mut-looks-requires-send-F
join_mut-looks-requires-send-F g c κs within =
    param_send 1 _ (arg_send _ no _ (captured_send _ _ _ _ _ (shr_send (named 8) κs.1.1.1.1.1.1.1.1.0 _ sync) (shr_send (named 9) κs.1.1.1.1.1.1.1.1.1.0 _ c.type_bounds.sync-G)
    (shr_slice_send (named 10) κs.1.1.1.1.1.1.1.1.1.1.0 _ asked.the_sync) (mut_send (named 11) κs.1.1.1.1.1.1.1.1.1.1.1.0 _ looker_send)))
