-- A run is of what its lock was made with.
use Rattle.std.proofs.Common.{◌∙◌, ap, subst}
use denote.Exit.{no}
use denote.Param.{param}
use denote.Param.Send.{arg_send, param_send}
use Rattle.sw_data.specs.declared.histories.Entry.{Entry}
use Rattle.sw_lock.specs.declared.lock.Shared.{Shared}
use Rattle.sw_lock.specs.Passes.{opened_of}
use Rattle.sw_pool.proofs.Crossing.{yard_send}
use Rattle.sw_pool.proofs.working.work.Goals as goal
use Rattle.sw_pool.specs.declared.ends.Nothing.{Nothing}
use Rattle.sw_pool.specs.declared.ends.Turned.{Turned}
use Rattle.sw_pool.specs.Yards.{IsWorked, Origin, YardState}

pub drive-requires-send-T : goal.drive-requires-send-T
drive-requires-send-T g c κs within = param_send 1 _ (arg_send _ no _ (yard_send (param 1 g.row.D) g.D.Disk c.type_bounds.send-D))

pub returns-in-Ok : goal.returns-in-Ok
returns-in-Ok g c =
    subst (λ (origin : Origin g.row.D.Denot). IsWorked g.D.Disk origin c.end_of.result.disk c.end_of.result.progress c.end_of.result.end)
    (c.close-yard.ensures.base ∙ ap (λ (lock : Shared (YardState g.row.D.Denot) Entry Nothing Turned). (opened_of lock).origin) c.drive.ensures ∙ ap (λ (yard : YardState g.row.D.Denot). yard.origin) c.in-Ok.ensures.opened) c.end_of.ensures.worked

pub returns-in-Err : goal.returns-in-Err
returns-in-Err g c =
    subst (λ (origin : Origin g.row.D.Denot). IsWorked g.D.Disk origin c.end_of-in-Err.result.disk c.end_of-in-Err.result.progress c.end_of-in-Err.result.end)
    (ap (λ (yard : YardState g.row.D.Denot). yard.origin) c.in-Err.ensures.back) c.end_of-in-Err.ensures.worked
