use Rattle.std.proofs.Common.{Option, sym, subst}
use Rattle.sw_audit.specs.Taking.{IsFound}
use Rattle.sw_audit.proofs.Found.{call_found}
use Rattle.sw_audit.specs.declared.marks.Mark.TheVariants as mark
use Rattle.sw_data.specs.declared.events.Event.{Event}
use Rattle.sw_state.specs.Hosted.{state_of}
use Rattle.sw_audit.proofs.taking.call_taken.Goals as goal

pub returns-in-Ok : goal.returns-in-Ok
returns-in-Ok c = λ lanes.
    subst (λ (found : Option Event). IsFound (state_of c.args.core.now) lanes c.args.net.now (mark.Handler c.args.worker) found lanes) (sym c.allowed.ensures)
    (call_found (state_of c.args.core.now) lanes c.args.net.now c.args.worker c.in-Ok.event c.in-Ok.ensures)
