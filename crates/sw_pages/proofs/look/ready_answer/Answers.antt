use Rattle.sw_pages.proofs.Active.{not_ready, ready_here}
use Rattle.sw_state.specs.Hosted.{state_of}
use Rattle.sw_pages.proofs.look.ready_answer.Goals as goal

pub returns-in-Some-active_at : goal.returns-in-Some-active_at
returns-in-Some-active_at c =
    ready_here (state_of c.args.host.now) c.args.client c.in-Some.row.now c.in-Some.ensures _ c.in-Some-active_at.found c.as_bytes.ensures
    c.in-Some-active_at.ensures.found

pub returns-in-None : goal.returns-in-None
returns-in-None c =
    not_ready (state_of c.args.host.now) c.args.client c.in-Some.row.now c.in-Some.ensures _ c.as_bytes.ensures c.in-None.ensures.found
