use Rattle.std.proofs.Common.{refl}
use Rattle.sw_finish.proofs.acts.do_start.Goals as goal

pub returns : goal.returns
returns c notices = record { answer = refl; did = c.start_then.ensures notices }
