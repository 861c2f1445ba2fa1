-- What was begun, or was not, with a recording is so with the bytes that it was read from.
use Rattle.sw_host.proofs.EndLemmas.{leaves_untaken, replays_untaken, taken}
use Rattle.sw_host.proofs.ending.take_up.Goals as goal

pub returns-in-Ok-clause-origin : goal.returns-in-Ok-clause-origin
returns-in-Ok-clause-origin g c =
    taken g.D.Disk c.args.disk c.args.workers c.args.bytes.now c.in-Ok.recording c.in-Ok.ensures c.open_for.result c.open_for.ensures.origin

pub returns-in-Ok-clause-replays : goal.returns-in-Ok-clause-replays
returns-in-Ok-clause-replays g c =
    replays_untaken g.D.Disk c.args.disk c.args.workers c.args.bytes.now c.in-Ok.recording c.in-Ok.ensures c.open_for.result c.open_for.ensures.replays

pub returns-in-Ok-clause-left : goal.returns-in-Ok-clause-left
returns-in-Ok-clause-left g c =
    leaves_untaken g.D.Disk c.args.disk c.args.workers c.args.bytes.now c.in-Ok.recording c.in-Ok.ensures c.open_for.result c.open_for.ensures.left
