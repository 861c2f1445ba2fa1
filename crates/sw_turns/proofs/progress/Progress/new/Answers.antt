-- The recording is under way, and the host at work on its disk.
use Rattle.std.proofs.Common.{◌∙◌, None, length, ap}
use Rattle.std.proofs.lemmas.List.{length-replicate}
use Rattle.sw_turns.proofs.BeginLemmas.{is_going}
use Rattle.sw_turns.proofs.progress.Progress.new.Goals as goal

pub returns-in-Ok-clause-going : goal.returns-in-Ok-clause-going
returns-in-Ok-clause-going g c start opened =
    is_going g.D.Disk start c.args.disk.now c.args.recording c.args.passes _
    c.requires.many.1 c.requires.fresh c.in-Ok.ensures.under_way (c.in-Ok.ensures.at_work start opened) c.in-Ok.ensures.net c.in-Ok.ensures.flights

pub returns-in-Ok-clause-passes : goal.returns-in-Ok-clause-passes
returns-in-Ok-clause-passes g c =
    ap length c.in-Ok.ensures.flights ∙ length-replicate c.args.passes None
