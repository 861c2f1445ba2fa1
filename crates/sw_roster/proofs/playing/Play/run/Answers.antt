-- The lines have ended.
use Rattle.sw_roster.proofs.Played.{over_now}
use Rattle.sw_roster.proofs.playing.Play.run.Goals as goal

pub returns-in-Some : goal.returns-in-Some
returns-in-Some c = λ fetches all so_far.
    over_now c.step.result fetches all c.step.new.self c.in-Some.end (rw c.in-Some.is at c.in_ok-end.was) (c.step.ensures.goes_on fetches all (c.lines.invariant fetches all so_far))
