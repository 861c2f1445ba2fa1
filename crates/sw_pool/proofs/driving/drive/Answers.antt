-- A worker stops with the end that is kept.
use Rattle.sw_lock.specs.Passes.{number, opened_of, seen}
use Rattle.sw_pool.proofs.EndLemmas.{end_seen, never_spent}
use Rattle.sw_pool.proofs.driving.drive.Goals as goal

pub returns-in-Some-clause-spent : goal.returns-in-Some-clause-spent
returns-in-Some-clause-spent g c = λ is.
    let it = c.in-Some.ensures.end in
    absurd (never_spent g.D.Disk it.before it.after (number c.args.pass.now) c.in-Some.brief it.step is)

pub returns-in-Some-clause-end : goal.returns-in-Some-clause-end
returns-in-Some-clause-end g c = λ other.
    let it = c.in-Some.ensures.end in
    end_seen g.D.Disk it.before it.after (number c.args.pass.now) c.in-Some.brief it.step
    (opened_of c.args.lock.now).origin (seen c.drive_on.new.pass) it.base_is it.seen_is
