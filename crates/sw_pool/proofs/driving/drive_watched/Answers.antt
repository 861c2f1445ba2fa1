-- A worker stops with the end that is kept, of its step or behind it.
use Rattle.std.proofs.Common.{◌∙◌, ⊎_elim, inl, inr, ap}
use Rattle.sw_lock.specs.Passes.{number, opened_of, seen}
use Rattle.sw_pool.proofs.EndLemmas.{end_seen_then, never_spent_then}
use Rattle.sw_pool.proofs.driving.drive_watched.Goals as goal
use Rattle.sw_pool.specs.Yards.{Origin}
use Rattle.sw_view.specs.Watching.{WatchBase}

pub returns-in-Some-clause-spent : goal.returns-in-Some-clause-spent
returns-in-Some-clause-spent g c = λ is.
    let it = c.in-Some.ensures.end in
    absurd (never_spent_then g.D.Disk it.before.value it.step.left it.after.value (number c.args.pass.now) it.step.said c.in-Some.brief it.step.step
    (⊎_elim (λ shown. inl shown.answer) (λ stopped. inr stopped.stopped) it.step.then) is)

pub returns-in-Some-clause-end : goal.returns-in-Some-clause-end
returns-in-Some-clause-end g c = λ other.
    let it = c.in-Some.ensures.end in
    end_seen_then g.D.Disk it.before.value it.step.left it.after.value (number c.args.pass.now) it.step.said c.in-Some.brief it.step.step
    (⊎_elim (λ shown. inl shown.answer) (λ stopped. inr stopped.stopped) it.step.then)
    (opened_of c.args.lock.now).value.origin (seen c.drive_on.new.pass)
    (ap (λ (base : WatchBase (Origin g.row.D.Denot)). base.base) it.base_is) (it.seen_is ∙ it.step.log)
