-- A worker stops with what a step has answered it.
use Rattle.std.proofs.Common.{ℕ, subst}
use Rattle.sw_lock.specs.Passes.{number}
use Rattle.sw_pool.proofs.driving.drive_on.Goals as goal
use Rattle.sw_pool.specs.declared.ends.Turned.{Turned}
use Rattle.sw_pool.specs.declared.ends.Turned.TheVariants as turned

pub returns-in-Ok-Ended-clause-end : goal.returns-in-Ok-Ended-clause-end
returns-in-Ok-Ended-clause-end g c =
    let made = c.in-Ok-Ended.ensures.turn in
    record {
      before = made.before;
      after = made.after;
      given = _;
      base_is = made.base;
      step =
          subst (λ (pass : ℕ). g.T.Logged.steps made.before _ pass made.after (turned.Ended c.in-Ok-Ended.brief)) c.turns.invariant.number
          (subst (λ (out : Turned). g.T.Logged.steps made.before _ (number c.turns.pass) made.after out) c.in-Ok-Ended.field-0-is made.steps);
      seen_is = made.seen;
    }
