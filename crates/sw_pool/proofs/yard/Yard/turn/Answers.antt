-- A turn by which the run has ended is kept as the end.
use Rattle.std.proofs.Common.{◌∙◌, ℕ, Option, ap, rules, subst, sym}
use Rattle.sw_pool.proofs.yard.Yard.turn.Goals as goal
use Rattle.sw_pool.specs.Yards.{IsYardOf, YardState, origin_of}
use Rattle.sw_turns.specs.Ends.{Ended}
use Rattle.sw_turns.specs.declared.ends.DriveEnd.{DriveEnd}

pub invariant_of-self-in-Err : goal.invariant_of-self-in-Err
invariant_of-self-in-Err g c =
    let inside = c.self.inside in
    let origin = origin_of inside.passes inside.recording.value inside.base.value inside.start.value in
    let going =
    subst (λ (end : Option DriveEnd). IsYardOf g.D.Disk inside.disk origin inside.progress end)
    (ap (λ (yard : YardState g.row.D.Denot). yard.end) c.self.view_is ∙ c.requires.going) c.self.invariant.stands in
    let turned = c.in-Err.ensures.turned inside.recording.value inside.base.value inside.start.value going in
    let count = c.turn.ensures.workers ∙ c.self.invariant.passes in
    record {
      passes = count;
      stands =
          subst (λ (end : Option DriveEnd). IsYardOf g.D.Disk c.turn.new.disk origin c.turn.new.self end) (sym c.keep.ensures) (
            (
              subst (λ (workers : ℕ). Ended g.D.Disk origin.start c.turn.new.disk workers origin.recording origin.base c.turn.new.self.history.items c.in-Err.end) count turned.0,
              turned.1,
            ),
            c.in-Err.ensures.kept,
          );
    }

pub returns-in-Err-clause-stepped : goal.returns-in-Err-clause-stepped
returns-in-Err-clause-stepped g c = record {
  stands = invariant_of-self-in-Err g c;
  origin = search rules;
  kept = search rules;
  over = search rules;
  ends = search rules;
  turns = search rules;
  group = search rules;
  calls = search rules;
}

pub returns-in-Ok-clause-stepped : goal.returns-in-Ok-clause-stepped
returns-in-Ok-clause-stepped g c = record {
  stands = search rules;
  origin = search rules;
  kept = search rules;
  over = search rules;
  ends = search rules;
  turns = search rules;
  group = search rules;
  calls = search rules;
}
