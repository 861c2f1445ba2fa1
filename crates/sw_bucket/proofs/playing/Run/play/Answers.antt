-- Events, one after another, until the run ends.
use Rattle.std.proofs.Common.{◌∙◌, List, Option, refl, subst, arith}
use Rattle.sw_bucket.proofs.playing.Run.play.Goals as goal
use Rattle.sw_bucket.specs.Bounded.{HasEnded, bounded_way}
use Rattle.sw_data.specs.declared.events.Event.{Event}
use Rattle.sw_data.specs.declared.histories.Entry.{Entry}
use Rattle.sw_data.specs.declared.storage.Kept.{Kept}
use Rattle.sw_rules.specs.State.{State}

pub events-init : goal.events-init
events-init g c = record { goes = λ origin playing. playing; same = refl }

pub advance-requires : goal.advance-requires
advance-requires g c =
    let it = c.requires.playing in
    record { playing = (it.0, c.events.invariant.goes it.0 it.1) }

pub events-smaller : goal.events-smaller
events-smaller g c = omega (arith, c.in-Ok.ensures.more, c.in-Ok.ensures.few)

pub events-preserved : goal.events-preserved
events-preserved g c = record {
  goes = λ origin playing. c.in-Ok.ensures.played origin (c.events.invariant.goes origin playing);
  same = c.advance.ensures.same ∙ c.events.invariant.same;
}

pub returns-in-Err-clause-ended : goal.returns-in-Err-clause-ended
returns-in-Err-clause-ended g c origin playing =
    subst
    (λ (forgets : Kept → List Entry → State → Option Event). HasEnded g.D.Disk origin.start c.advance.new.disk (bounded_way forgets origin.recording origin.base) origin.base c.advance.new.self.history.items c.in-Err.end)
    (c.advance.ensures.same ∙ c.events.invariant.same) (c.in-Err.ensures.played origin (c.events.invariant.goes origin playing)).0

pub returns-in-Err-clause-notes : goal.returns-in-Err-clause-notes
returns-in-Err-clause-notes g c origin playing some = (c.in-Err.ensures.played origin (c.events.invariant.goes origin playing)).1 some
