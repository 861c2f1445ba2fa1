-- The whole run, from the restart on.
use Rattle.std.proofs.Common.{◌∙◌, List, Option, subst}
use Rattle.sw_bucket.proofs.PlayLemmas.{begins}
use Rattle.sw_bucket.proofs.playing.run_under.Goals as goal
use Rattle.sw_bucket.specs.Bounded.{HasEnded, bounded_way}
use Rattle.sw_bucket.specs.Running.{Origin}
use Rattle.sw_bucket.specs.declared.playing.Run.{Run}
use Rattle.sw_data.specs.declared.events.Event.{Event}
use Rattle.sw_data.specs.declared.histories.Entry.{Entry}
use Rattle.sw_data.specs.declared.storage.Kept.{Kept}
use Rattle.sw_rules.specs.State.{State}
use Rattle.sw_turns.specs.Playing.{opening_of}

pub play-end-requires : goal.play-end-requires
play-end-requires g c =
    let origin : Origin g.row.D.Denot = record { start = c.args.start.value; recording = c.args.recording; base = c.args.store.now.base } in
    let run : Run = record { lanes = c.in-Ok.lanes; net = c.in-Ok.net; history = c.in-Ok.history } in
    let entry = opening_of c.args.store.now.base (g.D.Disk.clock c.args.disk.now) in
    let playing = begins g.D.Disk g.B.Bound c.args.disk.now c.begin.new.bound origin run c.args.store.now entry c.requires.fresh.quiet c.in-Ok.ensures.under_way
    (c.in-Ok.ensures.at_work c.args.start.value c.requires.opened) c.in-Ok.ensures.history c.in-Ok.ensures.net (c.in_ok-begin-in-Ok.ensures.notes origin.base entry (c.deref.ensures.value ∙ c.in-Ok.ensures.history)) in
    record { playing = (origin, playing) }

pub returns-in-Ok-clause-ended : goal.returns-in-Ok-clause-ended
returns-in-Ok-clause-ended g c =
    let origin : Origin g.row.D.Denot = record { start = c.args.start.value; recording = c.args.recording; base = c.args.store.now.base } in
    let run : Run = record { lanes = c.in-Ok.lanes; net = c.in-Ok.net; history = c.in-Ok.history } in
    let entry = opening_of c.args.store.now.base (g.D.Disk.clock c.args.disk.now) in
    let playing = begins g.D.Disk g.B.Bound c.args.disk.now c.begin.new.bound origin run c.args.store.now entry c.requires.fresh.quiet c.in-Ok.ensures.under_way
    (c.in-Ok.ensures.at_work c.args.start.value c.requires.opened) c.in-Ok.ensures.history c.in-Ok.ensures.net (c.in_ok-begin-in-Ok.ensures.notes origin.base entry (c.deref.ensures.value ∙ c.in-Ok.ensures.history)) in
    subst
    (λ (forgets : Kept → List Entry → State → Option Event). HasEnded g.D.Disk c.args.start.value c.play-end.new.disk (bounded_way forgets origin.recording origin.base) origin.base c.play-end.new.self.history.items c.play-end.result)
    c.begin.ensures.same (c.play-end.ensures.ended origin playing)

pub returns-in-Ok-clause-notes : goal.returns-in-Ok-clause-notes
returns-in-Ok-clause-notes g c =
    let origin : Origin g.row.D.Denot = record { start = c.args.start.value; recording = c.args.recording; base = c.args.store.now.base } in
    let run : Run = record { lanes = c.in-Ok.lanes; net = c.in-Ok.net; history = c.in-Ok.history } in
    let entry = opening_of c.args.store.now.base (g.D.Disk.clock c.args.disk.now) in
    let playing = begins g.D.Disk g.B.Bound c.args.disk.now c.begin.new.bound origin run c.args.store.now entry c.requires.fresh.quiet c.in-Ok.ensures.under_way
    (c.in-Ok.ensures.at_work c.args.start.value c.requires.opened) c.in-Ok.ensures.history c.in-Ok.ensures.net (c.in_ok-begin-in-Ok.ensures.notes origin.base entry (c.deref.ensures.value ∙ c.in-Ok.ensures.history)) in
    c.play-end.ensures.notes origin playing
