-- What was picked happens.
use Rattle.std.proofs.Common.{◌∙◌, inr, [], refl, sym, ap, subst}
use Rattle.sw_bucket.proofs.PlayLemmas.{cut_on, picked_comes, plays_on, tended_on}
use Rattle.sw_bucket.proofs.RunLemmas.{ends_short}
use Rattle.sw_bucket.proofs.playing.Run.go.Goals as goal
use Rattle.sw_bucket.specs.Running.{course_of}
use Rattle.sw_lane.specs.Picked.{picked}
use Rattle.sw_laws.specs.Coherent.{Coherent}
use Rattle.sw_turns.proofs.TurnLemmas.{sound}
use Rattle.sw_state.specs.Hosted.{Hosted, state_of}

pub picked_event-requires-clause-coherent : goal.picked_event-requires-clause-coherent
picked_event-requires-clause-coherent g c =
    let it = c.requires.playing in
    let course = course_of g.B.Bound c.args.bound.now it.0 c.args.self.now.lanes in
    subst (λ (host : Hosted). Coherent (state_of host)) (sym c.core.ensures)
    (sound 1 course.way course.base c.args.self.now.history.items course.lanes c.args.store.now it.1.between.under_way it.1.between.quiet.staged)

pub picked_event-requires-clause-picked : goal.picked_event-requires-clause-picked
picked_event-requires-clause-picked g c =
    ap (λ (host : Hosted). picked (state_of host) [] c.args.self.now.lanes) c.core.ensures ∙ c.requires.picked

pub happen-requires : goal.happen-requires
happen-requires g c =
    let it = c.requires.playing in
    record {
      next = (
        course_of g.B.Bound c.args.bound.now it.0 c.args.self.now.lanes,
        c.picked_event.new.lanes,
        it.1.between,
        picked_comes g.D.Disk g.B.Bound c.args.disk.now c.args.bound.now it.0 c.args.self.now c.args.store.now it.1 it.2 c.core.result.now c.picked_event.new.lanes c.in-Ok.event c.core.ensures c.in-Ok.ensures.next,
      );
    }

pub tended-requires-clause-quiet : goal.tended-requires-clause-quiet
tended-requires-clause-quiet g c =
    let it = c.requires.playing in
    let comes = picked_comes g.D.Disk g.B.Bound c.args.disk.now c.args.bound.now it.0 c.args.self.now c.args.store.now it.1 it.2 c.core.result.now c.picked_event.new.lanes c.in-Ok.event c.core.ensures c.in-Ok.ensures.next in
    (c.in-Ok-true.ensures.happened (course_of g.B.Bound c.args.bound.now it.0 c.args.self.now.lanes) c.picked_event.new.lanes it.1.between comes).0.quiet

pub tended-requires-clause-next : goal.tended-requires-clause-next
tended-requires-clause-next g c =
    let it = c.requires.playing in
    let comes = picked_comes g.D.Disk g.B.Bound c.args.disk.now c.args.bound.now it.0 c.args.self.now c.args.store.now it.1 it.2 c.core.result.now c.picked_event.new.lanes c.in-Ok.event c.core.ensures c.in-Ok.ensures.next in
    let between = (c.in-Ok-true.ensures.happened (course_of g.B.Bound c.args.bound.now it.0 c.args.self.now.lanes) c.picked_event.new.lanes it.1.between comes).0 in
    (course_of g.B.Bound c.args.bound.now it.0 c.picked_event.new.lanes, c.happen.new.history.items, between.under_way, between.at_work.keeps)

pub returns-in-Ok-true-clause-played : goal.returns-in-Ok-true-clause-played
returns-in-Ok-true-clause-played g c origin playing none =
    let comes = picked_comes g.D.Disk g.B.Bound c.args.disk.now c.args.bound.now origin c.args.self.now c.args.store.now playing none c.core.result.now c.picked_event.new.lanes c.in-Ok.event c.core.ensures c.in-Ok.ensures.next in
    let both = c.in-Ok-true.ensures.happened (course_of g.B.Bound c.args.bound.now origin c.args.self.now.lanes) c.picked_event.new.lanes playing.between comes in
    tended_on g.D.Disk g.B.Bound c.tended.new.disk c.args.bound.now c.happen.new.bound c.happen.ensures.same origin (record { lanes = c.picked_event.new.lanes; net = c.args.self.now.net; history = c.happen.new.history }) c.happen.new.disk c.happen.new.store c.tended.new.store c.tended.result both.0 playing.lines
    (c.tended.ensures.goes_on (course_of g.B.Bound c.args.bound.now origin c.picked_event.new.lanes) c.happen.new.history.items both.0.under_way both.0.at_work (both.1 (inr c.in-Ok-true.field-0-test)))

pub returns-in-Ok-false-clause-played : goal.returns-in-Ok-false-clause-played
returns-in-Ok-false-clause-played g c origin playing none =
    let comes = picked_comes g.D.Disk g.B.Bound c.args.disk.now c.args.bound.now origin c.args.self.now c.args.store.now playing none c.core.result.now c.picked_event.new.lanes c.in-Ok.event c.core.ensures c.in-Ok.ensures.next in
    let both = c.in-Ok-false.ensures.happened (course_of g.B.Bound c.args.bound.now origin c.args.self.now.lanes) c.picked_event.new.lanes playing.between comes in
    plays_on g.D.Disk g.B.Bound c.happen.new.disk c.args.bound.now c.happen.new.bound c.happen.ensures.same origin (record { lanes = c.picked_event.new.lanes; net = c.args.self.now.net; history = c.happen.new.history }) c.happen.new.store both.0 playing.lines

pub returns-in-Err-happen-clause-played : goal.returns-in-Err-happen-clause-played
returns-in-Err-happen-clause-played g c origin playing none =
    let comes = picked_comes g.D.Disk g.B.Bound c.args.disk.now c.args.bound.now origin c.args.self.now c.args.store.now playing none c.core.result.now c.picked_event.new.lanes c.in-Ok.event c.core.ensures c.in-Ok.ensures.next in
    cut_on g.D.Disk g.B.Bound c.happen.new.disk c.args.bound.now c.happen.new.bound c.happen.ensures.same origin (record { lanes = c.picked_event.new.lanes; net = c.args.self.now.net; history = c.happen.new.history }) c.in-Err-happen.end
    (c.in-Err-happen.ensures.happened (course_of g.B.Bound c.args.bound.now origin c.args.self.now.lanes) c.picked_event.new.lanes playing.between comes)

pub returns-in-Err-clause-played : goal.returns-in-Err-clause-played
returns-in-Err-clause-played g c origin playing none = (
  ends_short g.D.Disk c.args.disk.now (course_of g.B.Bound c.args.bound.now origin c.args.self.now.lanes) c.args.self.now.history.items c.args.store.now playing.between.at_work
      playing.between.quiet.staged c.args.self.now.lanes playing.between.under_way,
  λ some. absurd (some refl),
)
