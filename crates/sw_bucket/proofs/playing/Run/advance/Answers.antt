-- What is due is forgotten, and what the pick order has next happens.
use Rattle.std.proofs.Common.{◌∙◌, List, length, ap, arith}
use Rattle.std.proofs.lemmas.List.{length-append}
use Rattle.std.proofs.lemmas.Result.{on_ok_weaker}
use Rattle.sw_bucket.proofs.PlayLemmas.{cut_on, plays_on}
use Rattle.sw_bucket.proofs.playing.Run.advance.Goals as goal
use Rattle.sw_bucket.specs.Running.{course_of}
use Rattle.sw_data.specs.declared.histories.Entry.{Entry}

pub go_on-requires : goal.go_on-requires
go_on-requires g c =
    let it = c.requires.playing in
    let evicted = c.in-Ok.ensures.evicted (course_of g.B.Bound c.args.bound.now it.0 c.args.self.now.lanes) it.1.between in
    record {
      playing = (
        it.0,
        plays_on g.D.Disk g.B.Bound c.evict.new.disk c.args.bound.now c.evict.new.bound c.evict.ensures.same it.0 (record c.args.self.now { history = c.evict.new.history }) c.evict.new.store evicted.0 it.1.lines,
        evicted.1.0,
      );
    }

pub returns-in-Ok-clause-played : goal.returns-in-Ok-clause-played
returns-in-Ok-clause-played g c origin playing =
    let evicted = c.in-Ok.ensures.evicted (course_of g.B.Bound c.args.bound.now origin c.args.self.now.lanes) playing.between in
    c.go_on.ensures.played origin
    (plays_on g.D.Disk g.B.Bound c.evict.new.disk c.args.bound.now c.evict.new.bound c.evict.ensures.same origin (record c.args.self.now { history = c.evict.new.history }) c.evict.new.store evicted.0 playing.lines)
    evicted.1.0

pub returns-in-Ok-clause-more : goal.returns-in-Ok-clause-more
returns-in-Ok-clause-more g c =
    let it = c.requires.playing in
    let added = c.evict.ensures.added (course_of g.B.Bound c.args.bound.now it.0 c.args.self.now.lanes) it.1.between in
    on_ok_weaker c.go_on.result
    (λ more. let all = ap (λ (entries : List Entry). length entries) added.1 ∙ length-append c.args.self.now.history.items added.0 in omega (arith, more, all)) c.go_on.ensures.more

pub returns-in-Ok-clause-few : goal.returns-in-Ok-clause-few
returns-in-Ok-clause-few g c =
    let it = c.requires.playing in
    let evicted = c.in-Ok.ensures.evicted (course_of g.B.Bound c.args.bound.now it.0 c.args.self.now.lanes) it.1.between in
    on_ok_weaker c.go_on.result (λ more. omega (arith, more, evicted.1.1)) c.go_on.ensures.more

pub returns-in-Err-clause-played : goal.returns-in-Err-clause-played
returns-in-Err-clause-played g c origin playing =
    cut_on g.D.Disk g.B.Bound c.evict.new.disk c.args.bound.now c.evict.new.bound c.evict.ensures.same origin (record c.args.self.now { history = c.evict.new.history }) c.in-Err.end
    (c.in-Err.ensures.evicted (course_of g.B.Bound c.args.bound.now origin c.args.self.now.lanes) playing.between)
