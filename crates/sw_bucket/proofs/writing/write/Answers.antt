-- The event is written behind the history, or ends the run.
use Rattle.std.proofs.Common.{◌≡◌, ◌≢◌, ◌∙◌, ◌≤◌, List, [], refl, sym, subst, arith}
use Rattle.sw_bucket.proofs.RunLemmas.{ahead_by, ahead_on, comes_alone, cut_ends, ends_short, entered, entry_written, is_alone, refused_ends, standing}
use Rattle.sw_bucket.proofs.writing.write.Goals as goal
use Rattle.sw_bucket.specs.Evicting.{IsCut}
use Rattle.sw_bucket.specs.declared.ends.BoundedEnd.{BoundedEnd}
use Rattle.sw_bucket.specs.declared.ends.BoundedEnd.TheVariants as end
use Rattle.sw_data.specs.declared.histories.Entry.{Entry}
use Rattle.sw_turns.proofs.TurnLemmas.{works_roomy}
use Rattle.sw_turns.specs.Settling.{IsWritten}
use Rattle.sw_turns.specs.Surviving.{latest}

pub returns-then-is_err-clause-goes_on : goal.returns-then-is_err-clause-goes_on
returns-then-is_err-clause-goes_on g c course before goes next work =
    subst (λ (entries : List Entry). IsCut g.D.Disk c.args.disk.now course entries end.NoMemory) (sym c.reserve.ensures.items)
    (ends_short g.D.Disk c.args.disk.now course c.args.history.now.items c.args.store.now work c.requires.quiet.staged before goes)

pub write_group-requires-clause-stopped : goal.write_group-requires-clause-stopped
write_group-requires-clause-stopped g c =
    let it = c.requires.next in
    let history = c.args.history.now.items in (
      standing it.0,
      entered it.0 history g.D.Disk c.args.disk.now it.1 c.reserve.new.self.items c.args.store.now c.enter.new.store c.reserve.ensures.items it.2 c.requires.quiet.staged c.enter.ensures.twin it.4
          (c.in-Ok.ensures.goes_on 1 it.0.way it.0.base history it.1 it.0.lanes (omega arith) it.2
          (comes_alone it.0 history it.1 c.args.store.now c.args.event c.requires.quiet.staged it.3)),
    )

pub returns-in-Ok-write_group-clause-goes_on : goal.returns-in-Ok-write_group-clause-goes_on
returns-in-Ok-write_group-clause-goes_on g c course before goes next work =
    let history = c.args.history.now.items in
    let longer = c.write_group.new.history.items in
    let store = c.enter.new.store in
    let old = c.args.disk.now in
    let now = c.write_group.new.disk in
    let joined = c.in-Ok.ensures.goes_on 1 course.way course.base history before course.lanes (omega arith) goes (comes_alone course history before c.args.store.now c.args.event c.requires.quiet.staged next) in
    let stopped = entered course history g.D.Disk old before c.reserve.new.self.items c.args.store.now store c.reserve.ensures.items goes c.requires.quiet.staged c.enter.ensures.twin work.keeps joined in
    let works = works_roomy g.D.Disk course.start old course.base history c.reserve.new.self.items c.args.store.now store c.reserve.ensures.items c.enter.ensures.twin work in
    let same : c.in-Ok-of.changes ≡ store.payload = c.in-Ok-of.ensures ∙ c.payload.ensures in
    record {
      under_way = (c.in-Ok-write_group.ensures.stopped (standing course) stopped).stops;
      quiet = c.in-Ok-write_group.ensures.quiet;
      at_work = c.in-Ok-write_group.ensures.goes_on (standing course) course.start stopped works;
      ahead = ahead_by g.D.Disk old now course.base history longer (store.payload ≢ []) (c.in-Ok-of.changes ≢ []) (λ some none. some (same ∙ none))
          (ahead_on g.D.Disk old now course.base history longer store.payload
          (λ some. c.in-Ok-write_group.ensures.ahead (standing course) course.start stopped works some)
          c.write_group.ensures.nothing
          (subst (λ (entries : List Entry). latest course.base entries ≤ latest course.base longer) c.reserve.ensures.items (c.in-Ok-write_group.ensures.grows (standing course) stopped)));
    }

pub returns-in-Ok-write_group-clause-entry : goal.returns-in-Ok-write_group-clause-entry
returns-in-Ok-write_group-clause-entry g c =
    let it = c.requires.next in
    let history = c.args.history.now.items in
    let store = c.enter.new.store in
    let joined = c.in-Ok.ensures.goes_on 1 it.0.way it.0.base history it.1 it.0.lanes (omega arith) it.2 (comes_alone it.0 history it.1 c.args.store.now c.args.event c.requires.quiet.staged it.3) in
    let made = c.in-Ok.ensures.entry in
    entry_written it.0 history it.1 c.args.store.now store c.args.event made.0 it.2 c.requires.quiet.staged joined made.1 made.2 c.write_group.new.history.items c.in-Ok-of.changes (c.in-Ok-of.ensures ∙ c.payload.ensures)
    (subst (λ (entries : List Entry). IsWritten entries c.write_group.new.history.items store.staged) c.reserve.ensures.items c.in-Ok-write_group.ensures.written)

pub returns-in-Err-write_group-clause-goes_on : goal.returns-in-Err-write_group-clause-goes_on
returns-in-Err-write_group-clause-goes_on g c course before goes next work =
    let history = c.args.history.now.items in
    let store = c.enter.new.store in
    let old = c.args.disk.now in
    let joined = c.in-Ok.ensures.goes_on 1 course.way course.base history before course.lanes (omega arith) goes (comes_alone course history before c.args.store.now c.args.event c.requires.quiet.staged next) in
    let stopped = entered course history g.D.Disk old before c.reserve.new.self.items c.args.store.now store c.reserve.ensures.items goes c.requires.quiet.staged c.enter.ensures.twin work.keeps joined in
    let works = works_roomy g.D.Disk course.start old course.base history c.reserve.new.self.items c.args.store.now store c.reserve.ensures.items c.enter.ensures.twin work in
    subst (λ (ended : BoundedEnd). IsCut g.D.Disk c.write_group.new.disk course c.write_group.new.history.items ended) (sym {A = BoundedEnd} c.cut.ensures)
    (cut_ends g.D.Disk c.write_group.new.disk course c.write_group.new.history.items c.in-Err-write_group.end c.in-Err-write_group.ensures.cut
    (c.in-Err-write_group.ensures.goes_on (standing course) course.start stopped works))

pub returns-in-Err-of-clause-goes_on : goal.returns-in-Err-of-clause-goes_on
returns-in-Err-of-clause-goes_on g c course before goes next work =
    subst (λ (entries : List Entry). IsCut g.D.Disk c.args.disk.now course entries end.NoMemory) (sym c.reserve.ensures.items)
    (ends_short g.D.Disk c.args.disk.now course c.args.history.now.items c.args.store.now work c.requires.quiet.staged before goes)

pub returns-in-Err-clause-goes_on : goal.returns-in-Err-clause-goes_on
returns-in-Err-clause-goes_on g c course before goes next work =
    let history = c.args.history.now.items in
    let store = c.enter.new.store in
    let stays = c.in-Err.ensures.goes_on 1 course.way course.base history before course.lanes (omega arith) goes (comes_alone course history before c.args.store.now c.args.event c.requires.quiet.staged next) in
    let works = works_roomy g.D.Disk course.start c.args.disk.now course.base history history c.args.store.now store refl c.enter.ensures.twin work in
    subst (λ (entries : List Entry). IsCut g.D.Disk c.args.disk.now course entries c.refused.result) (sym c.reserve.ensures.items)
    (subst (λ (ended : BoundedEnd). IsCut g.D.Disk c.args.disk.now course history ended) (sym {A = BoundedEnd} c.refused.ensures)
    (refused_ends g.D.Disk c.args.disk.now course history store works (c.in-Err.ensures.same ∙ c.requires.quiet.staged) before c.in-Err.refusal (is_alone c.in-Err.refusal (c.in-Err.ensures.alone c.requires.quiet.staged)) stays))
