-- The event was written, and is noted.
use Rattle.std.proofs.Common.{◌≡◌, ◌≢◌, ◌∙◌, List, ℕ, Some, [], not, true, rules, refl, sym, ap, subst}
use Rattle.sw_bucket.proofs.RunLemmas.{ahead_by, ends_short, goes_between, with_lanes}
use Rattle.sw_bucket.proofs.evicting.happen.Goals as goal
use Rattle.sw_data.specs.declared.histories.Entry.{Entry}
use Rattle.sw_turns.proofs.TurnLemmas.{sound}

pub write-requires-clause-coherent : goal.write-requires-clause-coherent
write-requires-clause-coherent g c =
    let it = c.requires.next in
    sound 1 it.0.way it.0.base c.args.history.now.items it.0.lanes c.args.store.now it.2.under_way it.2.quiet.staged

pub write-requires-clause-next : goal.write-requires-clause-next
write-requires-clause-next g c =
    let it = c.requires.next in
    (with_lanes it.0 it.1, it.0.lanes, it.2.under_way, it.3, it.2.at_work.keeps)

pub returns-in-Ok-note_last-clause-happened : goal.returns-in-Ok-note_last-clause-happened
returns-in-Ok-note_last-clause-happened g c course left between comes =
    let wrote = c.in-Ok.ensures.goes_on (with_lanes course left) course.lanes between.under_way comes between.at_work in
    let made = c.in-Ok.ensures.entry in (
      goes_between g.D.Disk g.B.Bound c.write.new.disk c.args.bound.now c.note_last.new.bound c.note_last.ensures.same c.args.disk.now course left c.args.history.now.items c.write.new.history.items
          c.args.store.now c.write.new.store made.0 c.in-Ok.changes between made.2 made.3 wrote
          (λ base before last is notes legal state spelled.
          c.in-Ok-note_last.ensures.notes base before last (c.deref.ensures.value ∙ is) notes legal state (spelled ∙ ap (λ (bytes : List ℕ). Some bytes) (sym c.as_bytes.ensures))),
      ahead_by g.D.Disk c.args.disk.now c.write.new.disk course.base c.args.history.now.items c.write.new.history.items (c.in-Ok.changes ≢ []) (not c.is_empty.result ≡ true)
          (λ is none. let h = c.is_empty.ensures in let k = c.as_bytes-in-Ok-note_last.ensures in search (h, k, is, none, rules)) wrote.ahead,
    )

pub returns-in-Ok-clause-happened : goal.returns-in-Ok-clause-happened
returns-in-Ok-clause-happened g c course left between comes =
    let wrote = c.in-Ok.ensures.goes_on (with_lanes course left) course.lanes between.under_way comes between.at_work in (
      ends_short g.D.Disk c.write.new.disk (with_lanes course left) c.write.new.history.items c.write.new.store wrote.at_work wrote.quiet.staged left wrote.under_way,
      λ some. absurd (some refl),
    )

pub returns-clause-happened : goal.returns-clause-happened
returns-clause-happened g c course left between comes = (
  c.in-Err.ensures.goes_on (with_lanes course left) course.lanes between.under_way comes between.at_work,
  λ some. subst (λ (entries : List Entry). g.B.Bound.notes c.args.bound.now course.base entries) (sym c.in-Err.ensures.same) between.notes,
)
