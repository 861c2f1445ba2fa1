use Rattle.std.proofs.Common.{◌≡◌, ◌∙◌, true, not, refl, sym, ap, subst, arith}
use Rattle.std.proofs.lemmas.Bool.{and_parts}
use Rattle.sw_rules.specs.Rows.{is_waiting}
use Rattle.sw_queue.specs.Kept.{followers_of}
use Rattle.sw_queue.specs.Tables.{Table, has_head, noted}
use Rattle.sw_queue.proofs.Heads.{followers_stay, head_set}
use Rattle.sw_queue.proofs.Marking.{flags_there, joined_none, marked_moved, waits_no}
use Rattle.sw_queue.proofs.Running.{first_is, kept_set, not_done, passing_below, passing_row, rows_set, runs_on, table_set, waits_not}
use Rattle.sw_queue.proofs.Tallying.{tallied_set}
use Rattle.sw_queue.proofs.queues.Queues.note.Goals as goal

pub index_mut-row-requires : goal.index_mut-row-requires
index_mut-row-requires c =
    let below = passing_below _ c.self.invariant.kept.numbers _ c.args.job
    (subst (λ (t : Table). has_head (λ row. not (is_waiting row.phase)) c.args.job t.rows ≡ true) (sym c.self.view_is) c.requires.first) in
    omega (arith, below, c.self.inside.rows.ok)

pub set_phase-requires : goal.set_phase-requires
set_phase-requires c =
    let rows = c.self.inside.rows.items in
    let below = passing_below rows c.self.invariant.kept.numbers _ c.args.job
    (subst (λ (t : Table). has_head (λ row. not (is_waiting row.phase)) c.args.job t.rows ≡ true) (sym c.self.view_is) c.requires.first) in
    flags_there rows c.self.inside.index c.self.inside.ready c.args.job c.self.invariant.marked below

pub invariant_of-self : goal.invariant_of-self
invariant_of-self c =
    let rows = c.self.inside.rows.items in
    let old = c.index_mut-row.result.now in
    let here = c.index_mut-row.ensures.value in
    let kept = c.self.invariant.kept in
    let passes = subst (λ (t : Table). has_head (λ row. not (is_waiting row.phase)) c.args.job t.rows ≡ true) (sym c.self.view_is) c.requires.first in
    let below = passing_below rows kept.numbers _ c.args.job passes in
    let it = passing_row rows kept.numbers _ c.args.job passes old here in
    let first = first_is rows kept.numbers old c.args.job here below (and_parts _ _ it).0 in
    rw c.set_phase.ensures
    record {
      kept = kept_set rows _ _ kept c.args.job old (noted c.args.notes old) here refl refl
          (runs_on c.args.notes.phase c.requires.runs ∙ sym (not_done rows kept.numbers old.job.key old.job.scope old first));
      marked = marked_moved rows c.self.inside.index c.self.inside.ready c.args.job (noted c.args.notes old) c.self.invariant.marked
          (joined_none rows kept.numbers old.job.key old.job.scope old first) (waits_no c.args.notes.phase c.requires.runs);
      tallied = tallied_set rows c.self.inside.keys c.args.job old (noted c.args.notes old) c.self.invariant.tallied here below refl refl
          (runs_on c.args.notes.phase c.requires.runs ∙ sym (not_done rows kept.numbers old.job.key old.job.scope old first));
    }

pub returns-clause-noted : goal.returns-clause-noted
returns-clause-noted c =
    let rows = c.self.inside.rows.items in
    let kept = c.self.invariant.kept in
    let below = passing_below rows kept.numbers _ c.args.job
    (subst (λ (t : Table). has_head (λ row. not (is_waiting row.phase)) c.args.job t.rows ≡ true) (sym c.self.view_is) c.requires.first) in
    rw c.set_phase.ensures
    (table_set _ _ _ (noted c.args.notes) _ c.self.view_is
    (rows_set rows kept.numbers (noted c.args.notes) c.args.job c.index_mut-row.result.now c.index_mut-row.ensures.value below))

pub returns-clause-head : goal.returns-clause-head
returns-clause-head c =
    let rows = c.self.inside.rows.items in
    let kept = c.self.invariant.kept in
    let old = c.index_mut-row.result.now in
    let passes = subst (λ (t : Table). has_head (λ row. not (is_waiting row.phase)) c.args.job t.rows ≡ true) (sym c.self.view_is) c.requires.first in
    let below = passing_below rows kept.numbers _ c.args.job passes in
    let it = passing_row rows kept.numbers _ c.args.job passes old c.index_mut-row.ensures.value in
    head_set rows _ _ (λ row. not (is_waiting row.phase)) c.args.job old _ kept (invariant_of-self c).kept below refl (and_parts _ _ it).0
    (waits_not c.args.notes.phase c.requires.runs)

pub returns-clause-followers : goal.returns-clause-followers
returns-clause-followers c other =
    followers_stay _ _ _ _ _ c.self.invariant.kept (invariant_of-self c).kept other
    ∙ ap (λ (t : Table). followers_of other t.rows) c.self.view_is
