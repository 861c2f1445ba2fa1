use Rattle.std.proofs.Common.{◌≡◌, ◌∙◌, true, refl, slice_get, sym, ap, subst, arith}
use Rattle.std.specs.Prelude.{is_some}
use Rattle.sw_data.specs.declared.rows.JobPhase.TheVariants as job_phase
use Rattle.sw_data.specs.declared.rows.JobRow.{JobRow}
use Rattle.sw_rules.specs.Rows.{changed, is_job}
use Rattle.sw_queue.specs.Kept.{followers_of}
use Rattle.sw_queue.specs.Lines.{line_in}
use Rattle.sw_queue.specs.Tables.{Table, has_head, with_phase}
use Rattle.sw_queue.proofs.Heads.{followers_stay}
use Rattle.sw_queue.proofs.Leaving.{flag_there, has_left, head_there, marked_done}
use Rattle.sw_queue.proofs.Marking.{flags_there, joined_none}
use Rattle.sw_queue.proofs.Running.{not_done, passing_below, rows_set}
use Rattle.sw_queue.proofs.Tallying.{tallied_done}
use Rattle.sw_queue.proofs.queues.Queues.finish.Goals as goal

pub index-requires : goal.index-requires
index-requires c =
    let below = passing_below _ c.self.invariant.kept.numbers _ c.args.job
    (subst (λ (t : Table). has_head (λ row. is_some row.settled) c.args.job t.rows ≡ true) (sym c.self.view_is) c.requires) in
    omega (arith, below, c.self.inside.rows.ok)

pub index_mut-requires : goal.index_mut-requires
index_mut-requires c =
    let below = passing_below _ c.self.invariant.kept.numbers _ c.args.job
    (subst (λ (t : Table). has_head (λ row. is_some row.settled) c.args.job t.rows ≡ true) (sym c.self.view_is) c.requires) in
    omega (arith, below, c.self.inside.rows.ok)

pub set_phase-requires : goal.set_phase-requires
set_phase-requires c =
    let rows = c.self.inside.rows.items in
    let below = passing_below rows c.self.invariant.kept.numbers _ c.args.job
    (subst (λ (t : Table). has_head (λ row. is_some row.settled) c.args.job t.rows ≡ true) (sym c.self.view_is) c.requires) in
    flags_there rows c.self.inside.index c.self.inside.ready c.args.job c.self.invariant.marked below

pub lead-requires : goal.lead-requires
lead-requires c =
    let rows = c.self.inside.rows.items in
    let lists = c.self.inside.followers.lists in
    let old = c.index_mut.result.now in
    let passes = subst (λ (t : Table). has_head (λ row. is_some row.settled) c.args.job t.rows ≡ true) (sym c.self.view_is) c.requires in
    let left = has_left (λ row. is_some row.settled) rows lists c.self.inside.index c.drop_first.new.self c.args.job old c.index.result.now _ _
    c.self.invariant.kept passes c.index_mut.ensures.value c.index.ensures c.as_bytes.ensures c.as_bytes-2.ensures c.drop_first.ensures in
    rw (c.deref.ensures.value, c.set_phase.ensures)
    (flag_there rows c.self.inside.index c.self.inside.ready c.args.job (with_phase job_phase.Done old) c.first-next.result c.self.invariant.marked
    (head_there _ lists c.drop_first.new.self c.as_bytes-3.result.now c.as_bytes-4.result.now c.first-next.result left.kept c.first-next.ensures))

pub invariant_of-self : goal.invariant_of-self
invariant_of-self c =
    let rows = c.self.inside.rows.items in
    let lists = c.self.inside.followers.lists in
    let kept = c.self.invariant.kept in
    let old = c.index_mut.result.now in
    let done = with_phase job_phase.Done old in
    let after = c.drop_first.new.self in
    let passes = subst (λ (t : Table). has_head (λ row. is_some row.settled) c.args.job t.rows ≡ true) (sym c.self.view_is) c.requires in
    let left = has_left (λ row. is_some row.settled) rows lists c.self.inside.index after c.args.job old c.index.result.now _ _
    kept passes c.index_mut.ensures.value c.index.ensures c.as_bytes.ensures c.as_bytes-2.ensures c.drop_first.ensures in
    let key_is = c.as_bytes-3.ensures ∙ ap (λ (row : JobRow). row.job.key) left.same in
    let scope_is = c.as_bytes-4.ensures ∙ ap (λ (row : JobRow). row.job.scope) left.same in
    rw (c.lead.ensures, c.deref.ensures.value, c.set_phase.ensures)
    record {
      kept = left.kept;
      marked = marked_done rows c.self.inside.index after c.self.inside.ready c.args.job old done c.self.invariant.marked kept.numbers left.below left.leads
          left.dropped (joined_none rows kept.numbers old.job.key old.job.scope old left.first) refl c.first-next.result
          (c.first-next.ensures ∙ (λ i. slice_get (line_in after (key_is i) (scope_is i)).numbers 0))
          (head_there _ lists after c.as_bytes-3.result.now c.as_bytes-4.result.now c.first-next.result left.kept c.first-next.ensures);
      tallied = tallied_done rows c.self.inside.keys c.take.new.self c.args.job old c.index.result.now.job.key c.self.invariant.tallied c.index_mut.ensures.value left.below
          (joined_none rows kept.numbers old.job.key old.job.scope old left.first) (not_done rows kept.numbers old.job.key old.job.scope old left.first)
          (ap (λ (row : JobRow). row.job.key) left.same) c.take.ensures.counts;
    }

pub returns-clause-done : goal.returns-clause-done
returns-clause-done c =
    let rows = c.self.inside.rows.items in
    let are = c.self.invariant.kept.numbers in
    let below = passing_below rows are _ c.args.job
    (subst (λ (t : Table). has_head (λ row. is_some row.settled) c.args.job t.rows ≡ true) (sym c.self.view_is) c.requires) in
    rows_set rows are (with_phase job_phase.Done) c.args.job c.index_mut.result.now c.index_mut.ensures.value below
    ∙ ap (λ (t : Table). changed (is_job c.args.job) (with_phase job_phase.Done) t.rows) c.self.view_is

pub returns-clause-followers : goal.returns-clause-followers
returns-clause-followers c other =
    followers_stay _ _ _ _ _ c.self.invariant.kept (invariant_of-self c).kept other
    ∙ ap (λ (t : Table). followers_of other t.rows) c.self.view_is
