use Rattle.std.proofs.Common.{◌∙◌, true, not, false, Some, option_map, refl, sym, ap, arith}
use Rattle.sw_data.specs.declared.rows.JobPhase.TheVariants as job_phase
use Rattle.sw_rules.specs.Rows.{first_job, is_waiting}
use Rattle.sw_queue.specs.Kept.{followers_of, number}
use Rattle.sw_queue.specs.Tables.{Table, with_phase, ready_job}
use Rattle.sw_queue.proofs.Heads.{first_found, followers_stay, head_set}
use Rattle.sw_queue.proofs.Marking.{flags_there, joined_none, marked_moved}
use Rattle.sw_queue.proofs.Running.{first_there, kept_set, not_done, number_at, ready, rows_set, table_set}
use Rattle.sw_queue.proofs.Tallying.{tallied_set}
use Rattle.sw_queue.proofs.queues.Queues.start.Goals as goal

pub index_mut-row-requires : goal.index_mut-row-requires
index_mut-row-requires c =
    let first = ap (λ (t : Table). option_map number (first_job c.args.key.now c.args.scope.now t.rows)) c.self.view_is ∙ (sym c.first.ensures ∙ c.in-Some.is) in
    let below = (first_there _ c.self.invariant.kept.numbers c.args.key.now c.args.scope.now c.in-Some.number first).0 in
    omega (arith, below, c.self.inside.rows.ok)

pub set_phase-requires : goal.set_phase-requires
set_phase-requires c =
    let rows = c.self.inside.rows.items in
    let first = ap (λ (t : Table). option_map number (first_job c.args.key.now c.args.scope.now t.rows)) c.self.view_is ∙ (sym c.first.ensures ∙ c.in-Some.is) in
    let below = (first_there rows c.self.invariant.kept.numbers c.args.key.now c.args.scope.now c.in-Some.number first).0 in
    flags_there rows c.self.inside.index c.self.inside.ready c.in-Some.number c.self.invariant.marked below

pub invariant_of-self-2 : goal.invariant_of-self-2
invariant_of-self-2 c =
    let rows = c.self.inside.rows.items in
    let key = c.args.key.now in
    let scope = c.args.scope.now in
    let old = c.index_mut-row.result.now in
    let here = c.index_mut-row.ensures.value in
    let kept = c.self.invariant.kept in
    let first = ap (λ (t : Table). option_map number (first_job key scope t.rows)) c.self.view_is ∙ (sym c.first.ensures ∙ c.in-Some.is) in
    let found = (first_there rows kept.numbers key scope c.in-Some.number first).1 old ∙ ap Some (sym here) in
    rw c.set_phase.ensures
    record {
      kept = kept_set rows _ _ kept c.in-Some.number old (with_phase job_phase.Fetching old) here refl refl
          (sym (not_done rows kept.numbers key scope old found));
      marked = marked_moved rows c.self.inside.index c.self.inside.ready c.in-Some.number (with_phase job_phase.Fetching old) c.self.invariant.marked
          (joined_none rows kept.numbers key scope old found) refl;
      tallied = tallied_set rows c.self.inside.keys c.in-Some.number old (with_phase job_phase.Fetching old) c.self.invariant.tallied here
          (first_there rows kept.numbers key scope c.in-Some.number first).0 refl refl (sym (not_done rows kept.numbers key scope old found));
    }

pub returns-then-not-is_waiting-clause-answer : goal.returns-then-not-is_waiting-clause-answer
returns-then-not-is_waiting-clause-answer c =
    let rows = c.self.inside.rows.items in
    let key = c.args.key.now in
    let scope = c.args.scope.now in
    let old = c.index_mut-row.result.now in
    let here = c.index_mut-row.ensures.value in
    let are = c.self.invariant.kept.numbers in
    let first = ap (λ (t : Table). option_map number (first_job key scope t.rows)) c.self.view_is ∙ (sym c.first.ensures ∙ c.in-Some.is) in
    let there = first_there rows are key scope c.in-Some.number first in
    let own = ap number here ∙ (number_at rows are 0 rows are c.in-Some.number old there.0 ∙ omega arith) in
    sym (ready rows key scope old c.in-Some.number false (there.1 old ∙ ap Some (sym here)) own (sym c.is_waiting.ensures ∙ c.if-not-is_waiting.true))
    ∙ ap (λ (t : Table). ready_job key scope t.rows) c.self.view_is

pub returns-clause-answer : goal.returns-clause-answer
returns-clause-answer c =
    let rows = c.self.inside.rows.items in
    let key = c.args.key.now in
    let scope = c.args.scope.now in
    let old = c.index_mut-row.result.now in
    let here = c.index_mut-row.ensures.value in
    let are = c.self.invariant.kept.numbers in
    let first = ap (λ (t : Table). option_map number (first_job key scope t.rows)) c.self.view_is ∙ (sym c.first.ensures ∙ c.in-Some.is) in
    let there = first_there rows are key scope c.in-Some.number first in
    let own = ap number here ∙ (number_at rows are 0 rows are c.in-Some.number old there.0 ∙ omega arith) in
    sym (ready rows key scope old c.in-Some.number true (there.1 old ∙ ap Some (sym here)) own (sym c.is_waiting.ensures ∙ c.if-not-is_waiting.false))
    ∙ ap (λ (t : Table). ready_job key scope t.rows) c.self.view_is

pub returns-clause-ok : goal.returns-clause-ok
returns-clause-ok c =
    let rows = c.self.inside.rows.items in
    let are = c.self.invariant.kept.numbers in
    let first = ap (λ (t : Table). option_map number (first_job c.args.key.now c.args.scope.now t.rows)) c.self.view_is ∙ (sym c.first.ensures ∙ c.in-Some.is) in
    let below = (first_there rows are c.args.key.now c.args.scope.now c.in-Some.number first).0 in
    rw c.set_phase.ensures
    (table_set _ _ _ (with_phase job_phase.Fetching) _ c.self.view_is
    (rows_set rows are (with_phase job_phase.Fetching) c.in-Some.number c.index_mut-row.result.now c.index_mut-row.ensures.value below))

pub returns-clause-head : goal.returns-clause-head
returns-clause-head c =
    let rows = c.self.inside.rows.items in
    let key = c.args.key.now in
    let scope = c.args.scope.now in
    let old = c.index_mut-row.result.now in
    let kept = c.self.invariant.kept in
    let first = ap (λ (t : Table). option_map number (first_job key scope t.rows)) c.self.view_is ∙ (sym c.first.ensures ∙ c.in-Some.is) in
    let there = first_there rows kept.numbers key scope c.in-Some.number first in
    head_set rows _ _ (λ row. not (is_waiting row.phase)) c.in-Some.number old _ kept (invariant_of-self-2 c).kept there.0 refl
    (first_found rows kept.numbers key scope old (there.1 old ∙ ap Some (sym c.index_mut-row.ensures.value))) refl

pub returns-clause-followers : goal.returns-clause-followers
returns-clause-followers c other =
    followers_stay _ _ _ _ _ c.self.invariant.kept (invariant_of-self-2 c).kept other
    ∙ ap (λ (t : Table). followers_of other t.rows) c.self.view_is
