use Rattle.std.proofs.Common.{◌≡◌, ◌∙◌, Some, ap, arith, is_none, length, map, subst, ◌-◌, min}
use Rattle.std.specs.Vec.{vec_len, vec_capacity}
use Rattle.std.specs.List.{range_with_len}
use Rattle.sw_rules.specs.Rows.{changed, is_task}
use Rattle.sw_list.specs.Marked.{Marked}
use Rattle.sw_ledgers.specs.Tasks.{Table, has_task}
use Rattle.sw_ledgers.proofs.Tasking.{kept_settled, many_flags, numbers_are_places, passing_here, settled_rows, with_value, within}
use Rattle.sw_ledgers.proofs.tasks.Tasks.settle.Goals as goal

pub set-requires : goal.set-requires
set-requires c =
    let tasks = c.self.inside.rows.items in
    let there = ap (λ (table : Table). has_task (λ row. is_none row.settled) c.args.task table.rows) c.self.view_is ∙ c.requires in
    let below = within (λ row. is_none row.settled) tasks c.args.task c.self.invariant.rows there in
    omega (arith, below, many_flags tasks c.self.inside.unsettled.flags c.self.inside.keys c.self.invariant)

pub invariant_of-self : goal.invariant_of-self
invariant_of-self c =
    let tasks = c.self.inside.rows.items in
    let old = c.index_mut-row.result.now in
    let there = ap (λ (table : Table). has_task (λ row. is_none row.settled) c.args.task table.rows) c.self.view_is ∙ c.requires in
    let below = within (λ row. is_none row.settled) tasks c.args.task c.self.invariant.rows there in
    let was = passing_here (λ row. is_none row.settled) tasks c.args.task old c.self.invariant.rows below there in
    rw c.set.ensures
    (kept_settled c.args.value tasks c.self.inside.unsettled.flags c.self.inside.keys c.take.new.self c.args.task old (with_value c.args.value old) c.self.invariant below
    (ap (with_value c.args.value) c.index_mut-row.ensures.value) was c.take.ensures.counts)

pub returns-clause-rows : goal.returns-clause-rows
returns-clause-rows c =
    let tasks = c.self.inside.rows.items in
    let old = c.index_mut-row.result.now in
    let there = ap (λ (table : Table). has_task (λ row. is_none row.settled) c.args.task table.rows) c.self.view_is ∙ c.requires in
    let below = within (λ row. is_none row.settled) tasks c.args.task c.self.invariant.rows there in
    let rows = settled_rows c.args.value tasks c.args.task old (with_value c.args.value old) c.self.invariant.rows below (ap (with_value c.args.value) c.index_mut-row.ensures.value)
    ∙ ap (λ (table : Table). changed (is_task c.args.task) (λ row. record row { settled = Some c.args.value }) table.rows) c.self.view_is in
    let room = vec_capacity c.self.inside.rows - vec_len c.self.inside.rows in
    let spare = ap (λ (marked : Marked). min (min room marked.spare) c.take.new.self.spare) c.set.ensures
    ∙ (ap (min (min room c.self.inside.unsettled.spare)) c.take.ensures.room ∙ ap (λ (table : Table). table.spare) c.self.view_is) in
    λ i. record { rows = rows i; spare = spare i }

pub returns-clause-places : goal.returns-clause-places
returns-clause-places c =
    subst (λ (table : Table). map (λ row. row.number) table.rows ≡ range_with_len 0 (length table.rows)) c.self.view_is
    (numbers_are_places c.self.inside.rows.items c.self.invariant.rows)
