use Rattle.std.proofs.Common.{◌∙◌, true, false, option_map, sym, ap, arith}
use Rattle.std.specs.Prelude.{◌&&◌, is_none}
use Rattle.sw_data.specs.declared.rows.JobRow.{JobRow}
use Rattle.sw_rules.specs.Jobs.{is_equivalent}
use Rattle.sw_rules.specs.Rows.{last_job}
use Rattle.sw_queue.specs.Kept.{number}
use Rattle.sw_queue.specs.Tables.{Table, joined_in}
use Rattle.sw_queue.proofs.Running.{joined, last_there}
use Rattle.sw_queue.proofs.queues.Queues.leader.Goals as goal

pub index-requires : goal.index-requires
index-requires c =
    let new = c.args.job.now in
    let last = ap (λ (t : Table). option_map number (last_job new.key new.scope t.rows)) c.self.view_is ∙ (sym c.last.ensures ∙ c.in-Some.is) in
    let below = (last_there _ c.self.invariant.kept.numbers new.key new.scope c.in-Some.number last).0 in
    omega (arith, below, c.self.inside.rows.ok)

pub returns-then-can_join : goal.returns-then-can_join
returns-then-can_join c =
    let new = c.args.job.now in
    let rows = c.self.inside.rows.items in
    let last = ap (λ (t : Table). option_map number (last_job new.key new.scope t.rows)) c.self.view_is ∙ (sym c.last.ensures ∙ c.in-Some.is) in
    let can = sym c.if-can_join.true ∙ (c.can_join.ensures ∙ ap (λ (row : JobRow). is_equivalent new row.job && is_none row.settled) c.index.ensures) in
    joined rows c.self.invariant.kept.numbers new c.in-Some.number c.index.result.now true last can
    ∙ ap (λ (t : Table). joined_in t.rows new) c.self.view_is

pub returns-else-can_join : goal.returns-else-can_join
returns-else-can_join c =
    let new = c.args.job.now in
    let rows = c.self.inside.rows.items in
    let last = ap (λ (t : Table). option_map number (last_job new.key new.scope t.rows)) c.self.view_is ∙ (sym c.last.ensures ∙ c.in-Some.is) in
    let can = sym c.if-can_join.false ∙ (c.can_join.ensures ∙ ap (λ (row : JobRow). is_equivalent new row.job && is_none row.settled) c.index.ensures) in
    joined rows c.self.invariant.kept.numbers new c.in-Some.number c.index.result.now false last can
    ∙ ap (λ (t : Table). joined_in t.rows new) c.self.view_is
