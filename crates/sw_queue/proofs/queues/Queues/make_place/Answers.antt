use Rattle.std.proofs.Common.{List, ℕ, ◌∙◌, ◌<◌, sym, ap, subst, arith}
use Rattle.sw_queue.specs.Lines.{line_in}
use Rattle.sw_queue.specs.Tables.{Table, joined_in}
use Rattle.sw_queue.proofs.Rooms.{spare_in}
use Rattle.sw_queue.proofs.Running.{joined_below}
use Rattle.sw_queue.proofs.queues.Queues.make_place.Goals as goal

pub returns-in_default-clause-place : goal.returns-in_default-clause-place
returns-in_default-clause-place c =
    let lines = c.make_room.new.self in
    subst (λ n. 0 < n) (sym (spare_in lines c.args.job.now.key c.args.job.now.scope))
    (subst (λ (key : List ℕ). 0 < (line_in lines key c.args.job.now.scope).spare) c.as_bytes.ensures
    (subst (λ (scope : List ℕ). 0 < (line_in lines c.as_bytes.result.now scope).spare) c.as_bytes-in_default.ensures c.in_ok-make_room.ensures.room))

pub make_room_at-requires : goal.make_room_at-requires
make_room_at-requires c =
    let joined = ap (λ (t : Table). joined_in t.rows c.args.job.now) c.self.view_is ∙ (sym c.leader.ensures ∙ c.in-Some.is) in
    let below = joined_below c.self.inside.rows.items c.self.invariant.kept.numbers c.args.job.now c.in-Some.leader joined in
    omega (arith, below, c.self.invariant.kept.count)
