use Rattle.sw_caches.proofs.CountedLemmas.{counted_same}
use Rattle.std.proofs.Common.{refl}
use Rattle.sw_caches.proofs.table.Caches.make_with.Goals as goal

pub invariant_of-self : goal.invariant_of-self
invariant_of-self c =
    counted_same c.self.inside.rows.rows c.self.inside.rows.rows c.self.inside.sums c.make_room.new.self c.self.invariant refl c.make_room.ensures.total c.make_room.ensures.held

pub invariant_of-self-in_err-row : goal.invariant_of-self-in_err-row
invariant_of-self-in_err-row c =
    counted_same c.self.inside.rows.rows c.make_row.new.self.rows c.self.inside.sums c.make_room.new.self c.self.invariant c.make_row.ensures.same c.make_room.ensures.total c.make_room.ensures.held

pub invariant_of-self-2 : goal.invariant_of-self-2
invariant_of-self-2 c =
    counted_same c.self.inside.rows.rows c.make_row.new.self.rows c.self.inside.sums c.make_room.new.self c.self.invariant c.make_row.ensures.same c.make_room.ensures.total c.make_room.ensures.held
