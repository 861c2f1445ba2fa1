use Rattle.std.proofs.Common.{arith, ap, ◌∙◌}
use Rattle.sw_lock.specs.Steps.{Sat}
use Rattle.sw_lock.proofs.Turns.{sees}
use Rattle.sw_lock.proofs.lock.Shared.wait_for.Goals as goal

pub load-served-requires : goal.load-served-requires
load-served-requires g c =
    let lock = c.args.self.now in
    let sized = lock.sized.0 in
    let same = c.wait.invariant.seat in
    let passes = ap (λ (m : Sat g.row.T.Denot g.row.T-Entry.Denot). m.0.passes) same in
    let alone = c.requires.alone in (
      c.wait.invariant.table ∙ c.requires.table,
      omega arith,
      sees g.T.Logged lock.table.shared.key.opened.value lock.table.shared.key.made
          lock.table.shared.table_id.slots c.wait.seat.id c.args.ticket c.wait.seat.me
          (ap (λ (m : Sat g.row.T.Denot g.row.T-Entry.Denot). m.0.ticket) same ∙ c.requires.drawn)
          (ap (λ (m : Sat g.row.T.Denot g.row.T-Entry.Denot). m.0.place) same ∙ c.requires.place)
          (omega arith),
    )
