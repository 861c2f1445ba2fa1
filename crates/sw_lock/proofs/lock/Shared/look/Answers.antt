use Rattle.std.proofs.Common.{arith}
use Rattle.sw_lock.proofs.Turns.{looks}
use Rattle.sw_lock.proofs.lock.Shared.look.Goals as goal

pub load-requires : goal.load-requires
load-requires g c =
    let lock = c.args.self.now in
    let sized = lock.sized.0 in
    let seat = c.args.pass.now.seat in
    let alone = c.args.pass.now.idle.alone in (
      c.requires.0,
      omega arith,
      looks g.T.Logged lock.table.shared.key.opened.value lock.table.shared.key.made
          lock.table.shared.table_id.slots seat.id seat.me (omega arith),
    )
