use Rattle.std.proofs.Common.{arith}
use Rattle.sw_lock.proofs.Turns.{draws}
use Rattle.sw_lock.proofs.lock.Shared.draw.Goals as goal

pub fetch_add-requires : goal.fetch_add-requires
fetch_add-requires g c =
    let lock = c.args.self.now in
    let sized = lock.sized.0 in
    let alone = c.requires.idle.alone in (
      c.requires.table,
      omega arith,
      draws g.T.Logged lock.table.shared.key.opened.value lock.table.shared.key.made
          lock.table.shared.table_id.slots c.args.seat.now.id c.args.seat.now.me c.requires.idle.ticket c.requires.idle.place (omega arith) c.requires.room,
    )
