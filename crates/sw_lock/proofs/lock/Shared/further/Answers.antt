use Rattle.std.proofs.Common.{arith}
use Rattle.sw_lock.proofs.Turning.{splits_first}
use Rattle.sw_lock.proofs.lock.Shared.further.Goals as goal

pub split_seat-seat-requires : goal.split_seat-seat-requires
split_seat-seat-requires g c =
    let lock = c.args.self.now in
    let sized = lock.sized.0 in
    let first = c.args.first.now in (
      c.requires.pass,
      omega arith,
      splits_first g.T.Logged lock.table.shared.key.opened.value lock.table.shared.key.made
          first.seat.id c.args.next first.seat.me c.requires.first first.idle c.requires.few,
    )
