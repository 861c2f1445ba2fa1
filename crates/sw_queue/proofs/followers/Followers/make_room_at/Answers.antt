use Rattle.std.proofs.Common.{◌<◌, length, ap, arith}
use Rattle.std.proofs.lemmas.List.{length-map}
use Rattle.std.specs.Vec.{vec_len, vec_capacity}
use Rattle.std.specs.Prelude.{◌-◌}
use Rattle.sw_queue.specs.Lines.{Lists}
use Rattle.sw_queue.proofs.Listing.{seen_at}
use Rattle.sw_queue.proofs.followers.Followers.make_room_at.Goals as goal

pub returns-clause-room : goal.returns-clause-room
returns-clause-room c =
    let lists = c.self.inside.lists.items in
    let many = length-map lists (λ list. list.items) in
    let seen = ap (λ (l : Lists). length l.lists) c.self.view_is in
    let below : c.args.place < length lists = omega (arith, many, seen, c.requires) in
    rw (seen_at (λ list. vec_capacity list - vec_len list) lists c.args.place c.reserve.new.self 0 below)
    omega (arith, c.in_ok-reserve.ensures.ok)
