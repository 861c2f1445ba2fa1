use Rattle.std.proofs.Common.{◌≡◌, ◌∙◌, ◌+◌, slice_get, Some, None, arith, if◌then◌else◌}
use Rattle.std.specs.Map.{values_of}
use Rattle.std.specs.Prelude.{bytes_eq}
use Rattle.sw_list.specs.Tally.{count_in}
use Rattle.sw_client.specs.declared.OpenClient.{OpenClient}
use Rattle.sw_client.proofs.Copied.{there_at}
use Rattle.sw_client.proofs.Tallying.{keys_at}
use Rattle.sw_client.proofs.copies.add_key.Goals as goal

pub returns-in_ok-make_room-in-Some : goal.returns-in_ok-make_room-in-Some
returns-in_ok-make_room-in-Some c =
    let rows = values_of c.args.rows.now.entries in
    let row : OpenClient = c.in-Some.row.now in
    let at : slice_get rows c.args.place ≡ Some row = grind (arith, c.at.ensures, c.in-Some.is) in
    let own : c.in_ok-key-in-Some.key ≡ row.client.key = c.in_ok-key-in-Some.ensures in
    keys_at rows c.args.place row c.args.keys.now c.add.new.self at c.requires.before
    (λ asked. c.add.ensures.counts asked ∙ (λ i. count_in (c.make_room.ensures.same i) asked + (if bytes_eq (own i) asked then 1 else 0)))

pub returns-in-None : goal.returns-in-None
returns-in-None c =
    let entries = c.args.rows.now.entries in
    let none : slice_get (values_of entries) c.args.place ≡ None = grind (arith, c.at.ensures, c.in-None.is) in
    absurd (there_at entries c.args.place c.requires.place none)
