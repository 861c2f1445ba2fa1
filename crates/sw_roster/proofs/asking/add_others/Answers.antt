-- One more place was looked at.
use Rattle.std.proofs.Common.{◌≤◌, ap, arith, length, not}
use Rattle.std.proofs.lemmas.List.{length-map}
use Rattle.std.specs.List.{list_any}
use Rattle.sw_client.specs.declared.OpenClient.{OpenClient}
use Rattle.sw_client.specs.Table.{Table, clients_of}
use Rattle.sw_roster.proofs.Askers.{others_all, others_more}
use Rattle.sw_roster.specs.Members.{is_listed, is_other, is_same}
use Rattle.sw_roster.proofs.asking.add_others.Goals as goal
use Rattle.sw_state.specs.Hosted.{state_of}

pub loop-place-preserved : goal.loop-place-preserved
loop-place-preserved c =
    others_more (is_other (state_of c.args.core.now) c.args.recent.now c.args.worker c.args.uncontrolled) (clients_of c.args.core.now.clients) c.loop-place.place c.args.all.now.items
    c.loop-place.all.items c.add_other.new.all.items c.loop-place.invariant c.in_ok-add_other.ensures

pub returns : goal.returns
returns c =
    let rows = c.args.core.now.clients.rows in
    let past : length (clients_of c.args.core.now.clients) ≤ c.loop-place.place =
    omega (arith, c.loop-place-test.false, c.len-place-end.ensures, ap (λ (table : Table). length table.rows) c.clients.ensures, length-map rows (λ (row : OpenClient). row.client)) in
    others_all (λ row. not (list_any (is_same row.number) c.args.recent.now)) (is_listed (state_of c.args.core.now) c.args.worker c.args.uncontrolled) (clients_of c.args.core.now.clients) c.loop-place.place
    c.args.all.now.items c.loop-place.all.items past c.loop-place.invariant
