use Rattle.std.proofs.Common.{◌∙◌, ◌++◌, Option, append_assoc, ap, arith, filter, length, length-append, map, slice_get, take}
use Rattle.std.proofs.lemmas.List.{map-append}
use Rattle.std.specs.Map.{values_of}
use Rattle.std.specs.Option.{option_to_list}
use Rattle.sw_data.specs.declared.answers.Notice.TheVariants as notice
use Rattle.sw_client.specs.declared.OpenClient.{OpenClient}
use Rattle.sw_client.specs.Table.{users_of, uses}
use Rattle.sw_client.proofs.TakeOver.{passed_more, passed_within}
use Rattle.sw_client.proofs.tell.Goals as goal

pub tell_one-requires : goal.tell_one-requires
tell_one-requires c =
    let rows = values_of c.args.rows.now.entries in
    let within = passed_within (uses c.args.registration) rows c.loop-place.place in
    let here = ap (λ (row : Option OpenClient). users_of c.args.registration (option_to_list row)) c.at.ensures in
    omega (arith, within, here, c.loop-place.invariant.room, c.requires)

pub loop-place-preserved : goal.loop-place-preserved
loop-place-preserved c =
    let rows = values_of c.args.rows.now.entries in
    let more = passed_more (uses c.args.registration) rows c.loop-place.place in
    let here = ap (λ (row : Option OpenClient). filter (uses c.args.registration) (option_to_list row)) c.at.ensures in
    let before = filter (uses c.args.registration) (take c.loop-place.place rows) in
    let next = filter (uses c.args.registration) (option_to_list (slice_get rows c.loop-place.place)) in
    record {
      told = rw (more, map-append) (c.tell_one.ensures.told ∙ (λ i. c.loop-place.invariant.told i ++ map (λ (row : OpenClient). notice.ControllerChange row.client.number) (here i)) ∙ append_assoc c.args.notices.now.rows _ _);
      room = omega (arith, ap length more, length-append before next, ap length here, c.tell_one.ensures.room, c.loop-place.invariant.room);
    }
