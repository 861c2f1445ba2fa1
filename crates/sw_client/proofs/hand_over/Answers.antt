use Rattle.sw_client.specs.Table.{handed}
use Rattle.sw_client.proofs.TakeOver.{edited_more}
use Rattle.sw_client.proofs.hand_over.Goals as goal

pub loop-place-preserved : goal.loop-place-preserved
loop-place-preserved c = record {
  entries = edited_more (handed c.args.registration c.args.worker) c.args.rows.now.entries c.loop-place.rows.entries c.loop-place.place c.at_mut.result.now c.pass_on.new.row c.loop-place.invariant.entries c.at_mut.ensures.value c.pass_on.ensures;
  room = c.loop-place.invariant.room;
}
