use Rattle.sw_disk.specs.Plain.{plain_image}
use Rattle.swhost_c.proofs.RoomLemmas.{all_written}
use Rattle.swhost_c.proofs.handing.put_all.Goals as goal

pub returns : goal.returns
returns c =
    all_written c.args.text.now (plain_image c.args.disk.now) (plain_image c.put_part.new.disk) (plain_image c.put_part-2.new.disk) c.args.lengths.now
    c.args.room.now c.put.new.room c.put_part.new.room c.put_part-2.new.room c.put_part-3.new.room
    c.requires.lengths c.put.ensures c.put_part.ensures.room c.put_part.ensures.image c.put_part-2.ensures.room c.put_part-2.ensures.image c.put_part-3.ensures.room
