use Rattle.std.proofs.Common.{length, ◌-◌, arith}
use borrow.Rule.Slice.PartMut.{post_of}
use Rattle.sw_disk.specs.Image.{get}
use Rattle.sw_disk.specs.Plain.{plain_image}
use Rattle.sw_journal.proofs.ReadLemmas.{read_into}
use Rattle.swhost_c.proofs.disk.read_on.Goals as goal

pub returns-clause-front : goal.returns-clause-front
returns-clause-front c same =
    let old = c.args.into.now in
    let at = c.args.at in
    read_into at c.in-Ok.more (get c.args.part (plain_image c.args.disk.now)) old c.read_at.new.into (post_of at (length old - at) old)
    (omega (arith, c.requires.within)) c.in-Ok.ensures.fits same c.in-Ok.ensures.bytes.given
