use Rattle.std.proofs.Common.{◌+◌, ◌<◌, inl, length}
use Rattle.sw_disk.specs.Image.{get}
use Rattle.sw_disk.specs.DiskRule.{written}
use Rattle.sw_disk.proofs.Images.{told_at}
use Rattle.sw_disk.proofs.Stages.{both_writes}
use Rattle.sw_journal.specs.Gate.{IsTornRecord}
use Rattle.sw_journal.proofs.PartChanges.{torn_opening}
use Rattle.sw_journal.proofs.gate.add_record.Goals as goal

pub returns-clause-any_moment : goal.returns-clause-any_moment
returns-clause-any_moment g c =
    let bytes = c.args.bytes.now in
    let inside = told_at (g.D.Disk.seen c.args.disk.now) (λ image. c.args.gate < length (get c.args.part image)) in
    both_writes g.D.Disk c.args.part c.args.disk.now c.write_synced.new.disk c.write_synced-2.new.disk (λ image. IsTornRecord c.args.gate bytes) (c.args.gate + 1) (length bytes) (written (c.args.gate + 1) bytes) c.args.gate 1
    (λ image old new torn. inl torn.before) (λ image is new torn. torn_opening c.args.gate bytes (get c.args.part image) new (inside image is c.requires.inside) torn)
    (g.met.D.Disk.shows c.args.disk.now) c.write_synced.ensures.any_moment c.in_ok-write_synced.ensures.written c.in_ok-write_synced.ensures.durable c.write_synced-2.ensures.any_moment
