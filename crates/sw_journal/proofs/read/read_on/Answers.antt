use Rattle.std.proofs.Common.{◌≡◌, ◌+◌, ◌-◌, ◌≤◌, take, length, arith}
use borrow.Rule.Slice.PartMut.{post_of, put_mid}
use Rattle.sw_disk.specs.Image.{get}
use Rattle.sw_disk.specs.DiskRule.{ReadsAt}
use Rattle.sw_journal.proofs.read.read_on.Goals as goal
use Rattle.sw_journal.proofs.ReadLemmas.{told_ok, read_into}

pub returns-clause-front : goal.returns-clause-front
returns-clause-front g c =
    let old = c.args.bytes.now in
    let into = c.read_at.new.into in
    let at = c.args.at in
    told_ok (g.D.Disk.seen c.args.disk.now) c.read_at.result (λ image. ReadsAt (get c.args.part image) at into)
    (λ image n. take at old ≡ take at (get c.args.part image) → take (at + n) (put_mid at (length old - at) old into) ≡ take (at + n) (get c.args.part image)) (λ n. n ≤ length into)
    c.read_at.ensures.bytes c.read_at.ensures.fits
    (λ image n is fits read same. read_into at n (get c.args.part image) old into (post_of at (length old - at) old) (omega (arith, c.requires)) fits same read.given)
