use Rattle.std.proofs.Common.{[], ◌∷◌, ◌≤◌, length}
use Rattle.sw_disk.specs.declared.part.Part.TheVariants.{Root}
use Rattle.sw_disk.specs.DiskRule.{Puts, written}
use Rattle.sw_disk.specs.Meanings.{Becomes}
use Rattle.sw_disk.proofs.Images.{told_at, ok_so}
use Rattle.sw_disk.proofs.Stages.{put_twice}
use Rattle.sw_twin.proofs.Leading.{zeros_then_one}
use Rattle.sw_twin.proofs.going.add_one.Goals as goal

pub returns-clause-put : goal.returns-clause-put
returns-clause-put g c =
    let disk = g.D.Disk in
    let start = c.args.disk.now in
    let end = c.write_synced-2.new.disk in
    let ones = c.args.ones in
    ok_so c.write_synced-2.result (Becomes disk c.write_synced.new.disk end (Puts Root (written ones (1 ∷ [])))) (Becomes disk start end (Puts Root (written ones (1 ∷ 0 ∷ []))))
    (put_twice disk Root start c.write_synced.new.disk end (written ones (0 ∷ 0 ∷ [])) (written ones (1 ∷ [])) (written ones (1 ∷ 0 ∷ []))
    (λ image is. zeros_then_one ones image.root (told_at (disk.seen start) (λ image. ones ≤ length image.root) image is c.requires))
    c.in_ok-write_synced.ensures.written) c.write_synced-2.ensures.written
