use Rattle.std.proofs.Common.{◌≡◌, ◌+◌, ◌-◌, ◌^◌, ◌<◌, Some, inl, inr, length, drop, replicate, refl, subst, arith}
use Rattle.std.proofs.lemmas.Result.{on_ok_weaker}
use Rattle.sw_disk.specs.Image.{Image, get}
use Rattle.sw_disk.specs.DiskRule.{written}
use Rattle.sw_disk.proofs.Images.{told_some}
use Rattle.sw_disk.proofs.Stages.{put_so, put_twice, both_writes, since_first}
use Rattle.sw_journal.specs.Format.{format_2}
use Rattle.sw_journal.specs.Content.{IsFresh}
use Rattle.sw_journal.specs.Init.{first_bytes, IsBegun, IsFormatted, IsFreshIn, SinceTwoCalls, FromSecondCall}
use Rattle.sw_journal.proofs.FreshParts.{headed, torn_fresh}
use Rattle.sw_journal.proofs.formatting.write_fresh.Given.{Over}
use Rattle.sw_journal.proofs.formatting.write_fresh.Goals as goal
use Rattle.sw_journal.proofs.formatting.write_fresh.Goals.{After-write_synced-2}

pub returns-clause-any_moment : goal.returns-clause-any_moment
returns-clause-any_moment g c =
    both_writes g.D.Disk c.args.part c.args.disk.now c.write_synced.new.disk c.write_synced-2.new.disk (λ image. IsBegun (length (get c.args.part image))) 0 17 (written 0 (replicate 17 0)) 0 16
    (λ image old new torn. inl torn) (λ image is new torn. inr (torn_fresh (get c.args.part image) new torn))
    (g.met.D.Disk.shows c.args.disk.now) c.write_synced.ensures.any_moment c.in_ok-write_synced.ensures.written c.in_ok-write_synced.ensures.durable c.write_synced-2.ensures.any_moment

pub returns-clause-formatted : goal.returns-clause-formatted
returns-clause-formatted g c =
    on_ok_weaker c.write_synced-2.result (λ second. put_so g.D.Disk c.args.part c.args.disk.now c.write_synced-2.new.disk (written 0 first_bytes) IsFormatted
    (λ image is. headed (written 0 first_bytes (get c.args.part image)) 0 (drop 17 (get c.args.part image)) (λ one. omega (arith, one)) refl)
    (put_twice g.D.Disk c.args.part c.args.disk.now c.write_synced.new.disk c.write_synced-2.new.disk (written 0 (replicate 17 0)) (written 0 format_2.header) (written 0 first_bytes)
    (λ image is. refl) c.in_ok-write_synced.ensures.written second)) c.write_synced-2.ensures.written

-- since the first sync a crash has left nothing but the part without a record
fresh_since : (g : Over) (c : After-write_synced-2 g) (image : Image) → g.D.Disk.seen c.args.disk.now ≡ Some image → g.D.Disk.clock c.write_synced.new.disk < 2 ^ 64 - 1
    → (f : Image) → g.D.Disk.left_since c.write_synced-2.new.disk (g.D.Disk.clock c.write_synced.new.disk) f → IsFreshIn c.args.part image f
fresh_since g c image is =
    since_first g.D.Disk c.args.part c.args.disk.now c.write_synced.new.disk c.write_synced-2.new.disk (written 0 (replicate 17 0)) 0 16 c.in_ok-write_synced.ensures.written c.in_ok-write_synced.ensures.durable
    c.write_synced-2.ensures.any_moment image is IsFresh (torn_fresh (get c.args.part image)) (λ f going left. g.met.D.Disk.only_now c.write_synced.new.disk f going left)

pub returns-clause-from_first_sync : goal.returns-clause-from_first_sync
returns-clause-from_first_sync g c =
    let disk = g.D.Disk in
    on_ok_weaker c.write_synced-2.result (λ calls. told_some (disk.seen c.args.disk.now) (λ image. SinceTwoCalls disk c.write_synced-2.new.disk (IsFreshIn c.args.part image)) (λ image is.
    record { from = disk.clock c.write_synced.new.disk; two_calls = calls; each = fresh_since g (goal.at.returns-clause-from_first_sync g c).After-write_synced-2 image is })) c.write_synced-2.ensures.calls

pub returns-clause-since_first_sync : goal.returns-clause-since_first_sync
returns-clause-since_first_sync g c =
    let disk = g.D.Disk in
    let start = c.args.disk.now in
    let end = c.write_synced-2.new.disk in
    told_some (disk.seen start) (λ image. FromSecondCall disk 0 start end (IsFreshIn c.args.part image)) (λ image is. record {
      start = disk.clock start;
      soon = omega arith;
      most = omega (arith, c.write_synced.ensures.most, c.write_synced-2.ensures.most);
      each = λ more.
          let at : disk.clock c.write_synced.new.disk ≡ disk.clock start + 2 = omega (arith, more, c.in_ok-write_synced.ensures.calls, c.write_synced-2.ensures.most) in
          subst (λ t. (f : Image) → disk.left_since end t f → IsFreshIn c.args.part image f) at
          (fresh_since g (goal.at.returns-clause-since_first_sync g c).After-write_synced-2 image is (omega (arith, more, at, c.write_synced-2.ensures.most)));
    })
