use Rattle.std.proofs.Common.{◌≡◌, ◌+◌, ◌^◌, ◌<◌, arith, length, drop}
use Rattle.sw_disk.specs.declared.part.Part.TheVariants.{Root}
use Rattle.sw_disk.specs.Image.{get}
use Rattle.sw_disk.proofs.Images.{told_some, told_at}
use Rattle.sw_twin.specs.Current.{leading_ones}
use Rattle.sw_twin.proofs.Leading.{few_ones}
use Rattle.sw_twin.proofs.ones.count_ones.Goals as goal

pub returns-clause-ones : goal.returns-clause-ones
returns-clause-ones g c =
    let seen = g.D.Disk.seen c.args.disk.now in
    told_some seen _ (λ image is.
    let few = told_at seen (λ image. length (get Root image) < 2 ^ 63) image is (g.met.D.Disk.bounded c.args.disk.now Root) in
    let so_far = told_at seen (λ image. leading_ones image.root ≡ c.loop-ones.ones + leading_ones (drop c.loop-ones.ones image.root)) image is c.loop-ones.invariant.counted in
    absurd (omega (arith, few, so_far, few_ones image.root, c.loop-ones-test.false)))
