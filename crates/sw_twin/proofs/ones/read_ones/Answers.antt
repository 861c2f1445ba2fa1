use Rattle.std.proofs.Common.{◌≡◌, ◌+◌, arith, Some, take, drop, sym, ◌∙◌, ap, length-take}
use Rattle.std.proofs.lemmas.Bool.{eqb-true, eqb-false}
use Rattle.std.proofs.lemmas.List.{drop-drop}
use Rattle.sw_disk.specs.declared.part.Part.TheVariants.{Root}
use Rattle.sw_disk.specs.Image.{Image, get}
use Rattle.sw_disk.specs.DiskRule.{ReadsAt}
use Rattle.sw_disk.proofs.Images.{told_some, told_at}
use Rattle.sw_twin.specs.Current.{leading_ones}
use Rattle.sw_twin.proofs.Leading.{few_ones, read_end, read_on}
use Rattle.sw_twin.proofs.ones.read_ones.Given.{Over}
use Rattle.sw_twin.proofs.ones.read_ones.Goals as goal
use Rattle.sw_twin.proofs.ones.read_ones.Goals.{Then-count-gt0}

counted : (g : Over) (c : Then-count-gt0 g) → c.leading-ones.result ≡ leading_ones (take c.in_ok-count.count c.read_at.new.into)
counted g c = c.leading-ones.ensures ∙ ap leading_ones c.split_at.ensures.front

reads : (g : Over) (c : Then-count-gt0 g) (image : Image) → g.D.Disk.seen c.args.disk.now ≡ Some image → ReadsAt image.root c.args.at c.read_at.new.into c.in_ok-count.count
reads g c image is = told_at (g.D.Disk.seen c.args.disk.now) (λ image. ReadsAt (get Root image) c.args.at c.read_at.new.into c.in_ok-count.count) image is c.in_ok-count.ensures.bytes

pub returns-then-count-gt0-clause-end : goal.returns-then-count-gt0-clause-end
returns-then-count-gt0-clause-end g c =
    told_some (g.D.Disk.seen c.args.disk.now) _ (λ image is differs.
    let r = reads g c image is in
    read_end c.in_ok-count.count (drop c.args.at image.root) c.read_at.new.into r.given r.within (λ all. eqb-false c.leading-ones.result c.in_ok-count.count differs (counted g c ∙ all))
    ∙ sym (counted g c))

pub returns-then-count-gt0-clause-more : goal.returns-then-count-gt0-clause-more
returns-then-count-gt0-clause-more g c =
    told_some (g.D.Disk.seen c.args.disk.now) _ (λ image is same.
    let r = reads g c image is in
    let all : c.in_ok-count.count ≡ c.leading-ones.result = sym (eqb-true c.leading-ones.result c.in_ok-count.count same) in
    read_on c.in_ok-count.count (drop c.args.at image.root) c.read_at.new.into r.given r.within (sym (counted g c) ∙ sym all)
    ∙ (λ i. all i + leading_ones (drop-drop (all i) c.args.at image.root i)))

pub returns-then-count-gt0-clause-few : goal.returns-then-count-gt0-clause-few
returns-then-count-gt0-clause-few g c =
    omega (arith, counted g c, few_ones (take c.in_ok-count.count c.read_at.new.into), length-take c.in_ok-count.count c.read_at.new.into, c.in_ok-count.ensures.fits, c.read_at.auto.into)
