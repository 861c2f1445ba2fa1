use Rattle.std.proofs.Common.{◌≡◌, [], sym, ◌∙◌, ap, subst}
use Rattle.sw_disk.specs.DiskRule.{BothTold, OnPart}
use Rattle.sw_disk.proofs.Images.{told_at, ok_so}
use Rattle.sw_journal.specs.Content.{Records}
use Rattle.sw_journal.specs.Init.{IsFormatted}
use Rattle.sw_twin.specs.Current.{leading_ones, part_at, content_of}
use Rattle.sw_twin.proofs.Changing.{became_so}
use Rattle.sw_twin.proofs.Leading.{not_root}
use Rattle.sw_twin.proofs.Standing.{formatted_content}
use Rattle.sw_twin.proofs.formatting.init.Goals as goal

pub returns-clause-formatted : goal.returns-clause-formatted
returns-clause-formatted g c =
    let seen = g.D.Disk.seen in
    let start = c.args.disk.now in
    let end = c.init.new.disk in
    let part = c.part_after.result in
    ok_so c.init.result (BothTold (seen c.count_ones.new.disk) (seen end) (OnPart part IsFormatted)) (BothTold (seen start) (seen end) (λ old new. content_of new ≡ Records []))
    (λ became. became_so (seen start) (seen end) (OnPart part IsFormatted) (λ old new. content_of new ≡ Records []) (λ a b is on. formatted_content part a b (λ root. not_root c.in-Ok.ones (sym c.part_after.ensures ∙ root))
    (sym (c.part_after.ensures ∙ ap part_at (told_at (seen start) (λ image. c.in-Ok.ones ≡ leading_ones image.root) a is c.in-Ok.ensures.ones))) on)
    (subst (λ s. BothTold s (seen end) (OnPart part IsFormatted)) c.count_ones.ensures.quiet.same became)) c.init.ensures.formatted
