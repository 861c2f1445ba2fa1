-- The first part, and the parts of what follows it.
use Rattle.std.proofs.Common.{arith}
use Rattle.sw_data.proofs.CutLemmas.{parts_first, parts_last}
use Rattle.sw_data.proofs.cut.first_part.Goals as goal

pub returns-in-empty-clause-parts : goal.returns-in-empty-clause-parts
returns-in-empty-clause-parts c =
    parts_last c.args.mark c.args.text.now c.before-part.result.now c.split_at.result.1.now c.before-part.ensures c.split_at.ensures.back (omega (arith, c.in-empty.len_below))

pub returns-in-len1-up-clause-parts : goal.returns-in-len1-up-clause-parts
returns-in-len1-up-clause-parts c =
    parts_first c.args.mark c.args.text.now c.before-part.result.now c.split_at.result.1.now c.before-part.ensures c.split_at.ensures.back c.in-len1-up.len_at_least
