use Rattle.std.proofs.Common.{◌∙◌}
use Rattle.sw_audit.proofs.Reading.{digits_before}
use Rattle.sw_audit.proofs.marks.number_before.Goals as goal

pub returns : goal.returns
returns c = λ n rest small out is.
    c.number_of.ensures n small (c.before-2.ensures ∙ digits_before c.args.end n c.args.text.now rest out is)
