-- The word of the cause stands in the text.
use Rattle.std.proofs.Common.{◌∙◌, ◌++◌, List, ℕ, ap, codes, decimal}
use Rattle.sw_host.proofs.TextLemmas.{pieces}
use Rattle.sw_host.proofs.report.bad_line.Goals as goal

pub returns : goal.returns
returns c =
    c.from_string.ensures
    ∙ c.in_ok-format.ensures.ok
    ∙ pieces (codes "error: line ") (decimal c.args.line) (codes ": ") c.cause_word-cause.result.now (codes "\n")
    ∙ ap (λ (word : List ℕ). codes "error: line " ++ decimal c.args.line ++ codes ": " ++ word ++ codes "\n") c.cause_word-cause.ensures
