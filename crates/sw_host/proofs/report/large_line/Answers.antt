-- The word of the limit stands in the text.
use Rattle.std.proofs.Common.{◌∙◌, ◌++◌, List, ℕ, ap, codes, decimal}
use Rattle.sw_host.proofs.TextLemmas.{pieces}
use Rattle.sw_host.proofs.report.large_line.Goals as goal

pub returns : goal.returns
returns c =
    c.from_string.ensures
    ∙ c.in_ok-format.ensures.ok
    ∙ pieces (codes "error: line ") (decimal c.args.line) (codes ": too large: ") c.limit_word-limit.result.now (codes "\n")
    ∙ ap (λ (word : List ℕ). codes "error: line " ++ decimal c.args.line ++ codes ": too large: " ++ word ++ codes "\n") c.limit_word-limit.ensures
