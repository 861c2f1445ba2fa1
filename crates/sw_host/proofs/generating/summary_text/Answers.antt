use Rattle.std.proofs.Common.{◌∙◌, refl, append_assoc}
use Rattle.sw_host.proofs.generating.summary_text.Goals as goal

pub returns : goal.returns
returns c = c.from_string.ensures ∙ c.in_ok-format.ensures.ok ∙ simp append_assoc refl
