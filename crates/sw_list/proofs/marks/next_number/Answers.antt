use Rattle.sw_list.proofs.DigestLemmas.{next_none, next_some}
use Rattle.sw_list.proofs.marks.next_number.Goals as goal

pub returns-in-Some : goal.returns-in-Some
returns-in-Some c = next_some _ _ _ _ (c.range.ensures.in_range tt) _ _ c.in-Some.ensures.steps

pub returns-in-None : goal.returns-in-None
returns-in-None c = next_none _ _ _ _ (c.range.ensures.in_range tt) c.in-None.ensures.steps.0
