use Rattle.sw_url.proofs.AgainLemmas.{again_answer}
use Rattle.sw_url.proofs.address.scope_url.Goals as goal

pub returns-in-Some-clause-again : goal.returns-in-Some-clause-again
returns-in-Some-clause-again c = again_answer c.accepted.result _ c.accepted.ensures.answer c.accepted.ensures.parses

pub returns-in-None-clause-again : goal.returns-in-None-clause-again
returns-in-None-clause-again c =
    again_answer c.accepted-in-None.result _ c.accepted-in-None.ensures.answer c.accepted-in-None.ensures.parses
