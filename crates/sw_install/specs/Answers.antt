-- The answers of the events (own).
use Rattle.std.specs.Prelude.{Bool, true, false, Option, Some, None, Result, Ok, Err}
use Rattle.sw_data.specs.declared.answers.Answer.{Answer}
use Rattle.sw_data.specs.declared.answers.Answer.TheVariants as answer
use Rattle.sw_install.specs.declared.calls.FetchedAnswer.{FetchedAnswer}
use Rattle.sw_install.specs.declared.calls.FetchedAnswer.TheVariants as fetched
use Rattle.sw_tables.specs.declared.refusal.NotNow.{NotNow}

-- the answer of an evaluation: the worker installs, or its script threw
abbrev pub evaluated_answer : Result Bool NotNow → Option Answer
evaluated_answer (Ok true) = Some answer.Installing
evaluated_answer (Ok false) = Some answer.Threw
evaluated_answer (Err why) = None

-- the answer of the end of an install handler
abbrev pub installed_answer : Result Bool NotNow → Option Answer
installed_answer (Ok true) = Some answer.Ok
installed_answer (Ok false) = Some answer.Failed
installed_answer (Err why) = None

-- the answer of a fetch
abbrev pub fetched_answer : Result FetchedAnswer NotNow → Option Answer
fetched_answer (Ok fetched.Rejected) = Some answer.Rejected
fetched_answer (Ok fetched.Unchanged) = Some answer.Unchanged
fetched_answer (Ok fetched.Changed) = Some answer.Changed
fetched_answer (Err why) = None
