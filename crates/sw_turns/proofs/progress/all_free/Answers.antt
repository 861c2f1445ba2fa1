-- One more has taken up nothing.
use Rattle.std.proofs.Common.{◌∙◌, List, Option, None, [], ◌∷◌, ◌++◌, ap}
use Rattle.std.proofs.lemmas.List.{replicate_more}
use Rattle.sw_data.specs.declared.histories.Task.{Task}
use Rattle.sw_turns.proofs.progress.all_free.Goals as goal

pub loop-preserved : goal.loop-preserved
loop-preserved c =
    c.in_ok-push.ensures.items ∙ ap (λ (flights : List (Option Task)). flights ++ None ∷ []) c.loop.invariant ∙ replicate_more c.loop.counter None
