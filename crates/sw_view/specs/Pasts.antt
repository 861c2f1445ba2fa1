-- What two copies have in common, and what a step makes of it (own).
use Rattle.std.specs.Prelude.{◌++◌}
use Rattle.sw_view.specs.declared.shown.Past.{Past}
use Rattle.sw_view.specs.declared.shown.Shown.{Shown}
use Rattle.sw_view.specs.declared.shown.Step.{Step}
use Rattle.sw_view.specs.Moves.{values_of}

-- the content, the entries so far and the moves so far
abbrev pub past_of : Shown → Past
past_of shown = record { base = shown.base.value; seen = shown.after.seen; moves = values_of shown.moves.items }

-- the same after a step
abbrev pub past_after : Past → Step → Past
past_after past step = record { base = past.base; seen = step.after.seen; moves = past.moves ++ step.moves.items }
