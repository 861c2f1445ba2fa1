-- What the lines from here on are read as is what all lines are read as.
use Rattle.std.proofs.Common.{◌≡◌, ◌+◌, length}
use Rattle.std.specs.Prelude.{option_copied}
use Rattle.std.specs.Option.{option_map_or}
use Rattle.sw_data.specs.Parts.{parts_left}
use Rattle.sw_record.specs.Grammar.{lines_from}
use Rattle.sw_record.proofs.lines.read_lines.Given as goal

abbrev pub invariant-loop-left : goal.invariant-loop-left
invariant-loop-left g l =
    lines_from g.R.FromLines.reads l.so_far (l.number + 1) (parts_left 10 (option_copied l.left))
    ≡ lines_from g.R.FromLines.reads l.initial.so_far 1 (parts_left 10 (option_copied l.initial.left))

abbrev pub decreases-loop-left : goal.decreases-loop-left
decreases-loop-left g l = option_map_or (λ text. length text.now + 1) l.left 0
