use Rattle.std.proofs.Common.{◌≡◌, ◌+◌, length}
use Rattle.std.specs.Prelude.{option_copied}
use Rattle.std.specs.Option.{option_map_or}
use Rattle.std.specs.List.{list_all}
use Rattle.sw_data.specs.Parts.{parts_left}
use Rattle.sw_match.specs.Left.{agrees}
use Rattle.sw_match.proofs.vary.all_agree.Given as goal

abbrev pub invariant-loop-left : goal.invariant-loop-left
invariant-loop-left l = list_all (agrees l.query l.item) (parts_left 44 (option_copied l.left)) ≡ list_all (agrees l.query l.item) (parts_left 44 (option_copied l.initial.left))

abbrev pub decreases-loop-left : goal.decreases-loop-left
decreases-loop-left l = option_map_or (λ text. length text.now + 1) l.left 0
