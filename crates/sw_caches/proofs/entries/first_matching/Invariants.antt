use Rattle.std.proofs.Common.{◌-◌, ◌^◌}
use Rattle.sw_rules.specs.Matching.{matches_pair}
use Rattle.sw_list.specs.Numbered.{MatchOnlyAbove}
use Rattle.sw_caches.specs.Entries.{number, pair}
use Rattle.sw_caches.proofs.entries.first_matching.Given as goal

abbrev pub invariant-loop-number : goal.invariant-loop-number
invariant-loop-number l = MatchOnlyAbove number pair (matches_pair l.query l.options) l.entries l.after

abbrev pub decreases-loop-number : goal.decreases-loop-number
decreases-loop-number l = 2 ^ 64 - l.after
