use Rattle.std.proofs.Common.{◌≡◌, ◌-◌, ◌^◌}
use Rattle.sw_rules.specs.Matching.{matches_pair}
use Rattle.sw_caches.specs.Places.{places_up_to}
use Rattle.sw_caches.specs.Entries.{number, pair}
use Rattle.sw_caches.proofs.entries.matching_places.Given as goal

abbrev pub invariant-loop-number : goal.invariant-loop-number
invariant-loop-number l = l.places.items ≡ places_up_to number pair (matches_pair l.query l.options) l.after 0 l.entries

abbrev pub decreases-loop-number : goal.decreases-loop-number
decreases-loop-number l = 2 ^ 64 - l.after
