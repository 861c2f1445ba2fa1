use Rattle.std.proofs.Common.{◌≡◌, ◌++◌, drop, filter, map}
use Rattle.std.specs.List.{enumerate_from}
use Rattle.sw_rules.specs.Matching.{matches_pair}
use Rattle.sw_match.proofs.matching.query.Given as goal

-- the places so far and those that match behind them are the places that match
abbrev pub invariant-loop-place : goal.invariant-loop-place
invariant-loop-place l =
    l.places.items ++ map (λ item. item.0) (filter (λ item. matches_pair l.query l.options item.1) (enumerate_from l.place (drop l.place l.pairs)))
    ≡ map (λ item. item.0) (filter (λ item. matches_pair l.query l.options item.1) (enumerate_from 0 l.pairs))
