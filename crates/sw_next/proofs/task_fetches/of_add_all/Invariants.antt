use Rattle.std.proofs.Common.{◌≡◌, ◌++◌, drop, map}
use Rattle.std.specs.Prelude.{zip}
use Rattle.sw_next.proofs.task_fetches.of_add_all.Given as goal

-- the fetches so far, and those of the requests behind them, are the fetches
abbrev pub invariant-loop-place : goal.invariant-loop-place
invariant-loop-place l =
    l.all.items ++ map (λ drawn. (drawn.0.url, drawn.1)) (zip (drop l.place l.requests) (drop l.place l.fetches))
    ≡ map (λ drawn. (drawn.0.url, drawn.1)) (zip l.requests l.fetches)
