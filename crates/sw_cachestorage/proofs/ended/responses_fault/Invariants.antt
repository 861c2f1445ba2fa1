-- The responses so far are good.
use Rattle.std.proofs.Common.{◌≡◌, drop}
use Rattle.sw_rules.specs.Caching.{responses_fault}
use Rattle.sw_cachestorage.proofs.ended.responses_fault.Given as goal

abbrev pub invariant-loop-place : goal.invariant-loop-place
invariant-loop-place l =
    responses_fault 0 l.requests l.lines ≡ responses_fault l.place (drop l.place l.requests) (drop l.place l.lines)
