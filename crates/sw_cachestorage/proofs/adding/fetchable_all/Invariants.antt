-- The requests so far are good, and what is left comes to the rest.
use Rattle.std.proofs.Common.{◌≡◌, drop}
use Rattle.sw_rules.specs.Caching.{fetchable_all}
use Rattle.sw_cachestorage.proofs.AddingLemmas.{behind}
use Rattle.sw_cachestorage.proofs.adding.fetchable_all.Given as goal

abbrev pub invariant-loop-request : goal.invariant-loop-request
invariant-loop-request l =
    fetchable_all l.base l.requests ≡ behind l.all (fetchable_all l.base (drop l.request-index l.requests))
