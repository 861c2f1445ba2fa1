use Rattle.std.proofs.Common.{◌≡◌, map, filter, fold, take, None, option_map}
use Rattle.sw_rules.specs.Matching.{holds_address, longer}
use Rattle.sw_scope.specs.Scopes.{as_scope, sized}
use Rattle.sw_scope.proofs.plain_scan.scan.Given as goal

abbrev pub invariant-loop-own : goal.invariant-loop-own
invariant-loop-own l =
    l.best ≡ option_map sized (fold longer None (filter (holds_address l.key l.address) (map as_scope (take l.own-index l.scopes))))
