use Rattle.std.proofs.Common.{◌≡◌, ◌<◌, ◌+◌, ◌^◌, All, length, map, take}
use Rattle.sw_ledgers.specs.Drawn.{addresses_of, drawn_of}
use Rattle.sw_ledgers.proofs.draws.Draws.all_countable.Given as goal

abbrev pub invariant-loop-request : goal.invariant-loop-request
invariant-loop-request l = record {
  addresses : map (λ own. own.items) l.all.items ≡ addresses_of (take l.request-index l.requests);
  counts : All (λ address. drawn_of l.self.rows address + length l.requests < 2 ^ 32) (map (λ own. own.items) l.all.items);
}
