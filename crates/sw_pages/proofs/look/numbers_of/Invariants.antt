use Rattle.std.proofs.Common.{◌≡◌, ◌++◌, drop, filter, map}
use Rattle.sw_pages.specs.Listed.{is_listed}
use Rattle.sw_pages.proofs.look.numbers_of.Given as goal

-- the numbers so far, and those of the rows behind them, are the numbers
abbrev pub invariant-loop-number : goal.invariant-loop-number
invariant-loop-number l =
    l.found.items ++ map (λ row. row.number) (filter (is_listed l.scopes l.key) (drop l.number l.registrations.rows))
    ≡ map (λ row. row.number) (filter (is_listed l.scopes l.key) l.registrations.rows)
