-- What becomes of values of which one is lent (own).
use Rattle.std.specs.Prelude.{ℕ, Option, nat_eq}
use Rattle.std.specs.Borrow.{Fml, Lends, LendsIf, MutBor}
use Rattle.std.specs.Map.{set_value}
use denote.RattleType.{RattleType}
use Rattle.sw_list.specs.contracts.ordered.Ordered.{the_row}
use Rattle.sw_list.specs.Sequence.{Sequence, with_value_at}

-- the last value behind the result stands at the place
abbrev pub LendsValue : (V : RattleType) → ℕ → MutBor (Sequence V.Denot) → MutBor V.Denot → Fml
LendsValue V place lender result =
    Lends (the_row V) V lender result (λ value. record lender.now { entries = with_value_at lender.now.entries place value })

-- the last value behind the result stands under the number
abbrev pub LendsFound : (V : RattleType) → ℕ → MutBor (Sequence V.Denot) → Option (MutBor V.Denot) → Fml
LendsFound V number lender result =
    LendsIf (the_row V) V lender result (λ value. record lender.now { entries = set_value (nat_eq number) lender.now.entries value }) lender.now
