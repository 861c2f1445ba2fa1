-- What becomes of values of which one is lent (own).
use Rattle.std.specs.Prelude.{ℕ, Some}
use Rattle.std.specs.Borrow.{Fml, Lends, MutBor}
use denote.RattleType.{RattleType}
use Rattle.sw_list.specs.contracts.numbered.Numbered.{the_row}
use Rattle.sw_list.specs.contracts.slots.Slot as slot
use Rattle.sw_list.specs.declared.slots.Slot.{Slot}
use Rattle.sw_list.specs.Numbers.{Numbers, with_value_at}

-- the last value behind the result stands at the place
abbrev pub LendsValue : (V : RattleType) → ℕ → MutBor (Numbers V.Denot) → MutBor V.Denot → Fml
LendsValue V place lender result =
    Lends (the_row V) V lender result (λ value. record lender.now { rows = with_value_at lender.now.rows place value })

-- the last value behind the result is that of the slot
abbrev pub LendsSlot : (V : RattleType) → MutBor (Slot V.Denot) → MutBor V.Denot → Fml
LendsSlot V lender result = Lends (slot.the_row V) V lender result (λ value. record lender.now { value = Some value })
