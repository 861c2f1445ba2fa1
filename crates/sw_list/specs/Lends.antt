-- What rows end as, where a `&mut` to a value is returned.
use Rattle.std.specs.Prelude.{ℕ}
use Rattle.std.specs.Borrow.{Lends, Fml, RattleType, MutBor}
use Rattle.sw_list.specs.contracts.named.Named as listed
use Rattle.sw_list.specs.Named.{Listing, with_value}

-- the row at a place has the last value written through r, and all else is as before
abbrev pub lends_value : (V : RattleType) → MutBor (Listing V.Denot) → ℕ → MutBor V.Denot → Fml
lends_value V s place r = Lends (listed.the_row V) V s r (λ w. record s.now { rows = with_value place w s.now.rows })
