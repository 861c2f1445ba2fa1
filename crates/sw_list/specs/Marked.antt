-- Flags by number, and for how many more there is room.
use Rattle.std.specs.Prelude.{ℕ, Bool, List}

-- own: the flags in order, and for how many more there is room
pub record Marked : Type 0 where
  pub flags : List Bool
  pub spare : ℕ
