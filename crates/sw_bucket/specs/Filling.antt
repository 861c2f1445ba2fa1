-- What a bucket knows of a host (own).
use Rattle.std.specs.Prelude.{◌≡◌, ℕ, List}
use Rattle.std.specs.BTreeSet.{BTreeSet}
use Rattle.sw_data.specs.declared.histories.Entry.{Entry}
use Rattle.sw_data.specs.declared.storage.Kept.{Kept}
use Rattle.sw_rules.specs.Durable.{durable}
use Rattle.sw_rules.specs.History.{Legal, after}
use Rattle.sw_rules.specs.State.{State}
use Rattle.sw_bucket.specs.Noted.{IsNotedOf, Noted, last_noted}
use Rattle.sw_bucket.specs.Turns.{AreTurns, GetTurns, Turn}
use Rattle.sw_sizes.specs.Rows.{ArePartsOf, Row}
use Rattle.sw_sizes.specs.Usage.{usage}

-- the limit, the usage, the sizes of the registrations, what is noted for the last uses, and the turns of the keys
pub record Filled : Type 0 where
  pub limit : ℕ
  pub used : ℕ
  pub rows : List Row
  pub noted : Noted
  pub turns : BTreeSet Turn

-- a bucket has the usage of a state, the sizes of what is kept of it, and the turns of its keys
pub record IsFull (state : State) (bucket : Filled) : Type 0 where
  pub used : bucket.used ≡ usage (durable state)
  pub sizes : ArePartsOf (durable state) bucket.rows
  pub turns : AreTurns (last_noted bucket.noted) (durable state) bucket.turns

-- a history was noted in a bucket
pub record IsFilled (base : Kept) (history : List Entry) (bucket : Filled) : Type 0 where
  pub legal : Legal base history
  pub noted : IsNotedOf base history bucket.noted
  pub full : IsFull (after base history) bucket

-- where a bucket has the sizes of what is kept of a state, this is the usage of the state, and these keys have got their turns
abbrev pub FillsIn : State → List (List ℕ) → Filled → ℕ → BTreeSet Turn → Type 0
FillsIn state keys bucket used turns =
    ArePartsOf (durable state) bucket.rows
    → (used ≡ usage (durable state)) × GetTurns keys (last_noted bucket.noted) (durable state) bucket.turns turns
