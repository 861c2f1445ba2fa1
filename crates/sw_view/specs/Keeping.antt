-- The rule of the readers beside the publisher, and what its steps tell (own).
use Rattle.std.specs.Prelude.{◌≡◌, ℕ, List, Some, None}
use mathlib.Core.Option.{some}
use lib.ListN.{get_elem?}
use Rattle.sw_view.specs.declared.knowing.Known.{Known}
use Rattle.sw_view.specs.declared.knowing.Origin.{Origin}
use Rattle.sw_view.specs.declared.shown.Shown.{Shown}
use Rattle.sw_view.specs.Mapped.{mapped_after}
use Rattle.sw_view.specs.Moves.{AreMoves, nothing, values_of}

-- the moves so far lead to the map after the entries so far
abbrev pub LeadsToMap : Shown → Type 0
LeadsToMap shown = AreMoves nothing (values_of shown.moves.items) (mapped_after shown.base.value shown.after.seen.log)

-- what is shown is of this view
pub record IsOf (origin : Origin) (shown : Shown) : Type 0 where
  pub base : origin.base ≡ shown.base.value
  pub book : origin.seen.book ≡ shown.after.seen.book

-- who knows a view knows that of what is shown
abbrev pub Knows : Shown → Known → Type 0
Knows shown known = (origin : Origin) → known.origin ≡ Some origin → IsOf origin shown

-- the rule
pub record HoldsRule (shown : Shown) (views : List Known) : Type 0 where
  pub tells : LeadsToMap shown
  pub each : (seat : ℕ) (known : Known) → get_elem? views seat ≡ some known → Knows shown known

-- knows no view
abbrev pub newcomer : Known
newcomer = record { origin = None }

-- the view of what is shown
abbrev pub origin_of : Shown → Origin
origin_of shown = record { base = shown.base.value; seen = shown.after.seen }

-- after publishing the publisher knows the view of what is shown
abbrev pub HasPublished : Known → Shown → Shown → Known → Type 0
HasPublished known old new known_then = known_then.origin ≡ Some (origin_of new)

-- a read tells that what is shown is right, and of the view that the reader knows
abbrev pub HasRead : Known → Shown → Shown → Known → Type 0
HasRead known shown left known_then = (known_then ≡ known) × LeadsToMap shown × Knows shown known
