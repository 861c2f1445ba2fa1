-- The entries of a cache: its pairs, each behind its number.
use Rattle.std.specs.Prelude.{ℕ, Bool, List, map}
use Rattle.std.specs.BTreeSet.{BTreeSet}
use Rattle.sw_rules.specs.Matching.{Pair}
use Rattle.sw_caches.specs.declared.entry.Entry.{Entry}
use Rattle.sw_list.specs.declared.marks.Mark.{Mark}
use Rattle.sw_list.specs.Marks.{Slot}
use Rattle.sw_caches.specs.Slots.{address_digest}
use Rattle.sw_list.specs.Numbered.{DropsMarks, IsIndexed, IsTight, marks_of}

abbrev pub number : Entry → ℕ
number entry = entry.number

abbrev pub pair : Entry → Pair
pair entry = entry.pair.value

-- the pairs of entries, in order
abbrev pub pairs : List Entry → List Pair
pairs entries = map pair entries

-- what a pair is found by
abbrev pub pair_digest : Bool → Pair → ℕ
pair_digest kind item = address_digest kind item.0.url

-- the index finds each of these entries
abbrev pub AreIndexed : List Entry → BTreeSet Slot → Type 0
AreIndexed entries slots = IsIndexed number pair pair_digest entries slots

-- the marks of entries
abbrev pub marks : List Entry → List Mark
marks entries = marks_of number pair pair_digest entries

-- the index has no mark but those of the entries, and those made ahead
abbrev pub AreTight : List Entry → BTreeSet Slot → ℕ → List Mark → Type 0
AreTight entries slots next ahead = IsTight number pair pair_digest entries slots next ahead

abbrev pub DropMarks : List Entry → BTreeSet Slot → List Entry → BTreeSet Slot → Type 0
DropMarks old before new after = DropsMarks number pair pair_digest old before new after
