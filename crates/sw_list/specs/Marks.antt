-- An index: numbers behind digests.
use Rattle.std.specs.Prelude.{◌≡◌, ℕ, ◌<◌, ◌≤◌, ◌*◌, ◌%◌, ◌^◌, ◌&&◌, ◌||◌, nat_eq, Bool, true, false, List, fold, bit_xor}
use Rattle.std.specs.List.{All, list_any}
use Rattle.std.specs.Ordering.{nat_cmp, ordering_then}
use Rattle.std.specs.declared.cmp.Ordering.{Ordering}
use Rattle.std.specs.BTreeSet.{BTreeSet, contains}
use Rattle.sw_list.specs.declared.marks.Mark.{Mark}

-- a digest and a number
abbrev pub Slot : Type 0
Slot = ℕ × ℕ

-- the order of slots
abbrev pub slot_cmp : Slot → Slot → Ordering
slot_cmp left right = ordering_then (nat_cmp left.0 right.0) (nat_cmp left.1 right.1)

-- the index has this number under this digest
abbrev pub has : BTreeSet Slot → ℕ → ℕ → Bool
has slots key number = contains slot_cmp slots (key, number)

-- a number stands under a digest by this mark
abbrev pub is_under : Mark → ℕ → ℕ → Bool
is_under mark key n = (nat_eq key mark.first || nat_eq key mark.second) && nat_eq n mark.number

-- a number stands under a digest by one of these marks
abbrev pub is_marked : List Mark → ℕ → ℕ → Bool
is_marked marks key n = list_any (λ mark. is_under mark key n) marks

-- each mark has this number or one above it
abbrev pub AreFrom : ℕ → List Mark → Type 0
AreFrom low marks = All (λ mark. low ≤ mark.number) marks

-- one more byte in a digest
abbrev pub mixed : ℕ → ℕ → ℕ
mixed sum byte = bit_xor sum byte * 1099511628211 % 2 ^ 64

-- a number of 64 bits made of bytes (FNV-1a)
unfoldable pub digest : List ℕ → ℕ
digest bytes = fold mixed 14695981039346656037 bytes

-- no number of the index between two
abbrev pub NoneBetween : BTreeSet Slot → ℕ → ℕ → ℕ → Type 0
NoneBetween slots key low high = (n : ℕ) → low < n → n < high → has slots key n ≡ false

-- the index has at least what it had
abbrev pub KeepsSlots : BTreeSet Slot → BTreeSet Slot → Type 0
KeepsSlots before after = (key n : ℕ) → has before key n ≡ true → has after key n ≡ true

-- the index has what it had under other numbers
abbrev pub KeepsOthers : ℕ → BTreeSet Slot → BTreeSet Slot → Type 0
KeepsOthers number before after = (key n : ℕ) → (n ≡ number → ⊥) → has after key n ≡ has before key n

-- the index has what it had under numbers below this one
abbrev pub KeepsBelow : ℕ → BTreeSet Slot → BTreeSet Slot → Type 0
KeepsBelow top before after = (key n : ℕ) → n < top → has after key n ≡ has before key n

-- the index has this number under no digest
abbrev pub IsFree : ℕ → BTreeSet Slot → Type 0
IsFree number slots = (key : ℕ) → has slots key number ≡ false

-- what the index has more is this mark
abbrev pub OnlyAdds : Mark → BTreeSet Slot → BTreeSet Slot → Type 0
OnlyAdds mark before after = (key n : ℕ) → has after key n ≡ true → has before key n ≡ false → is_under mark key n ≡ true

-- the index has lost these marks
abbrev pub HasLost : List Mark → BTreeSet Slot → Type 0
HasLost marks slots = (key n : ℕ) → is_marked marks key n ≡ true → has slots key n ≡ false
