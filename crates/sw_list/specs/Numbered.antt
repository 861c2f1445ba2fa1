-- Numbered entries and what an index has to say of them.
use Rattle.std.specs.Prelude.{◌≡◌, ℕ, ◌<◌, ◌≤◌, ◌^◌, Bool, true, false, not, List, map, filter, find, Option, length, slice_index_or}
use Rattle.std.specs.List.{All, AllPairs, enumerate_from}
use Rattle.std.specs.BTreeSet.{BTreeSet}
use Rattle.sw_list.specs.declared.marks.Mark.{Mark}
use Rattle.sw_list.specs.Marks.{AreFrom, Slot, has, is_marked}

-- the first item that passes a test, behind its place
abbrev pub first_by : {Y : Type 0} → (Y → Bool) → List Y → Option (ℕ × Y)
first_by test items = find (λ item. test item.1) (enumerate_from 0 items)

-- the items that don't pass a test
abbrev pub without_by : {Y : Type 0} → (Y → Bool) → List Y → List Y
without_by test items = filter (λ item. not (test item)) items

module _ {X : Type 0} (number : X → ℕ) where
  -- each number is below this one
  abbrev pub AllBelow : ℕ → List X → Type 0
  AllBelow top entries = All (λ entry. number entry < top) entries

  -- each number is this one or above it
  abbrev pub AllFrom : ℕ → List X → Type 0
  AllFrom low entries = All (λ entry. low ≤ number entry) entries

  -- the entry of this number is at this place
  abbrev pub StandsAt : List X → ℕ → ℕ → Type 0
  StandsAt entries n place = (place < length entries) × ((d : X) → number (slice_index_or entries place d) ≡ n)

  -- numbers above all are as before
  abbrev pub KeepsAbove : List X → BTreeSet Slot → List X → BTreeSet Slot → Type 0
  KeepsAbove old before new after =
      (n : ℕ) → AllBelow n old → AllBelow n new × ((key : ℕ) → has after key n ≡ has before key n)

module _ {X Y : Type 0} (number : X → ℕ) (item : X → Y) where
  -- a matching entry has a number above this one
  abbrev pub MatchOnlyAbove : (Y → Bool) → List X → ℕ → Type 0
  MatchOnlyAbove test entries low = All (λ entry. test (item entry) ≡ true → low < number entry) entries

  -- no entry of this number matches
  abbrev pub NoneOfNumber : (Y → Bool) → List X → ℕ → Type 0
  NoneOfNumber test entries n = All (λ entry. number entry ≡ n → test (item entry) ≡ false) entries

-- an item has a digest of each of two kinds
module _ {X Y : Type 0} (number : X → ℕ) (item : X → Y) (digest_of : Bool → Y → ℕ) where
  -- an entry's number under the digests of its item
  abbrev pub mark_of : X → Mark
  mark_of entry = record { first = digest_of false (item entry); second = digest_of true (item entry); number = number entry }

  abbrev pub marks_of : List X → List Mark
  marks_of entries = map mark_of entries

  -- the index has nothing but the marks of entries, of numbers below the next one, and from there on marks that were made ahead
  pub record IsTight (entries : List X) (slots : BTreeSet Slot) (next : ℕ) (ahead : List Mark) : Type 0 where
    pub kept : (key n : ℕ) → has slots key n ≡ true → n < next → is_marked (marks_of entries) key n ≡ true
    pub made : (key n : ℕ) → has slots key n ≡ true → next ≤ n → is_marked ahead key n ≡ true
    pub late : AreFrom next ahead

  -- what the index has left it had, and what was a mark of an entry still is one
  abbrev pub DropsMarks : List X → BTreeSet Slot → List X → BTreeSet Slot → Type 0
  DropsMarks old before new after = (key n : ℕ) → has after key n ≡ true
      → (has before key n ≡ true) × (is_marked (marks_of old) key n ≡ true → is_marked (marks_of new) key n ≡ true)

  -- the numbers rise from 1, and the index has each under the digests of its item
  pub record IsIndexed (entries : List X) (slots : BTreeSet Slot) : Type 0 where
    pub rising : AllPairs (λ left right. number left < number right) entries
    pub bounded : All (λ entry. (0 < number entry) × (number entry < 2 ^ 64)) entries
    pub indexed : (kind : Bool) → All (λ entry. has slots (digest_of kind (item entry)) (number entry) ≡ true) entries

  -- what taking out entries that pass a test leaves
  pub record IsThinned (test : Y → Bool) (old : List X) (before : BTreeSet Slot) (new : List X) (after : BTreeSet Slot) : Type 0 where
    pub indexed : IsIndexed new after
    pub others : without_by test (map item new) ≡ without_by test (map item old)
    pub above : KeepsAbove number old before new after
    pub drops : DropsMarks old before new after
