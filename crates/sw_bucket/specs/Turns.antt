-- The turns of keys: the order in which they are forgotten (own).
use Rattle.std.specs.Prelude.{◌≡◌, ℕ, Bool, not, ◌&&◌, ◌||◌, List, bytes_eq, nat_eq, nat_lt}
use Rattle.std.specs.BTreeSet.{BTreeSet, contains}
use Rattle.std.specs.Cmp.{IsEquivalence, IsTotalOrder, and_equiv, both_tied, nat_cmp_total, nat_eq_equiv, on_equiv, on_total, then_total, unsigned_ties}
use Rattle.std.specs.Cmp.Lexicographic.{nat_list_cmp_total, nat_list_eq_equiv, slice_cmp, texts_ties}
use Rattle.std.specs.declared.cmp.Ordering.{Ordering}
use Rattle.std.specs.List.{list_any}
use Rattle.std.specs.Ordering.{eq_by_cmp, nat_cmp, ordering_then}
use Rattle.sw_data.specs.declared.storage.Kept.{Kept}
use Rattle.sw_sizes.specs.Usage.{usage_of}

-- a key behind its last use
abbrev pub Turn : Type 0
Turn = ℕ × List ℕ

abbrev pub is_turn : Turn → Turn → Bool
is_turn one other = nat_eq one.0 other.0 && bytes_eq one.1 other.1

-- a turn comes before another: its last use is earlier, or is the same and its text is smaller
abbrev pub turn_cmp : Turn → Turn → Ordering
turn_cmp one other = ordering_then (nat_cmp one.0 other.0) (slice_cmp nat_cmp one.1 other.1)

pub turn_equiv : IsEquivalence is_turn
turn_equiv = and_equiv (on_equiv (λ (turn : Turn). turn.0) nat_eq_equiv) (on_equiv (λ (turn : Turn). turn.1) nat_list_eq_equiv)

pub turn_total : IsTotalOrder turn_cmp
turn_total = then_total (on_total (λ (turn : Turn). turn.0) nat_cmp_total) (on_total (λ (turn : Turn). turn.1) nat_list_cmp_total)

pub turn_ties : (one other : Turn) → is_turn one other ≡ eq_by_cmp turn_cmp one other
turn_ties one other =
    both_tied (nat_eq one.0 other.0) (bytes_eq one.1 other.1) (nat_cmp one.0 other.0) (slice_cmp nat_cmp one.1 other.1)
    (unsigned_ties one.0 other.0) (texts_ties one.1 other.1)

-- a turn is among these
abbrev pub has_turn : BTreeSet Turn → Turn → Bool
has_turn turns turn = contains turn_cmp turns turn

-- a key is among these
abbrev pub is_among : List ℕ → List (List ℕ) → Bool
is_among key keys = list_any (bytes_eq key) keys

-- the keys with usage in a content have these turns, each by its last use, and no other key has one
abbrev pub AreTurns : (List ℕ → ℕ) → Kept → BTreeSet Turn → Type 0
AreTurns last kept turns =
    (at : ℕ) (key : List ℕ) → has_turn turns (at, key) ≡ (nat_lt 0 (usage_of key kept) && nat_eq at (last key))

-- those of these keys that have usage in a content have got the turns of their last uses, and other turns are as before
abbrev pub GetTurns : List (List ℕ) → (List ℕ → ℕ) → Kept → BTreeSet Turn → BTreeSet Turn → Type 0
GetTurns keys last kept old new =
    (at : ℕ) (key : List ℕ)
    → has_turn new (at, key)
    ≡ ((is_among key keys && (nat_lt 0 (usage_of key kept) && nat_eq at (last key))) || has_turn old (at, key))

-- these keys have lost the turns of their last uses, and other turns are as before
abbrev pub LoseTurns : List (List ℕ) → (List ℕ → ℕ) → BTreeSet Turn → BTreeSet Turn → Type 0
LoseTurns keys last old new =
    (at : ℕ) (key : List ℕ)
    → has_turn new (at, key) ≡ (not (is_among key keys && nat_eq at (last key)) && has_turn old (at, key))
