-- How a disk behaves: what its calls do to what reads give, and what a crash may leave between two syncs.
use Rattle.std.specs.Prelude.{◌≡◌, ◌⊎◌, ◌<◌, ◌≤◌, ◌+◌, ◌-◌, ◌^◌, ℕ, min, max, List, ◌++◌, length, take, drop, Option, Some, None, Result, Ok, Err, IsErr}
use Rattle.sw_disk.specs.declared.part.Part.{Part}
use Rattle.sw_data.specs.Faults.{Rose}
use Rattle.sw_disk.specs.Image.{Image, get, put}

-- own: where a disk tells what reads give, that has P
abbrev pub ForTold : Option Image → (Image → Type 0) → Type 0
ForTold None P = Unit {0}
ForTold (Some image) P = P image

-- own: a disk that told what reads give tells it afterwards, and the two are in relation; one that didn't doesn't
abbrev pub BothTold : Option Image → Option Image → (Image → Image → Type 0) → Type 0
BothTold None None R = Unit {0}
BothTold (Some old) (Some new) R = R old new
BothTold None (Some new) R = ⊥
BothTold (Some old) None R = ⊥

-- own: a step of one part, that leaves the other two alone
pub record OnPart (part : Part) (step : List ℕ → List ℕ → Type 0) (old new : Image) : Type 0 where
  pub here : step (get part old) (get part new)
  pub elsewhere : new ≡ put part (get part new) old

-- own: the bytes of a part are changed so, and the other two parts are left alone
abbrev pub Puts : Part → (List ℕ → List ℕ) → Image → Image → Type 0
Puts part change old new = new ≡ put part (change (get part old)) old

-- own: the bytes of a part with these bytes written over them from a place on
abbrev pub written : ℕ → List ℕ → List ℕ → List ℕ
written at bytes old = take at old ++ bytes ++ drop (at + length bytes) old

-- own: what reads give of a part after a write of n bytes that failed: any bytes in the range, the rest as it was
pub record FailedWrite (at n : ℕ) (old new : List ℕ) : Type 0 where
  pub before : take at new ≡ take at old
  pub behind : drop (at + n) new ≡ drop (at + n) old
  pub no_shorter : length old ≤ length new
  pub no_longer : length new ≤ max (length old) (at + n)

-- own: what reads give of a part after a cut that failed: some length between the two
pub record FailedCut (len : ℕ) (old new : List ℕ) : Type 0 where
  pub no_shorter : len ≤ length new
  pub front : new ≡ take (length new) old

-- own: what a crash may make of a part by a write of n bytes, until a sync answers Ok: any bytes in the range, and
-- any bytes from the old end on, as many as may be; below the old end and outside of the range the same bytes
pub record Torn (end at n : ℕ) (old new : List ℕ) : Type 0 where
  pub before : take at new ≡ take at old
  pub behind : take (end - (at + n)) (drop (at + n) new) ≡ take (end - (at + n)) (drop (at + n) old)
  pub no_shorter : min end (length old) ≤ length new

-- own: what a crash may make of a part by a cut, until a sync answers Ok: any bytes from the cut on, or none
abbrev pub PendingCut : ℕ → List ℕ → List ℕ → Type 0
PendingCut len old new = take len new ≡ take len old

-- own: an image that comes, by such a step, from one that a crash might have left before
abbrev pub Stepped : (Image → Image → Type 0) → (Image → Type 0) → Image → Type 0
Stepped step before c = (d : Image) × before d × step d c

-- own: each image that a crash may leave now comes, by such a step, from one that it might have left before
abbrev pub EachStepped : (Image → Image → Type 0) → (Image → Type 0) → (Image → Type 0) → Type 0
EachStepped step before now = (c : Image) → now c → Stepped step before c

-- own: a write of n bytes of a part, torn, where reads gave this image
abbrev pub TornWrite : Part → (at n : ℕ) → Image → Image → Image → Type 0
TornWrite part at n image = OnPart part (Torn (length (get part image)) at n)

-- own: each image of the first kind is one of the second
abbrev pub Within : (Image → Type 0) → (Image → Type 0) → Type 0
Within few many = (c : Image) → few c → many c

-- own: a crash leaves this image and no other
abbrev pub Only : Image → (Image → Type 0) → Type 0
Only image may_leave = (c : Image) → may_leave c → c ≡ image

-- own: a count, which stays at its type's end
abbrev pub capped : ℕ → ℕ
capped n = min n (2 ^ 64 - 1)

-- own: the count of faults after a call of which each fault is counted once
abbrev pub faults_after : {T E : Type 0} → Result T E → ℕ → ℕ
faults_after (Ok value) before = before
faults_after (Err error) before = capped (before + 1)

-- own: the count of faults never falls, and a call answers its fault only where the count rose, or stands at its
-- type's end
pub record HasCause {T E : Type 0} (before now : ℕ) (result : Result T E) : Type 0 where
  pub later : before ≤ now
  pub failed : IsErr result → Rose before now

-- own: one call by the clock, which stands still at its type's end. A crash since t, where t isn't past the call's
-- entry, may have left what it might have left already at the entry, or what a crash at the exit may leave.
pub record Elapses {D : Type 0} (clock : D → ℕ) (left_since : D → ℕ → Image → Type 0) (may_leave : D → Image → Type 0) (old new : D) : Type 0 where
  pub ticks : clock new ≡ capped (clock old + 1)
  pub later : clock old ≤ clock new
  pub nothing_else : (t : ℕ) (c : Image) → t ≤ clock old → left_since new t c → left_since old t c ⊎ may_leave new c

-- own: a read of a part from a place on gave its first n bytes there, at least one where there are any
pub record ReadsAt (bytes : List ℕ) (at : ℕ) (into : List ℕ) (n : ℕ) : Type 0 where
  pub given : take n into ≡ take n (drop at bytes)
  pub within : n ≤ length (drop at bytes)
  pub some : 0 < length into → 0 < length (drop at bytes) → 0 < n
