-- Which bytes a crash may leave in one part of a disk in memory.
use Rattle.std.specs.Prelude.{◌≡◌, ℕ, zero, suc, List, [], ◌∷◌, Bool, true, false, length, replicate}

-- own: bytes that a crash may leave of a part that was written or cut since the last sync. There are as many as there
-- are marks, or more, and each has its place's value where the mark says that it isn't in doubt.
abbrev pub HasCertain : List ℕ → List Bool → List ℕ → Type 0
HasCertain bytes [] c = Unit {0}
HasCertain [] (mark ∷ marks) c = ⊥
HasCertain (byte ∷ bytes) (mark ∷ marks) [] = ⊥
HasCertain (byte ∷ bytes) (mark ∷ marks) (x ∷ c) = (mark ≡ false → x ≡ byte) × HasCertain bytes marks c

-- own: bytes that a crash may leave of a part, by whether it was touched since the last sync
abbrev pub Leaves : Bool → List Bool → List ℕ → List ℕ → Type 0
Leaves false marks bytes c = c ≡ bytes
Leaves true marks bytes c = HasCertain bytes marks c

-- own: the marks with n places from one on in doubt besides
abbrev pub marked : ℕ → ℕ → List Bool → List Bool
marked at n [] = []
marked zero zero (mark ∷ marks) = mark ∷ marks
marked zero (suc n) (mark ∷ marks) = true ∷ marked zero n marks
marked (suc at) n (mark ∷ marks) = mark ∷ marked at n marks

-- own: the marks of a part; one that wasn't touched has no byte in doubt
abbrev pub marks_of : Bool → List Bool → List ℕ → List Bool
marks_of false marks bytes = replicate (length bytes) false
marks_of true marks bytes = marks

-- own: what may be left now is exactly what might have been left before, after any step
pub record Exactly {X : Type 0} (step : X → X → Type 0) (before now : X → Type 0) : Type 0 where
  pub nothing_else : (c : X) → now c → (d : X) × before d × step d c
  pub each : (c d : X) → before d → step d c → now c
