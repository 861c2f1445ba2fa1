-- What one list of entries adds to another. `maker` tells the number of the pass that made an entry.
use Rattle.std.specs.Prelude.{◌≡◌, ◌≢◌, ℕ, List, ◌++◌, All}

module _ {E : Type 0} (maker : E → ℕ) where
  -- own: the longer list begins with the shorter one and goes on with entries of this pass only
  abbrev pub ThenOwn : ℕ → List E → List E → Type 0
  ThenOwn number before after = (added : List E) × (after ≡ before ++ added) × All (λ e. maker e ≡ number) added

  -- own: the longer list begins with the shorter one and goes on with entries of other passes only
  abbrev pub ThenOthers : ℕ → List E → List E → Type 0
  ThenOthers number before after = (added : List E) × (after ≡ before ++ added) × All (λ e. maker e ≢ number) added
