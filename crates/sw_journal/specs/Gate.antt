-- What a part's bytes become while a record is written behind its closed gate and the gate is opened.
use Rattle.std.specs.Prelude.{◌≡◌, ◌⊎◌, ◌+◌, ℕ, List, ◌∷◌, ◌++◌, take, drop}

-- own: all bytes before the gate stay, some byte stands as the gate, and this record is whole behind it
pub record HasBehind (gate : ℕ) (bytes : List ℕ) (old new : List ℕ) : Type 0 where
  pub front : take gate new ≡ take gate old
  pub byte : ℕ
  pub rest : List ℕ
  pub behind : drop gate new ≡ byte ∷ (bytes ++ rest)

-- own: the gate and all before it stay, or the record is whole behind the gate
abbrev pub IsTornRecord : ℕ → List ℕ → List ℕ → List ℕ → Type 0
IsTornRecord gate bytes old new = (take (gate + 1) new ≡ take (gate + 1) old) ⊎ HasBehind gate bytes old new
