-- A text of five pieces.
use Rattle.std.proofs.Common.{◌≡◌, ◌++◌, List, ℕ, refl, append_assoc}

pub pieces : (first second third fourth fifth : List ℕ) → first ++ (second ++ (third ++ (fourth ++ fifth))) ≡ first ++ second ++ third ++ fourth ++ fifth
pieces first second third fourth fifth = simp append_assoc refl
