-- The marks of a part of a disk in memory.
use Rattle.std.proofs.Common.{◌≡◌, ◌+◌, ◌-◌, min, ℕ, zero, suc, List, [], ◌∷◌, ◌++◌, Bool, true, length, take, drop, replicate, refl, ◌∙◌, ap, arith}
use Rattle.sw_disk.specs.Doubts.{marked}

-- the marks, by the places before the range, those in it and those behind it
marked_parts : (at n from to : ℕ) (marks : List Bool) → from ≡ min at (length marks) → to ≡ min (at + n) (length marks)
    → take from marks ++ replicate (to - from) true ++ drop to marks ≡ marked at n marks
marked_parts at n zero zero [] first last = refl
marked_parts at n zero (suc to) [] first last = absurd (omega (arith, last))
marked_parts at n (suc from) to [] first last = absurd (omega (arith, first))
marked_parts zero zero zero zero (mark ∷ marks) first last = refl
marked_parts zero zero zero (suc to) (mark ∷ marks) first last = absurd (omega (arith, last))
marked_parts zero n (suc from) to (mark ∷ marks) first last = absurd (omega (arith, first))
marked_parts zero (suc n) zero zero (mark ∷ marks) first last = absurd (omega (arith, last))
marked_parts zero (suc n) zero (suc to) (mark ∷ marks) first last =
    let less : suc to - 0 ≡ suc (to - 0) = omega arith in
    ap (λ k. replicate k true ++ drop to marks) less ∙ ap (λ l. true ∷ l) (marked_parts zero n zero to marks (omega arith) (omega (arith, last)))
marked_parts (suc at) n zero to (mark ∷ marks) first last = absurd (omega (arith, first))
marked_parts (suc at) n (suc from) zero (mark ∷ marks) first last = absurd (omega (arith, first, last))
marked_parts (suc at) n (suc from) (suc to) (mark ∷ marks) first last =
    let less : suc to - suc from ≡ to - from = omega arith in
    ap (λ k. (mark ∷ take from marks) ++ replicate k true ++ drop to marks) less ∙ ap (λ l. mark ∷ l) (marked_parts at n from to marks (omega (arith, first)) (omega (arith, last)))

pub marked_split : (at n : ℕ) (marks : List Bool)
    → take (min at (length marks)) marks ++ replicate (min (at + n) (length marks) - min at (length marks)) true ++ drop (min (at + n) (length marks)) marks ≡ marked at n marks
marked_split at n marks = marked_parts at n (min at (length marks)) (min (at + n) (length marks)) marks refl refl

-- there are as many
pub length-marked : (at n : ℕ) (marks : List Bool) → length (marked at n marks) ≡ length marks
length-marked at n [] = refl
length-marked zero zero (mark ∷ marks) = refl
length-marked zero (suc n) (mark ∷ marks) = ap suc (length-marked zero n marks)
length-marked (suc at) n (mark ∷ marks) = ap suc (length-marked at n marks)
