-- Reading items one after the other, as a loop does.
use Rattle.std.proofs.Common.{◌≡◌, ℕ, suc, ◌-◌, ◌+◌, ◌≤◌, ◌<◌, List, [], ◌∷◌, ◌++◌, Option, Some, None, refl, sym, ap, ◌∙◌, append_assoc, arith}
use Rattle.std.proofs.lemmas.List.{append-nil}
use Rattle.sw_codec.specs.declared.error.Fault.{Fault}
use Rattle.sw_codec.specs.declared.error.Fault.TheVariants as faults
use Rattle.sw_codec.specs.Outcome.{Fails}
use Rattle.sw_codec.specs.Reading.{◌>>=◌, items_at}

-- what was read before, and what is still read
abbrev pub with_front : {A : Type 0} → List A → Option (List A × List ℕ) → Option (List A × List ℕ)
with_front front read = read >>= λ others. Some (front ++ others.0, others.1)

module _ {A : Type 0} (reader : List ℕ → Option (A × List ℕ)) where
  regroup : (front : List A) (one : A) (read : Option (List A × List ℕ)) → with_front front (read >>= λ others. Some (one ∷ others.0, others.1)) ≡ with_front (front ++ one ∷ []) read
  regroup front one (Some others) = ap (λ (items : List A). Some (items, others.1)) (simp append_assoc)
  regroup front one None = refl

  pub goes_on : (front : List A) (count at : ℕ) (bytes : List ℕ) (one : A) (rest : List ℕ) (total : Option (List A × List ℕ)) → at < count → reader bytes ≡ Some (one, rest)
      → with_front front (items_at reader (count - at) bytes) ≡ total → with_front (front ++ one ∷ []) (items_at reader (count - (at + 1)) rest) ≡ total
  unfolding items_at
  goes_on front count at bytes one rest total below is so_far =
      let left : count - at ≡ suc (count - (at + 1)) = omega arith in
      let step : with_front front (items_at reader (count - at) bytes) ≡ with_front (front ++ one ∷ []) (items_at reader (count - (at + 1)) rest) =
      rw (left, is) (regroup front one (items_at reader (count - (at + 1)) rest)) in
      sym step ∙ so_far

  pub fails : (fault : Fault) (front : List A) (count at : ℕ) (bytes : List ℕ) (total : Option (List A × List ℕ)) → at < count → Fails fault (reader bytes)
      → with_front front (items_at reader (count - at) bytes) ≡ total → Fails fault total
  unfolding items_at
  fails faults.NoMemory front count at bytes total below is so_far = tt
  fails faults.Bad front count at bytes total below is so_far =
      let left : count - at ≡ suc (count - (at + 1)) = omega arith in
      let none : with_front front (items_at reader (count - at) bytes) ≡ None = rw (left, is) refl in
      sym so_far ∙ none

  pub is_done : (front : List A) (count at : ℕ) (bytes : List ℕ) (total : Option (List A × List ℕ)) → count ≤ at → with_front front (items_at reader (count - at) bytes) ≡ total → total ≡ Some (front, bytes)
  unfolding items_at
  is_done front count at bytes total past so_far =
      let left : count - at ≡ 0 = omega arith in
      let all : with_front front (items_at reader (count - at) bytes) ≡ Some (front, bytes) = rw left (ap (λ (items : List A). Some (items, bytes)) (append-nil front)) in
      sym so_far ∙ all
