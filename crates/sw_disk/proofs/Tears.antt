-- What a torn write leaves of a part, for the callers of a disk.
use Rattle.std.proofs.Common.{◌≡◌, ◌≢◌, ◌≤◌, ◌+◌, ◌-◌, ℕ, List, ◌++◌, length, take, drop, sym, ◌∙◌, ap, refl, arith, length-take, length-drop, take-append-drop}
use Rattle.std.proofs.lemmas.List.{take_all, drop-drop}
use Rattle.sw_disk.specs.declared.part.Part.{Part}
use Rattle.sw_disk.specs.declared.part.Part.TheVariants.{Root, Left, Right}
use Rattle.sw_disk.specs.Image.{Image, get}
use Rattle.sw_disk.specs.DiskRule.{Torn, OnPart}

-- a step of one part leaves the others alone
pub other_part : (part other : Part) (step : List ℕ → List ℕ → Type 0) (old new : Image) → part ≢ other → OnPart part step old new → get other new ≡ get other old
other_part Root Root step old new differs on = absurd (differs refl)
other_part Root Left step old new differs on = ap (get Left) on.elsewhere
other_part Root Right step old new differs on = ap (get Right) on.elsewhere
other_part Left Root step old new differs on = ap (get Root) on.elsewhere
other_part Left Left step old new differs on = absurd (differs refl)
other_part Left Right step old new differs on = ap (get Right) on.elsewhere
other_part Right Root step old new differs on = ap (get Root) on.elsewhere
other_part Right Left step old new differs on = ap (get Left) on.elsewhere
other_part Right Right step old new differs on = absurd (differs refl)

-- a write that reaches the old end: what was before it, and anything behind
pub torn_end : (at n : ℕ) (old new : List ℕ) → Torn (length old) at n old new → new ≡ take at old ++ drop at new
torn_end at n old new torn = sym (take-append-drop at new) ∙ ap (λ front. front ++ drop at new) torn.before

-- a write within the part: what was before it, n bytes of any kind, what was behind it, and anything past the old end
pub record TornWithin (at n : ℕ) (old new : List ℕ) : Type 0 where
  pub range : List ℕ
  pub past : List ℕ
  pub size : length range ≡ n
  pub whole : new ≡ take at old ++ (range ++ (drop (at + n) old ++ past))

pub torn_within : (at n : ℕ) (old new : List ℕ) → at + n ≤ length old → Torn (length old) at n old new → TornWithin at n old new
torn_within at n old new fits torn =
    let rest = length old - (at + n) in
    let long : length old ≤ length new = omega (arith, torn.no_shorter) in
    let behind : take rest (drop (at + n) new) ≡ drop (at + n) old = torn.behind ∙ take_all rest (drop (at + n) old) (omega (arith, length-drop (at + n) old)) in
    let tail : drop n (drop at new) ≡ drop (at + n) old ++ drop rest (drop (at + n) new) =
    drop-drop n at new ∙ (sym (take-append-drop rest (drop (at + n) new)) ∙ ap (λ front. front ++ drop rest (drop (at + n) new)) behind) in
    record {
      range = take n (drop at new);
      past = drop rest (drop (at + n) new);
      size = omega (arith, length-take n (drop at new), length-drop at new);
      whole = torn_end at n old new torn ∙ ap (λ back. take at old ++ back) (sym (take-append-drop n (drop at new)) ∙ ap (λ back. take n (drop at new) ++ back) tail);
    }
