-- Reading changes one after the other, as a loop does.
use Rattle.std.proofs.Common.{◌≡◌, ℕ, zero, suc, ◌+◌, ◌-◌, ◌≤◌, ◌<◌, Bool, true, false, cond, eqb, List, [], ◌∷◌, ◌++◌, length, Some, None, Result, Ok, Err, refl, sym, ap, ◌∙◌, append_assoc, arith, length-append}
use Rattle.sw_data.specs.declared.storage.Change.{Change}
use Rattle.sw_codec.specs.Laws.{AreBytes}
use Rattle.sw_codec.specs.Reading.{change_at, preceded, changes_within, read_changes}
use Rattle.sw_codec.specs.Spelling.{change_spelling}
use Rattle.sw_codec.proofs.Changes.{change-takes, change-long}
use Rattle.sw_codec.proofs.LawLemmas.{next_is}

-- these changes were read of all bytes, and this is left
pub record Reads (bytes : List ℕ) (changes : List Change) (rest : List ℕ) : Type 0 where
  pub steps : ℕ
  pub enough : length rest ≤ steps
  pub inside : length rest ≤ length bytes
  pub fits : AreBytes rest
  pub so_far : preceded changes (changes_within steps (length bytes - length rest) rest) ≡ read_changes bytes

preceded_nil : (read : Result (List Change) ℕ) → preceded [] read ≡ read
preceded_nil (Ok changes) = refl
preceded_nil (Err offset) = refl

preceded_more : (front : List Change) (one : Change) (read : Result (List Change) ℕ) → preceded front (preceded (one ∷ []) read) ≡ preceded (front ++ one ∷ []) read
preceded_more front one (Ok changes) = ap (λ (l : List Change). Ok l) (sym (append_assoc front (one ∷ []) changes))
preceded_more front one (Err offset) = refl

-- before the first
pub begins : (bytes : List ℕ) → AreBytes bytes → Reads bytes [] bytes
unfolding read_changes
begins bytes fits = record {
  steps = length bytes;
  enough = omega arith;
  inside = omega arith;
  fits = fits;
  so_far = preceded_nil (changes_within (length bytes) (length bytes - length bytes) bytes) ∙ ap (λ (offset : ℕ). changes_within (length bytes) offset bytes) (omega arith);
}

pub shorter : (bytes : List ℕ) (change : Change) (rest : List ℕ) → AreBytes bytes → change_at bytes ≡ Some (change, rest) → length rest < length bytes
shorter bytes change rest fits is =
    let t = change-takes bytes change rest fits is in
    omega (arith, ap length t.0.parts, length-append (change_spelling change) rest, change-long change)

bad_by : (steps offset : ℕ) (bytes : List ℕ) → change_at bytes ≡ None → changes_within steps offset bytes ≡ Err offset
unfolding changes_within
bad_by zero offset bytes none = refl
bad_by (suc steps) offset bytes none = next_is steps offset bytes None none

module _ (bytes : List ℕ) (changes : List Change) (rest : List ℕ) (reads : Reads bytes changes rest) where
  -- no change is in front
  pub bad : change_at rest ≡ None → read_changes bytes ≡ Err (length bytes - length rest)
  bad none = sym reads.so_far ∙ ap (preceded changes) (bad_by reads.steps (length bytes - length rest) rest none)

  module _ (change : Change) (after : List ℕ) (is : change_at rest ≡ Some (change, after)) where
    step : (test : Bool) → eqb (length after) 0 ≡ test → (steps : ℕ) → reads.steps ≡ suc steps
        → preceded changes (cond test (Ok (change ∷ [])) (preceded (change ∷ []) (changes_within steps (length bytes - length rest + (length rest - length after)) after))) ≡ read_changes bytes
    step test ended steps count =
        ap (λ (t : Bool). preceded changes (cond t (Ok (change ∷ [])) (preceded (change ∷ []) (changes_within steps (length bytes - length rest + (length rest - length after)) after)))) (sym ended)
        ∙ ap (preceded changes) (sym (next_is steps (length bytes - length rest) rest (Some (change, after)) is))
        ∙ ap (λ (n : ℕ). preceded changes (changes_within n (length bytes - length rest) rest)) (sym count)
        ∙ reads.so_far

    fewer : (steps : ℕ) × (reads.steps ≡ suc steps)
    fewer = (reads.steps - 1, omega (arith, reads.enough, shorter rest change after reads.fits is))

    -- a change is in front, and the last
    pub last : eqb (length after) 0 ≡ true → read_changes bytes ≡ Ok (changes ++ change ∷ [])
    last ended = sym (step true ended fewer.0 fewer.1)

    -- a change is in front, and more behind it
    pub more : eqb (length after) 0 ≡ false → Reads bytes (changes ++ change ∷ []) after
    more ended =
        let less = shorter rest change after reads.fits is in
        let place : length bytes - length rest + (length rest - length after) ≡ length bytes - length after = omega (arith, less, reads.inside) in
        record {
          steps = fewer.0;
          enough = omega (arith, fewer.1, reads.enough, less);
          inside = omega (arith, less, reads.inside);
          fits = (change-takes rest change after reads.fits is).0.rest_fits;
          so_far = ap (λ (offset : ℕ). preceded (changes ++ change ∷ []) (changes_within fewer.0 offset after)) (sym place)
              ∙ sym (preceded_more changes change (changes_within fewer.0 (length bytes - length rest + (length rest - length after)) after))
              ∙ step false ended fewer.0 fewer.1;
        }
