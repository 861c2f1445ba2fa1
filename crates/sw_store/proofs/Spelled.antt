-- Spellings of changes, one after the other.
use Rattle.std.proofs.Common.{◌≡◌, ℕ, List, [], ◌∷◌, ◌++◌, length, Bool, true, cond, Some, None, refl, ◌∙◌, ap, arith, length-append}
use Rattle.std.specs.List.{flat_map, list_all}
use Rattle.std.proofs.lemmas.Bool.{and_from}
use Rattle.std.proofs.lemmas.Grind.{flat_map-append}
use Rattle.std.proofs.lemmas.List.Concat.{flat_map-cons}
use Rattle.std.proofs.lemmas.List.Folds.{list_all-append}
use Rattle.std.proofs.lemmas.Option.{cond_some}
use Rattle.sw_codec.proofs.Changes.{change-long}
use Rattle.sw_codec.specs.Spelling.{change_spelling, has_spelling, spelled_all}
use Rattle.sw_data.specs.declared.storage.Change.{Change}

parts : (changes : List Change) (bytes : List ℕ) → spelled_all changes ≡ Some bytes → (list_all has_spelling changes ≡ true) × (flat_map change_spelling changes ≡ bytes)
parts changes bytes is = cond_some (list_all has_spelling changes) (flat_map change_spelling changes) bytes is

-- the spelling of two lists of changes is that of the one and that of the other
pub spelled_both : (one other : List Change) (bytes more : List ℕ) → spelled_all one ≡ Some bytes → spelled_all other ≡ Some more → spelled_all (one ++ other) ≡ Some (bytes ++ more)
spelled_both one other bytes more is also =
    let first = parts one bytes is in
    let second = parts other more also in
    ap (λ (test : Bool). cond test (Some (flat_map change_spelling (one ++ other))) None)
    (list_all-append has_spelling one other ∙ and_from (list_all has_spelling one) (list_all has_spelling other) first.0 second.0)
    ∙ ap (λ (l : List ℕ). Some l) (flat_map-append change_spelling one other ∙ (λ i. first.1 i ++ second.1 i))

-- only no change is spelled by no byte
pub nothing_spelled : (changes : List Change) → spelled_all changes ≡ Some [] → changes ≡ []
nothing_spelled [] is = refl
nothing_spelled (change ∷ others) is =
    absurd (omega (arith, change-long change, length-append (change_spelling change) (flat_map change_spelling others), ap length (flat_map-cons change_spelling change others), ap length (parts (change ∷ others) [] is).1))
