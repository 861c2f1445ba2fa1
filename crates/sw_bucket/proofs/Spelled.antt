-- The changes that bytes spell.
use Rattle.std.proofs.Common.{◌≡◌, ◌∙◌, ℕ, Bool, true, false, ◌==◌, true≢false, List, [], ◌∷◌, ◌++◌, length, length-append, Option, Some, None, refl, sym, ap, arith, if◌then◌else◌}
use Rattle.std.specs.Prelude.{Ok}
use Rattle.std.specs.List.{flat_map, list_all}
use Rattle.std.proofs.lemmas.Bool.Decides.{nat_tests}
use Rattle.std.proofs.lemmas.List.Concat.{flat_map-cons}
use Rattle.sw_data.specs.declared.storage.Change.{Change}
use Rattle.sw_codec.proofs.LawLemmas.{read_again}
use Rattle.sw_codec.specs.Reading.{read_changes}
use Rattle.sw_codec.specs.Spelling.{change_spelling, has_spelling, spelled_all}
use Rattle.sw_laws.proofs.Lists.{by_truth}
use Rattle.sw_sizes.proofs.Lengths.{change_long}
use Rattle.sw_bucket.proofs.Holding.{some_bytes}

none_is : {X : Type 0} (x : X) → ◌≡◌ {A = Option X} None (Some x) → ⊥
none_is x is = cc is

nothing_spelled : (changes : List Change) → spelled_all changes ≡ Some [] → changes ≡ []
nothing_spelled [] is = refl
nothing_spelled (change ∷ changes) is =
    by_truth (list_all has_spelling (change ∷ changes))
    (λ all.
    let empty : flat_map change_spelling (change ∷ changes) ≡ [] =
    let given : Some (flat_map change_spelling (change ∷ changes)) ≡ Some [] = sym (ap (λ (b : Bool). if b then Some (flat_map change_spelling (change ∷ changes)) else None) all) ∙ is in cc given in
    let parts = flat_map-cons change_spelling change changes in
    let long = length-append (change_spelling change) (flat_map change_spelling changes) in
    let first = change_long change in
    let some = some_bytes change in
    let none : length (change_spelling change ++ flat_map change_spelling changes) ≡ 0 = ap length (sym parts ∙ empty) in
    absurd (omega (arith, long, first, some, none)))
    (λ other. absurd (none_is [] (sym (ap (λ (b : Bool). if b then Some (flat_map change_spelling (change ∷ changes)) else None) other) ∙ is)))

-- no bytes spell no changes
pub none_spelled : (changes : List Change) (bytes : List ℕ) → (length bytes == 0) ≡ true → spelled_all changes ≡ Some bytes → changes ≡ []
none_spelled changes [] none is = nothing_spelled changes is
none_spelled changes (byte ∷ bytes) none is = absurd (true≢false (sym none ∙ more))
  where
    more : (length (byte ∷ bytes) == 0) ≡ false
    more = grind (arith, nat_tests)

-- what some bytes are read as is what they spell
pub read_as : (all changes : List Change) (bytes : List ℕ) → (length bytes == 0) ≡ false → read_changes bytes ≡ Ok all → spelled_all changes ≡ Some bytes → all ≡ changes
read_as all [] bytes some reads is =
    let empty : [] ≡ bytes = cc is in
    absurd (true≢false (ap (λ (given : List ℕ). length given == 0) empty ∙ some))
read_as all (change ∷ changes) bytes some reads is =
    let again = read_again (change ∷ changes) bytes (λ none. cc none) is in
    let same : Ok all ≡ Ok (change ∷ changes) = sym reads ∙ again in cc same
