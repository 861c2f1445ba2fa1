-- What entries have for each name, after one of them changes or comes.
use Rattle.std.proofs.Common.{◌≡◌, ◌∙◌, ℕ, Bool, true, cond, List, [], ◌∷◌, ◌++◌, bytes_eq, Option, Some, None, refl, sym, ap, arith, if◌then◌else◌}
use Rattle.std.specs.Cmp.Lexicographic.{bytes_decides, nat_list_eq_equiv}
use Rattle.std.specs.Map.{lookup, set_value}
use Rattle.indexmap.specs.IndexMap.{insert_entry}
use Rattle.sw_queue.specs.Lines.{by_name, named}

pub bytes_same : (a : List ℕ) → bytes_eq a a ≡ true
bytes_same a = nat_list_eq_equiv.refl a

-- what is asked for is one name and the other, or neither
one_name : (name asked other : List ℕ) → bytes_eq name other ≡ true → bytes_eq asked other ≡ bytes_eq name asked
one_name name asked other is = nat_list_eq_equiv.symm asked other ∙ sym (nat_list_eq_equiv.congr name other asked is)

other_name : (name asked other : List ℕ) → bytes_eq asked other ≡ true → bytes_eq name asked ≡ bytes_eq name other
other_name name asked other is = ap (bytes_eq name) ((bytes_decides asked other).0 is)

module _ {K V : Type 0} (bytes : K → List ℕ) (name : List ℕ) (absent : V) where
  -- a name has the value of its entry
  pub named_found : (entries : List (K × V)) (value : V) → lookup (λ key. bytes_eq name (bytes key)) entries ≡ Some value
      → named (by_name bytes entries) name absent ≡ value
  named_found [] value found = absurd cc
  named_found (e ∷ es) value found = grind (arith, named_found es value)

  pub named_absent : (entries : List (K × V)) → lookup (λ key. bytes_eq name (bytes key)) entries ≡ None
      → named (by_name bytes entries) name absent ≡ absent
  named_absent [] none_there = refl
  named_absent (e ∷ es) none_there = grind (arith, named_absent es)

  -- a name that is there has what was written for it
  pub named_set : (asked : List ℕ) (entries : List (K × V)) (old new : V) → lookup (λ key. bytes_eq name (bytes key)) entries ≡ Some old
      → named (by_name bytes (set_value (λ key. bytes_eq name (bytes key)) entries new)) asked absent
      ≡ (if bytes_eq name asked then new else named (by_name bytes entries) asked absent)
  named_set asked [] old new found = absurd cc
  named_set asked (e ∷ es) old new found =
      grind (arith, one_name name asked (bytes e.0), other_name name asked (bytes e.0), named_set asked es old new)

  -- a new name has what came for it
  pub named_new : (asked : List ℕ) (eq : K → K → Bool) (key : K) (new : V) → ((x y : K) → eq x y ≡ bytes_eq (bytes x) (bytes y))
      → bytes key ≡ name → (entries : List (K × V)) → lookup (λ k. bytes_eq name (bytes k)) entries ≡ None
      → named (by_name bytes (insert_entry eq entries key new)) asked absent
      ≡ (if bytes_eq name asked then new else named (by_name bytes entries) asked absent)
  named_new asked eq key new decides is [] none_there =
      let turned = ap (bytes_eq asked) is ∙ nat_list_eq_equiv.symm asked name in grind (arith, turned)
  named_new asked eq key new decides is (e ∷ es) none_there =
      let other = decides key e.0 ∙ ap (λ a. bytes_eq a (bytes e.0)) is in
      grind (arith, other, other_name name asked (bytes e.0), named_new asked eq key new decides is es)

module _ {K V : Type 0} (bytes : K → List ℕ) (name : List ℕ) where
  -- entries by name find what the entries do
  pub by_name_found : (entries : List (K × V)) → lookup (bytes_eq name) (by_name bytes entries) ≡ lookup (λ key. bytes_eq name (bytes key)) entries
  by_name_found [] = refl
  by_name_found (e ∷ es) = ap (cond (bytes_eq name (bytes e.0)) (Some e.1)) (by_name_found es)

  -- what is written for a name is written by name
  pub by_name_set : (entries : List (K × V)) (new : V)
      → by_name bytes (set_value (λ key. bytes_eq name (bytes key)) entries new) ≡ set_value (bytes_eq name) (by_name bytes entries) new
  by_name_set [] new = refl
  by_name_set (e ∷ es) new = grind (arith, by_name_set es new)

  -- a name that comes is last
  pub by_name_new : (eq : K → K → Bool) (key : K) (new : V) → ((x y : K) → eq x y ≡ bytes_eq (bytes x) (bytes y))
      → bytes key ≡ name → (entries : List (K × V)) → lookup (λ k. bytes_eq name (bytes k)) entries ≡ None
      → by_name bytes (insert_entry eq entries key new) ≡ by_name bytes entries ++ (name, new) ∷ []
  by_name_new eq key new decides is [] none_there = ap (λ (n : List ℕ). (n, new) ∷ []) is
  by_name_new eq key new decides is (e ∷ es) none_there =
      let other = decides key e.0 ∙ ap (λ a. bytes_eq a (bytes e.0)) is in
      grind (arith, other, by_name_new eq key new decides is es)

-- ---- by name alone

module _ {V : Type 0} where
  -- what isn't there isn't written
  pub set_absent : (lines : List (List ℕ × V)) (name : List ℕ) (new : V) → lookup (bytes_eq name) lines ≡ None → set_value (bytes_eq name) lines new ≡ lines
  set_absent [] name new none_there = refl
  set_absent (e ∷ es) name new none_there = grind (arith, set_absent es name new)

  pub found_last : (lines : List (List ℕ × V)) (name : List ℕ) (new : V) → lookup (bytes_eq name) lines ≡ None
      → lookup (bytes_eq name) (lines ++ (name, new) ∷ []) ≡ Some new
  found_last [] name new none_there = ap (λ (b : Bool). cond b (Some new) None) (bytes_same name)
  found_last (e ∷ es) name new none_there = grind (arith, found_last es name new)

-- what is found is one value
pub one_found : {V : Type 0} (found : Option V) (one two : V) → found ≡ Some one → found ≡ Some two → one ≡ two
one_found found one two first second = cc

-- what isn't found isn't there
pub none_found : {V : Type 0} (found : Option V) (value : V) → found ≡ None → found ≡ Some value → ⊥
none_found found value none_there there = absurd cc

-- the same name has the same value
pub named_same : {V : Type 0} (entries : List (List ℕ × V)) (name asked : List ℕ) (absent : V) → bytes_eq name asked ≡ true
    → named entries asked absent ≡ named entries name absent
named_same entries name asked absent is = ap (λ n. named entries n absent) (sym ((bytes_decides name asked).0 is))
