-- What an index has for each address, after one more line of an address is noted.
use Rattle.std.proofs.Common.{◌≡◌, ◌∙◌, ◌<◌, take, get_or, length-take, ℕ, suc, ◌+◌, Bool, true, false, List, [], ◌∷◌, ◌++◌, bytes_eq, Some, None, length, refl, sym, ap, subst, arith, if◌then◌else◌}
use Rattle.std.proofs.lemmas.List.{append-nil, take_more}
use Rattle.std.specs.Cmp.Lexicographic.{bytes_decides}
use Rattle.std.specs.Map.{lookup, set_value}
use Rattle.indexmap.specs.IndexMap.{insert_entry}
use Rattle.sw_net.specs.Places.{noted, places_from}

-- the place of a line, where it is one of the address
abbrev pub own_place : List ℕ → List ℕ → ℕ → List ℕ
own_place address asked at = if bytes_eq address asked then at ∷ [] else []

is_same : (a : List ℕ) → bytes_eq a a ≡ true
is_same a = (bytes_decides a a).1 refl

-- equality of bytes goes both ways
both_ways : (a b : List ℕ) → bytes_eq a b ≡ bytes_eq b a
both_ways a b = by (bytes_eq a b) (bytes_eq b a) refl refl
  where
    by : (p q : Bool) → bytes_eq a b ≡ p → bytes_eq b a ≡ q → bytes_eq a b ≡ bytes_eq b a
    by true true is back = is ∙ sym back
    by false false is back = is ∙ sym back
    by true false is back = subst (λ c. bytes_eq a c ≡ bytes_eq c a) ((bytes_decides a b).0 is) refl
    by false true is back = subst (λ c. bytes_eq c b ≡ bytes_eq b c) ((bytes_decides b a).0 back) refl

module _ {K V : Type 0} (bytes : K → List ℕ) (places : V → List ℕ) (address asked : List ℕ) (at : ℕ) where
  here : (key : K) → bytes_eq address (bytes key) ≡ true → bytes_eq asked (bytes key) ≡ bytes_eq address asked
  here key is = ap (bytes_eq asked) (sym ((bytes_decides address (bytes key)).0 is)) ∙ both_ways asked address

  there : (key : K) → bytes_eq asked (bytes key) ≡ true → bytes_eq address asked ≡ bytes_eq address (bytes key)
  there key is = ap (bytes_eq address) ((bytes_decides asked (bytes key)).0 is)

  -- an address that is there has one more place
  pub noted_more : (entries : List (K × V)) (own more : V) → places more ≡ places own ++ at ∷ []
      → lookup (λ key. bytes_eq address (bytes key)) entries ≡ Some own
      → noted bytes places (set_value (λ key. bytes_eq address (bytes key)) entries more) asked
      ≡ noted bytes places entries asked ++ own_place address asked at
  noted_more [] own more grown found = absurd cc
  noted_more (e ∷ es) own more grown found =
      grind (arith, append-nil, here e.0, there e.0, noted_more es own more grown)

  -- a new address has its first place
  pub noted_new : (eq : K → K → Bool) (key : K) (own : V) → ((x y : K) → eq x y ≡ bytes_eq (bytes x) (bytes y))
      → bytes key ≡ address → places own ≡ at ∷ [] → (entries : List (K × V))
      → lookup (λ key. bytes_eq address (bytes key)) entries ≡ None
      → noted bytes places (insert_entry eq entries key own) asked
      ≡ noted bytes places entries asked ++ own_place address asked at
  noted_new eq key own decides is first [] absent =
      let turned = ap (bytes_eq asked) is ∙ both_ways asked address in grind (arith, turned)
  noted_new eq key own decides is first (e ∷ es) absent =
      let other = decides key e.0 ∙ ap (λ a. bytes_eq a (bytes e.0)) is in
      grind (arith, append-nil, other, there e.0, noted_new eq key own decides is first es)

  -- what a look-up finds
  pub noted_there : (entries : List (K × V)) (own : V) → lookup (λ key. bytes_eq address (bytes key)) entries ≡ Some own
      → noted bytes places entries address ≡ places own
  noted_there [] own found = absurd cc
  noted_there (e ∷ es) own found = grind (arith, noted_there es own)

  pub noted_absent : (entries : List (K × V)) → lookup (λ key. bytes_eq address (bytes key)) entries ≡ None
      → noted bytes places entries address ≡ []
  noted_absent [] absent = refl
  noted_absent (e ∷ es) absent = grind (arith, noted_absent es)

module _ {L : Type 0} (address_of : L → List ℕ) where
  -- the places of one more line
  pub places_more : (at : ℕ) (lines : List L) (line : L) (asked : List ℕ)
      → places_from address_of at (lines ++ line ∷ []) asked
      ≡ places_from address_of at lines asked ++ own_place (address_of line) asked (at + length lines)
  places_more at [] line asked = grind arith
  places_more at (first ∷ lines) line asked =
      let further : suc at + length lines ≡ at + length (first ∷ lines) = omega arith in
      let rest = subst (λ n. places_from address_of (suc at) (lines ++ line ∷ []) asked
      ≡ places_from address_of (suc at) lines asked ++ own_place (address_of line) asked n)
      further (places_more (suc at) lines line asked) in
      grind (arith, rest)

  -- the places among the lines up to the next one
  pub places_grown : (lines : List L) (at : ℕ) (line : L) (asked before : List ℕ) → at < length lines
      → before ≡ places_from address_of 0 (take at lines) asked
      → before ++ own_place (address_of (get_or lines at line)) asked at ≡ places_from address_of 0 (take (at + 1) lines) asked
  places_grown lines at line asked before inside so_far =
      let new = get_or lines at line in
      let longer = take_more lines at line inside in
      let many : 0 + length (take at lines) ≡ at = let taken = length-take at lines in omega (arith, taken, inside) in
      let next = places_more 0 (take at lines) new asked in
      let numbered = ap (λ n. places_from address_of 0 (take at lines) asked ++ own_place (address_of new) asked n) many in
      let said = ap (λ (l : List ℕ). l ++ own_place (address_of new) asked at) so_far in
      let whole = ap (λ (l : List L). places_from address_of 0 l asked) longer in
      said ∙ (sym numbered ∙ (sym next ∙ sym whole))
