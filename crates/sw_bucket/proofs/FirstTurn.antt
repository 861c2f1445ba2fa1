-- The first turn whose key may go is that of the victim.
use Rattle.std.proofs.Common.{◌≡◌, ◌∙◌, ℕ, Bool, true, false, not, ◌&&◌, ◌||◌, ◌==◌, List, [], ◌∷◌, bytes_eq, cond, filter, fold, Option, Some, None, option_map, true≢false, refl, sym, ap, subst, arith}
use Rattle.std.specs.Prelude.{find, nat_eq, nat_lt}
use Rattle.std.specs.BTreeSet.{BTreeSet}
use Rattle.std.specs.Cmp.{nat_eq_equiv}
use Rattle.std.specs.Cmp.Lexicographic.{slice_cmp}
use Rattle.std.specs.declared.cmp.Ordering.{Ordering}
use Rattle.std.specs.declared.cmp.Ordering.TheVariants.{Less, Equal, Greater}
use Rattle.std.specs.List.{AllByRecursion, list_all, list_any}
use Rattle.std.specs.List.Sorted.{IsStrictlySortedBy}
use Rattle.std.specs.Ordering.{is_eq, is_lt, nat_cmp, ordering_reverse, ordering_then}
use Rattle.std.proofs.lemmas.Bool.{and_from, and_parts}
use Rattle.std.proofs.lemmas.Bool.Decides.{nat_tests}
use Rattle.std.proofs.lemmas.Cmp.{alike_right, tied_back, tied_itself}
use Rattle.std.proofs.lemmas.Map.Keys.{sorted_head, sorted_tail}
use Rattle.sw_rules.specs.Durable.{durable}
use Rattle.sw_rules.specs.State.{State}
use Rattle.sw_laws.proofs.Lists.{by_truth, bytes_eq_equal, bytes_eq_same, false_of, find_any, find_passes, none_found}
use Rattle.sw_bucket.proofs.KeptKeys.{among_filtered, used_among}
use Rattle.sw_bucket.specs.Eviction.{first_of, first_so_far, goes_before, is_evictable, may_go}
use Rattle.sw_bucket.specs.Turns.{AreTurns, Turn, has_turn, is_among, is_turn, turn_cmp, turn_ties, turn_total}
use Rattle.sw_sizes.specs.Usage.{keys_of_kept, usage_of}

-- ---- turns in order

abbrev below : Turn → Turn → Bool
below one other = is_lt (turn_cmp one other)

less_is : (order : Ordering) → is_lt order ≡ true → order ≡ Less
less_is Less is = refl
less_is Equal is = absurd cc
less_is Greater is = absurd cc

equal_is : (order : Ordering) → is_eq order ≡ true → order ≡ Equal
equal_is Less is = absurd cc
equal_is Equal is = refl
equal_is Greater is = absurd cc

-- neither of two turns comes before the other: they are one
neither_below : (one other : Turn) → below one other ≡ false → below other one ≡ false → is_turn one other ≡ true
neither_below one other first second = by (turn_cmp one other) refl
  where
    by : (order : Ordering) → turn_cmp one other ≡ order → is_turn one other ≡ true
    by Less is = absurd (true≢false (sym (ap is_lt is) ∙ first))
    by Equal is = turn_ties one other ∙ ap is_eq is
    by Greater is =
        let back : turn_cmp other one ≡ Less = turn_total.antisymm other one ∙ ap ordering_reverse is in
        absurd (true≢false (sym (ap is_lt back) ∙ second))

-- what comes before a turn comes before each turn that doesn't come before that one
below_upto : (one two three : Turn) → below one two ≡ true → below three two ≡ false → below one three ≡ true
below_upto one two three first other = by (turn_cmp three two) refl
  where
    less : turn_cmp one two ≡ Less
    less = less_is (turn_cmp one two) first

    by : (order : Ordering) → turn_cmp three two ≡ order → below one three ≡ true
    by Less is = absurd (true≢false (sym (ap is_lt is) ∙ other))
    by Equal is = ap is_lt (alike_right turn_total three two one is ∙ less)
    by Greater is =
        let back : turn_cmp two three ≡ Less = turn_total.antisymm two three ∙ ap ordering_reverse is in
        ap is_lt (turn_total.trans one two three less back)

below_chain : (one two three : Turn) → below one two ≡ true → below two three ≡ true → below one three ≡ true
below_chain one two three first second =
    ap is_lt (turn_total.trans one two three (less_is (turn_cmp one two) first) (less_is (turn_cmp two three) second))

not_below_itself : (one : Turn) → below one one ≡ false
not_below_itself one = ap is_lt (tied_itself turn_total one)

-- a turn among those that all come behind another one comes behind it
behind_all : (one other : Turn) (turns : List Turn) → AllByRecursion (λ (turn : Turn). turn_cmp one turn ≡ Less) turns → list_any (λ (turn : Turn). is_eq (turn_cmp other turn)) turns ≡ true → turn_cmp one other ≡ Less
behind_all one other [] behind there = absurd cc
behind_all one other (turn ∷ turns) behind there =
    by_truth (is_eq (turn_cmp other turn))
    (λ same. sym (alike_right turn_total turn other one (tied_back turn_total other turn (equal_is (turn_cmp other turn) same))) ∙ behind.0)
    (λ apart. let rest : list_any (λ (t : Turn). is_eq (turn_cmp other t)) turns ≡ true = grind (arith, there, apart) in behind_all one other turns behind.1 rest)

-- no turn whose key may go comes before the first of those
none_below : (may : List ℕ → Bool) (turns : List Turn) (first : Turn) → IsStrictlySortedBy turn_cmp turns → find (λ (turn : Turn). may turn.1) turns ≡ Some first
    → (other : Turn) → list_any (λ (turn : Turn). is_eq (turn_cmp other turn)) turns ≡ true → may other.1 ≡ true → below other first ≡ false
none_below may [] first sorted found other there goes = absurd cc
none_below may (turn ∷ turns) first sorted found other there goes =
    by_truth (may turn.1)
    (λ here.
    let same : turn ≡ first = let given : Some turn ≡ Some first = grind (arith, found, here) in cc given in
    by_truth (is_eq (turn_cmp other turn))
    (λ equal. ap (λ (t : Turn). below other t) (sym same) ∙ ap is_lt (equal_is (turn_cmp other turn) equal))
    (λ apart.
    let rest : list_any (λ (t : Turn). is_eq (turn_cmp other t)) turns ≡ true = grind (arith, there, apart) in
    let behind = behind_all turn other turns (sorted_head turn_cmp turn turns sorted) rest in
    let back : turn_cmp other turn ≡ Greater = turn_total.antisymm other turn ∙ ap ordering_reverse behind in
    ap (λ (t : Turn). below other t) (sym same) ∙ ap is_lt back))
    (λ stays.
    by_truth (is_eq (turn_cmp other turn))
    (λ equal.
    let key = (and_parts (nat_eq other.0 turn.0) (bytes_eq other.1 turn.1) (turn_ties other turn ∙ equal)).1 in
    let moved : may turn.1 ≡ true = ap may (sym (bytes_eq_equal other.1 turn.1 key)) ∙ goes in
    absurd (true≢false (sym moved ∙ stays)))
    (λ apart.
    let rest : list_any (λ (t : Turn). is_eq (turn_cmp other t)) turns ≡ true = grind (arith, there, apart) in
    let later : find (λ (t : Turn). may t.1) turns ≡ Some first = grind (arith, found, stays) in
    none_below may turns first (sorted_tail turn_cmp turn turns sorted) later other rest goes))

absorbed : (there used may : Bool) → used ≡ there → (there && (used && may)) ≡ (used && may)
absorbed true used may is = refl
absorbed false true may is = absurd (true≢false is)
absorbed false false may is = refl

-- ---- the first of keys

module _ (last : List ℕ → ℕ) where
  abbrev pub turn_of : List ℕ → Turn
  turn_of key = (last key, key)

  tests_are : (p q : Bool) (order : Ordering) → (p || (q && is_lt order)) ≡ is_lt (ordering_then (cond p Less (cond q Equal Greater)) order)
  tests_are true q order = refl
  tests_are false true order = refl
  tests_are false false order = refl

  before_is : (one other : List ℕ) → goes_before last one other ≡ below (turn_of one) (turn_of other)
  before_is one other = tests_are (nat_lt (last one) (last other)) (last one == last other) (slice_cmp nat_cmp one other)

  -- a key among some, before which none of them goes
  abbrev IsLeast : List (List ℕ) → List ℕ → Type 0
  IsLeast keys key = (is_among key keys ≡ true) × ((other : List ℕ) → is_among other keys ≡ true → goes_before last other key ≡ false)

  least_from : (keys : List (List ℕ)) (first key : List ℕ) → fold (first_so_far (goes_before last)) (Some first) keys ≡ Some key → IsLeast (first ∷ keys) key
  least_from [] first key is =
      let same : first ≡ key = cc is in
      subst (λ (k : List ℕ). IsLeast (first ∷ []) k) same (
        let own = bytes_eq_same first in grind (arith, own),
        λ other there.
            let equal : bytes_eq other first ≡ true = grind (arith, there) in
            subst (λ (k : List ℕ). goes_before last k first ≡ false) (sym (bytes_eq_equal other first equal)) (before_is first first ∙ not_below_itself (turn_of first)),
      )
  least_from (next ∷ keys) first key is =
      by_truth (goes_before last next first)
      (λ leads.
      let so_far : fold (first_so_far (goes_before last)) (Some next) keys ≡ Some key = grind (arith, is, leads) in
      let rest = least_from keys next key so_far in (
        let there = rest.0 in grind (arith, there),
        λ other there.
            by_truth (bytes_eq other first)
            (λ here.
            let own = rest.1 next (let same = bytes_eq_same next in grind (arith, same)) in
            by_truth (goes_before last other key)
            (λ goes.
            let moved : goes_before last first key ≡ true = ap (λ (k : List ℕ). goes_before last k key) (sym (bytes_eq_equal other first here)) ∙ goes in
            let chained = below_chain (turn_of next) (turn_of first) (turn_of key) (sym (before_is next first) ∙ leads) (sym (before_is first key) ∙ moved) in
            let through : goes_before last next key ≡ true = before_is next key ∙ chained in
            absurd (true≢false (sym through ∙ own)))
            (λ stays. stays))
            (λ apart. rest.1 other (let given = there in grind (arith, given, apart))),
      ))
      (λ stays.
      let so_far : fold (first_so_far (goes_before last)) (Some first) keys ≡ Some key = grind (arith, is, stays) in
      let rest = least_from keys first key so_far in (
        let there = rest.0 in grind (arith, there),
        λ other there.
            by_truth (bytes_eq other next)
            (λ here.
            let own = rest.1 first (let same = bytes_eq_same first in grind (arith, same)) in
            by_truth (goes_before last other key)
            (λ goes.
            let moved : goes_before last next key ≡ true = ap (λ (k : List ℕ). goes_before last k key) (sym (bytes_eq_equal other next here)) ∙ goes in
            let through = below_upto (turn_of next) (turn_of key) (turn_of first) (sym (before_is next key) ∙ moved) (sym (before_is first key) ∙ own) in
            let leads : goes_before last next first ≡ true = before_is next first ∙ through in
            absurd (true≢false (sym leads ∙ stays)))
            (λ not_before. not_before))
            (λ apart. rest.1 other (let given = there in grind (arith, given, apart))),
      ))

  some_first : (keys : List (List ℕ)) (first : List ℕ) → fold (first_so_far (goes_before last)) (Some first) keys ≡ None → ⊥
  some_first [] first is = cc is
  some_first (next ∷ keys) first is =
      by_truth (goes_before last next first)
      (λ leads. some_first keys next (grind (arith, is, leads)))
      (λ stays. some_first keys first (grind (arith, is, stays)))

  least : (keys : List (List ℕ)) (key : List ℕ) → first_of (goes_before last) keys ≡ Some key → IsLeast keys key
  least [] key is = absurd cc
  least (first ∷ keys) key is = least_from keys first key is

  none_there : (keys : List (List ℕ)) → first_of (goes_before last) keys ≡ None → (key : List ℕ) → is_among key keys ≡ true → ⊥
  none_there [] is key there = cc there
  none_there (first ∷ keys) is key there = some_first keys first is

  -- ---- the victim

  module _ (state : State) (turns : BTreeSet Turn) (are : AreTurns last (durable state) turns) (sorted : IsStrictlySortedBy turn_cmp turns.keys) where
    abbrev pub candidates : List (List ℕ)
    candidates = filter (is_evictable state) (keys_of_kept (durable state))

    -- a key may be evicted
    abbrev goes : List ℕ → Bool
    goes key = nat_lt 0 (usage_of key (durable state)) && may_go state key

    among_candidates : (key : List ℕ) → is_among key candidates ≡ goes key
    among_candidates key =
        among_filtered (is_evictable state) key (keys_of_kept (durable state))
        ∙ absorbed (is_among key (keys_of_kept (durable state))) (nat_lt 0 (usage_of key (durable state))) (may_go state key) (used_among state key)

    has_one : (key : List ℕ) → goes key ≡ true → has_turn turns (turn_of key) ≡ true
    has_one key is =
        are (last key) key
        ∙ and_from (nat_lt 0 (usage_of key (durable state))) (nat_eq (last key) (last key))
        (and_parts (nat_lt 0 (usage_of key (durable state))) (may_go state key) is).0 (nat_eq_equiv.refl (last key))

    -- the key of a turn that is there has it as its last use, and may be evicted where it may go
    of_turn : (turn : Turn) → has_turn turns turn ≡ true → may_go state turn.1 ≡ true → (turn ≡ turn_of turn.1) × (goes turn.1 ≡ true)
    of_turn turn there may =
        let parts = and_parts (nat_lt 0 (usage_of turn.1 (durable state))) (nat_eq turn.0 (last turn.1)) (sym (are turn.0 turn.1) ∙ there) in
        let same : turn.0 ≡ last turn.1 = let given = parts.1 in grind (arith, nat_tests, given) in
        ((λ i. (same i, turn.1)), and_from (nat_lt 0 (usage_of turn.1 (durable state))) (may_go state turn.1) parts.0 may)

    by_first : (found : Option Turn) (first : Option (List ℕ)) → find (λ (turn : Turn). may_go state turn.1) turns.keys ≡ found → first_of (goes_before last) candidates ≡ first
        → option_map (λ (turn : Turn). turn.1) found ≡ first
    by_first None None is least_is = refl
    by_first None (Some key) is least_is =
        let there = (least candidates key least_is).0 in
        let may : goes key ≡ true = sym (among_candidates key) ∙ there in
        let goes_on = (and_parts (nat_lt 0 (usage_of key (durable state))) (may_go state key) may).1 in
        absurd (none_of key goes_on (has_one key may) (none_found (λ (turn : Turn). may_go state turn.1) turns.keys is))
      where
        none_in : (key : List ℕ) → may_go state key ≡ true → (all : List Turn) → list_any (λ (turn : Turn). is_eq (turn_cmp (turn_of key) turn)) all ≡ true → list_all (λ (turn : Turn). not (may_go state turn.1)) all ≡ true → ⊥
        none_in key may [] there none = cc there
        none_in key may (turn ∷ all) there none =
            by_truth (is_eq (turn_cmp (turn_of key) turn))
            (λ same.
            let own = (and_parts (nat_eq (last key) turn.0) (bytes_eq key turn.1) (turn_ties (turn_of key) turn ∙ same)).1 in
            let moved : may_go state turn.1 ≡ true = ap (may_go state) (sym (bytes_eq_equal key turn.1 own)) ∙ may in
            let never = (and_parts (not (may_go state turn.1)) (list_all (λ (t : Turn). not (may_go state t.1)) all) none).0 in
            true≢false (sym moved ∙ false_of never))
            (λ other.
            let rest : list_any (λ (t : Turn). is_eq (turn_cmp (turn_of key) t)) all ≡ true = ap (λ (b : Bool). b || list_any (λ (t : Turn). is_eq (turn_cmp (turn_of key) t)) all) (sym other) ∙ there in
            none_in key may all rest (and_parts (not (may_go state turn.1)) (list_all (λ (t : Turn). not (may_go state t.1)) all) none).1)

        none_of : (key : List ℕ) → may_go state key ≡ true → has_turn turns (turn_of key) ≡ true → list_all (λ (turn : Turn). not (may_go state turn.1)) turns.keys ≡ true → ⊥
        none_of key may there none = none_in key may turns.keys there none
    by_first (Some turn) first is least_is =
        let own : has_turn turns turn ≡ true =
        find_any (λ (t : Turn). may_go state t.1) (λ (t : Turn). is_eq (turn_cmp turn t)) turns.keys turn is (ap is_eq (tied_itself turn_total turn)) in
        let may : may_go state turn.1 ≡ true = find_passes (λ (t : Turn). may_go state t.1) turns.keys turn is in
        let both = of_turn turn own may in
        one first least_is both.0 both.1
      where
        one : (first : Option (List ℕ)) → first_of (goes_before last) candidates ≡ first → turn ≡ turn_of turn.1 → goes turn.1 ≡ true → Some turn.1 ≡ first
        one None least_is same evicts = absurd (none_there candidates least_is turn.1 (among_candidates turn.1 ∙ evicts))
        one (Some key) least_is same evicts =
            let there = least candidates key least_is in
            let other : goes key ≡ true = sym (among_candidates key) ∙ there.0 in
            let may = (and_parts (nat_lt 0 (usage_of key (durable state))) (may_go state key) other).1 in
            let first_below = none_below (may_go state) turns.keys turn sorted is (turn_of key) (has_one key other) may in
            let second_below : below (turn_of turn.1) (turn_of key) ≡ false = sym (before_is turn.1 key) ∙ there.1 turn.1 (among_candidates turn.1 ∙ evicts) in
            let back : below turn (turn_of key) ≡ false = ap (λ (t : Turn). below t (turn_of key)) same ∙ second_below in
            let equal = neither_below turn (turn_of key) back first_below in
            let keys = (and_parts (nat_eq turn.0 (last key)) (bytes_eq turn.1 key) equal).1 in
            ap (λ (k : List ℕ). Some k) (bytes_eq_equal turn.1 key keys)

    pub first_is_victim : option_map (λ (turn : Turn). turn.1) (find (λ (turn : Turn). may_go state turn.1) turns.keys) ≡ first_of (goes_before last) candidates
    first_is_victim = by_first (find (λ (turn : Turn). may_go state turn.1) turns.keys) (first_of (goes_before last) candidates) refl refl
