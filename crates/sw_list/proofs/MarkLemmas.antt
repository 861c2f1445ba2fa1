-- Numbers of keys and names: what the keys find, and what an addition and a removal leave.
use Rattle.std.proofs.Common.{◌≡◌, ℕ, ◌+◌, ◌<◌, ◌≤◌, Bool, true, false, cond, nat_eq, List, [], ◌∷◌, ◌++◌, Option, Some, None, map, length, get_or, position, refl, sym, ap, ◌∙◌, subst, arith, true≢false, inl, inr, All, zero, suc}
use Rattle.std.specs.Prelude.{nat_lt, not, remove, ◌&&◌, ◌||◌}
use Rattle.std.specs.List.{AllPairs, list_any, position_or_len}
use Rattle.std.specs.Map.{keys_of}
use Rattle.std.proofs.lemmas.Bool.{and_parts, cases_Bool, cases_lt, cases_order, eq-eqb, eqb-true}
use Rattle.std.proofs.lemmas.Bool.Decides.{nat_tests}
use Rattle.std.proofs.lemmas.List.{get_or-map, get_or_default, length-map}
use Rattle.std.proofs.lemmas.List.Elements.{All-push}
use Rattle.std.proofs.lemmas.List.Folds.{Any-from_list_any, list_any-append, list_any_at, list_any_none}
use Rattle.std.proofs.lemmas.List.Quantifiers.{all_pairs_push, all_pairs_remove}
use Rattle.std.proofs.lemmas.List.Sums.{fails_before_first, passes_at_first, position_or_len_is, prefix_len-le-length}
use Rattle.sw_list.specs.Names.{IsLeast, Keyed, Label, Mark, PutsKey, asks, is_hit, keys_have}
use Rattle.sw_list.specs.Named.{Finds, HasLate, KeepsEarly, KeepsLate, is_above}
use Rattle.sw_list.proofs.FindLemmas.{All_kept, absent_place}

blank : Mark
blank = (0, ([], []))

above_reads : (low n : ℕ) → nat_lt low n ≡ true → low < n
above_reads low n h = grind (arith, nat_tests)

above : (low n : ℕ) → low < n → nat_lt low n ≡ true
above low n h = grind (arith, nat_tests)

same_number : (a b : ℕ) → nat_eq a b ≡ true → a ≡ b
same_number a b h = grind (arith, nat_tests)

number_same : (a b : ℕ) → a ≡ b → nat_eq a b ≡ true
number_same a b h = grind (arith, nat_tests)

-- a hit has the number
hit_number : (asked : List ℕ) (named : Option (List ℕ)) (n : ℕ) (mark : Mark) → is_hit asked named n mark ≡ true → mark.0 ≡ n
hit_number asked named n mark h = same_number mark.0 n (and_parts (asks asked named mark.1) (nat_eq mark.0 n) h).1

no_hit : (asked : List ℕ) (named : Option (List ℕ)) (n : ℕ) (mark : Mark) → (mark.0 ≡ n → ⊥) → is_hit asked named n mark ≡ false
no_hit asked named n mark apart = elim (cases_Bool (is_hit asked named n mark)) [
  | inl h ↦ absurd (apart (hit_number asked named n mark h))
  | inr h ↦ h
]

module _ (marks : List Mark) (keys : Keyed) (next : ℕ) (of : Finds marks keys next) (key : List ℕ) (name : Option (List ℕ)) where
  -- a mark that is asked for has its number in the keys
  has_at : (k : ℕ) (d : Mark) → k < length marks → asks key name (get_or marks k d).1 ≡ true → keys_have keys key name (get_or marks k d).0 ≡ true
  has_at k d l is =
      let mark = get_or marks k d in
      let same : nat_eq mark.0 mark.0 ≡ true = number_same mark.0 mark.0 refl in
      of.found key name mark.0 (of.bounded k d l).1 ∙ list_any_at (is_hit key name mark.0) marks k d l (rw (is, same) refl)

  -- a number that the keys have is that of a mark that is asked for
  mark_of_number : (n : ℕ) → n < next → keys_have keys key name n ≡ true → (k : ℕ) × (k < length marks) × ((get_or marks k blank).0 ≡ n) × (asks key name (get_or marks k blank).1 ≡ true)
  mark_of_number n low h =
      let any = Any-from_list_any (is_hit key name n) marks (sym (of.found key name n low) ∙ h) in
      let is : get_or marks any.0 blank ≡ any.1 = get_or_default marks any.0 blank any.1 any.2 ∙ any.3 in
      let both = and_parts (asks key name any.1.1) (nat_eq any.1.0 n) any.4 in
      (any.0, any.2, ap (λ (m : Mark). m.0) is ∙ same_number any.1.0 n both.1, ap (λ (m : Mark). asks key name m.1) is ∙ both.0)

  module _ (low n : ℕ) (is : IsLeast (keys_have keys key name) low n) where
    abbrev at : ℕ
    at = position_or_len (nat_eq n) (keys_of marks)

    numbered : (k : ℕ) → k < length marks → get_or (keys_of marks) k 0 ≡ (get_or marks k blank).0
    numbered k l = get_or-map (λ (m : Mark). m.0) marks k blank 0 l

    not_before : (k : ℕ) → k < at → k < length marks → (get_or marks k blank).0 ≡ n → ⊥
    not_before k before l e =
        true≢false (sym (number_same n (get_or (keys_of marks) k 0) (sym e ∙ sym (numbered k l))) ∙ fails_before_first (nat_eq n) (keys_of marks) k 0 before)

    fails_before : (k : ℕ) → k < at → k < length marks → is_above low key name (get_or marks k blank) ≡ false
    fails_before k before l = elim (cases_Bool (is_above low key name (get_or marks k blank))) [
      | inr h ↦ h
      | inl h ↦
          let both = and_parts (nat_lt low (get_or marks k blank).0) (asks key name (get_or marks k blank).1) h in
          let high = above_reads low (get_or marks k blank).0 both.0 in
          elim (cases_order (get_or marks k blank).0 n) [
            | inl e ↦ absurd (not_before k before l e)
            | inr (inl less) ↦ absurd (true≢false (sym (has_at k blank l both.1) ∙ is.least (get_or marks k blank).0 high less))
            | inr (inr more) ↦
                let low_n : n < next = (let top = (of.bounded k blank l).1 in omega (arith, top, more)) in
                let here = mark_of_number n low_n is.there in
                elim (cases_lt here.0 k) [
                  | inl earlier ↦ absurd (not_before here.0 (omega (arith, earlier, before)) here.1 here.2)
                  | inr later ↦ absurd (let same = here.2 in elim (cases_order here.0 k) [
                    | inl e ↦ (let f : (get_or marks here.0 blank).0 ≡ (get_or marks k blank).0 = ap (λ j. (get_or marks j blank).0) e in omega (arith, f, same, more))
                    | inr (inl h2) ↦ (omega (arith, h2, later))
                    | inr (inr h2) ↦ (let up = of.rising k here.0 blank h2 here.1 in omega (arith, up, same, more))
                  ])
                ]
          ]
    ]

    passes_at : at < length marks → is_above low key name (get_or marks at blank) ≡ true
    passes_at l =
        let number : (get_or marks at blank).0 ≡ n = sym (numbered at l) ∙ sym (same_number n _ (passes_at_first (nat_eq n) (keys_of marks) 0 (omega (arith, l, length-map marks (λ (m : Mark). m.0))))) in
        let low_n : n < next = (let top = (of.bounded at blank l).1 in omega (arith, top, number)) in
        let here = mark_of_number n low_n is.there in
        let same : here.0 ≡ at = (let there = here.2 in elim (cases_order here.0 at) [
          | inl e ↦ e
          | inr (inl h) ↦ absurd (let up = of.rising here.0 at blank h l in omega (arith, up, there, number))
          | inr (inr h) ↦ absurd (let up = of.rising at here.0 blank h here.1 in omega (arith, up, there, number))
        ]) in
        let high = is.above in
        let asked : asks key name (get_or marks at blank).1 ≡ true = ap (λ j. asks key name (get_or marks j blank).1) (sym same) ∙ here.3 in
        rw (above low (get_or marks at blank).0 (omega (arith, high, number)), asked) refl

    -- the least number that the keys have stands where the first mark stands that is asked for
    pub found_first : position (nat_eq n) (keys_of marks) ≡ position (is_above low key name) marks
    found_first =
        let size = length-map marks (λ (m : Mark). m.0) in
        let within : at ≤ length (keys_of marks) = prefix_len-le-length (λ number. not (nat_eq n number)) (keys_of marks) in
        let same : at ≡ position_or_len (is_above low key name) marks =
        sym (position_or_len_is (is_above low key name) marks at blank (omega (arith, size, within)) (λ k before. fails_before k before (omega (arith, before, size, within))) passes_at) in
        (λ i. cond (nat_lt (same i) (size i)) (Some (same i)) None)

  -- where the keys have no number above one, no mark above it is asked for
  pub found_none : (low : ℕ) → ((m : ℕ) → low < m → keys_have keys key name m ≡ false) → None ≡ position (is_above low key name) marks
  found_none low over = sym (absent_place (is_above low key name) marks (λ k d l. elim (cases_Bool (is_above low key name (get_or marks k d))) [
    | inr h ↦ h
    | inl h ↦
        let both = and_parts (nat_lt low (get_or marks k d).0) (asks key name (get_or marks k d).1) h in
        absurd (true≢false (sym (has_at k d l both.1) ∙ over (get_or marks k d).0 (above_reads low (get_or marks k d).0 both.0)))
  ]))

-- a test that fails at a place passes as often without it
any_without : {X : Type 0} (test : X → Bool) (xs : List X) (i : ℕ) (d : X) → i < length xs → test (get_or xs i d) ≡ false → list_any test (remove xs i) ≡ list_any test xs
any_without test [] i d l out = absurd (omega arith)
any_without test (x ∷ xs) zero d l out = rw out refl
any_without test (x ∷ xs) (suc i) d l out = ap (λ b. test x || b) (any_without test xs i d (omega arith) out)

-- a mark is taken out, and its number
pub found_less : (marks : List Mark) (old new : Keyed) (next i : ℕ) (mark : Mark) → Finds marks old next → i < length marks → mark ≡ get_or marks i mark
    → PutsKey mark.1.0 mark.1.1 mark.0 false old new → Finds (remove marks i) new next
found_less marks old new next i mark of l is gone = record {
  rising = all_pairs_remove (λ left right. left.0 < right.0) marks i l of.rising;
  bounded = All_kept (λ m. (0 < m.0) × (m.0 < next)) marks i l (λ j d within other. of.bounded j d within);
  found = λ asked named n low. gone asked named n ∙ elim (cases_Bool (is_hit asked named n mark)) [
    | inl h ↦
        let number = hit_number asked named n mark h in
        ap (λ b. cond b false (keys_have old asked named n)) h
        ∙ sym (list_any_none (is_hit asked named n) (remove marks i) (All_kept (λ m. is_hit asked named n m ≡ false) marks i l
        (λ j d within other. no_hit asked named n (get_or marks j d) (λ e. apart j d within other (e ∙ sym number)))))
    | inr h ↦
        ap (λ b. cond b false (keys_have old asked named n)) h
        ∙ (of.found asked named n low ∙ sym (any_without (is_hit asked named n) marks i mark l (ap (is_hit asked named n) (sym is) ∙ h)))
  ];
}
  where
    apart : (j : ℕ) (d : Mark) → j < length marks → (j ≡ i → ⊥) → (get_or marks j d).0 ≡ mark.0 → ⊥
    apart j d within other e =
        let same : mark.0 ≡ (get_or marks i d).0 = ap (λ (m : Mark). m.0) (is ∙ get_or_default marks i mark d l) in
        elim (cases_order j i) [
          | inl e2 ↦ other e2
          | inr (inl h) ↦ (let up = of.rising j i d h l in omega (arith, up, e, same))
          | inr (inr h) ↦ (let up = of.rising i j d h within in omega (arith, up, e, same))
        ]

pub late_less : (old new : Keyed) (next : ℕ) (mark : Mark) (has : Bool) → mark.0 < next → PutsKey mark.1.0 mark.1.1 mark.0 has old new → KeepsLate next old new
late_less old new next mark has low puts asked named n high =
    puts asked named n ∙ ap (λ b. cond b has (keys_have old asked named n)) (no_hit asked named n mark (λ e. omega (arith, low, high, e)))

-- the row that was made for the next number comes
pub found_more : (marks : List Mark) (keys : Keyed) (next : ℕ) (label : Label) → Finds marks keys next → 0 < next → HasLate next ((next, label) ∷ []) keys → Finds (marks ++ (next, label) ∷ []) keys (next + 1)
found_more marks keys next label of start late = record {
  rising = all_pairs_push (λ left right. left.0 < right.0) marks (next, label) of.rising (λ k d l. (of.bounded k d l).1);
  bounded = All-push (λ m. (0 < m.0) × (m.0 < next + 1)) marks (next, label) (λ k d l. let h = of.bounded k d l in (h.0, let top = h.1 in omega (arith, top))) (start, omega arith);
  found = λ asked named n low. elim (cases_lt n next) [
    | inl below ↦
        of.found asked named n below
        ∙ sym (list_any-append (is_hit asked named n) marks ((next, label) ∷ []) ∙ (let out = no_hit asked named n (next, label) (λ e. omega (arith, e, below)) in rw out (or_false _)))
    | inr high ↦
        late asked named n high
        ∙ sym (list_any-append (is_hit asked named n) marks ((next, label) ∷ [])
        ∙ (let out = list_any_none (is_hit asked named n) marks (λ k d l. no_hit asked named n (get_or marks k d) (λ e. let top = (of.bounded k d l).1 in omega (arith, e, top, high))) in rw out refl))
  ];
}
  where
    or_false : (b : Bool) → (b || (false || false)) ≡ b
    or_false true = refl
    or_false false = refl

pub late_more : (keys : Keyed) (next : ℕ) (label : Label) → HasLate next ((next, label) ∷ []) keys → HasLate (next + 1) [] keys
late_more keys next label late asked named n high =
    late asked named n (omega (arith, high)) ∙ (let out = no_hit asked named n (next, label) (λ e. omega (arith, e, high)) in rw out refl)

-- keys that have the same below the next number find the same
pub early_found : (marks : List Mark) (old new : Keyed) (next : ℕ) → KeepsEarly next old new → Finds marks old next → Finds marks new next
early_found marks old new next keeps of = record { rising = of.rising; bounded = of.bounded; found = λ asked named n low. keeps asked named n low ∙ of.found asked named n low }
