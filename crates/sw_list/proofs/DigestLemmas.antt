-- Lemmas on the order of slots, and on the next slot of a digest.
use Rattle.std.proofs.Common.{◌≡◌, ℕ, ◌+◌, ◌<◌, ◌≤◌, ◌⊎◌, length, get_or, take, true, false, List, [], ◌∷◌, refl, inl, inr, sym, ◌∙◌, ap, subst, arith, true≢false}
use Rattle.std.specs.Prelude.{◌^◌, ◌||◌, cond, nat_eq}
use Rattle.std.specs.List.{list_any, slice_get}
use Rattle.std.specs.Ordering.{nat_cmp, ordering_then, is_gt}
use Rattle.std.specs.declared.cmp.Ordering.TheVariants.{Less, Equal, Greater}
use Rattle.std.specs.declared.ops.Bound.TheVariants.{Included, Excluded}
use Rattle.std.specs.Cmp.{nat_cmp_is}
use Rattle.std.specs.BTreeSet.{BTreeSet, Updates, IsKeyRangeOf, IsKeyInRange}
use Rattle.std.specs.BTreeMap.{is_at}
use Rattle.std.specs.BTreeMap.Range.{IsLeBy}
use Rattle.std.specs.Option.{IfSome}
use Rattle.std.proofs.lemmas.Bool.{and_parts, cases_order, cases_Bool, cases_lt, eq-eqb, eqb-true}
use Rattle.sw_list.specs.declared.marks.Mark.{Mark}
use Rattle.std.proofs.lemmas.List.Folds.{list_any_more}
use Rattle.sw_list.specs.Marks.{Slot, slot_cmp, has, is_marked, is_under, AreFrom, HasLost, KeepsBelow, KeepsOthers, KeepsSlots, NoneBetween}

pub cmp_less : (x y : ℕ) → x < y → nat_cmp x y ≡ Less
cmp_less x y h = sym (nat_cmp_is x y Less h)

pub cmp_greater : (x y : ℕ) → y < x → nat_cmp x y ≡ Greater
cmp_greater x y h = sym (nat_cmp_is x y Greater h)

pub cmp_same : (x : ℕ) → nat_cmp x x ≡ Equal
cmp_same x = sym (nat_cmp_is x x Equal refl)

pub slot_less : (k a b : ℕ) → a < b → slot_cmp (k, a) (k, b) ≡ Less
slot_less k a b h = rw (cmp_same k) (cmp_less a b h)

pub slot_greater : (k a b : ℕ) → b < a → slot_cmp (k, a) (k, b) ≡ Greater
slot_greater k a b h = rw (cmp_same k) (cmp_greater a b h)

pub slot_reads : (k a m x y : ℕ) → slot_cmp (k, a) (x, y) ≡ Less → is_gt (slot_cmp (x, y) (k, m)) ≡ false → (x ≡ k) × (a < y) × (y ≤ m)
slot_reads k a m x y lt le =
    elim (cases_order k x) [
      | inl e ↦ (
        sym e,
        elim (cases_order a y) [
          | inl f ↦ absurd (let g : ordering_then (nat_cmp k x) (nat_cmp a y) ≡ Equal = rw (← e, ← f) (rw (cmp_same k) (cmp_same a)) in less_equal (sym lt ∙ g))
          | inr (inl h) ↦ h
          | inr (inr h) ↦ absurd (let g : ordering_then (nat_cmp k x) (nat_cmp a y) ≡ Greater = rw (← e) (rw (cmp_same k) (cmp_greater a y h)) in less_greater (sym lt ∙ g))
        ],
        elim (cases_lt m y) [
          | inl h ↦ absurd (let g : ordering_then (nat_cmp x k) (nat_cmp y m) ≡ Greater = rw (← e) (rw (cmp_same k) (cmp_greater y m h)) in true≢false (sym (ap is_gt g) ∙ le))
          | inr h ↦ h
        ],
      )
      | inr (inl h) ↦ absurd (true≢false (sym (ap (λ o. is_gt (ordering_then o (nat_cmp y m))) (cmp_greater x k h)) ∙ le))
      | inr (inr h) ↦ absurd (less_greater (sym lt ∙ ap (λ o. ordering_then o (nat_cmp a y)) (cmp_greater k x h)))
    ]
  where
    less_equal : Less ≡ Equal → ⊥
    less_equal h = cc

    less_greater : Less ≡ Greater → ⊥
    less_greater h = cc

-- slots with other numbers are apart
pub apart : (k m l n : ℕ) → (m ≡ n → ⊥) → is_at (slot_cmp (k, m)) (l, n) ≡ false
apart k m l n ne = elim (cases_order k l) [
  | inl e ↦ rw (← e, cmp_same k) (elim (cases_order m n) [
    | inl f ↦ absurd (ne f)
    | inr (inl h) ↦ rw (cmp_less m n h) refl
    | inr (inr h) ↦ rw (cmp_greater m n h) refl
  ])
  | inr (inl h) ↦ rw (cmp_less k l h) refl
  | inr (inr h) ↦ rw (cmp_greater k l h) refl
]

pub slot_le : (k a b : ℕ) → a ≤ b → is_gt (slot_cmp (k, a) (k, b)) ≡ false
slot_le k a b h =
    elim (cases_order a b) [
      | inl e ↦ rw (cmp_same k, e, cmp_same b) refl
      | inr (inl l) ↦ ap is_gt (slot_less k a b l)
      | inr (inr l) ↦ absurd (omega arith)
    ]

module _ (s : BTreeSet Slot) (key after : ℕ) (r : List Slot) (of : IsKeyRangeOf slot_cmp (Excluded (key, after)) (Included (key, 18446744073709551615)) s r) where
  pub next_none : r ≡ [] → NoneBetween s key after (2 ^ 64)
  next_none e n lo hi = of.5 e (key, n) (slot_less key after n lo, slot_le key n 18446744073709551615 (omega arith))

  pub next_some : (slot : Slot) (rest : List Slot) → r ≡ slot ∷ rest → (after < slot.1) × NoneBetween s key after slot.1
  next_some slot rest e = (here.1, none)
    where
      inside : IsKeyInRange slot_cmp (Excluded (key, after)) (Included (key, 18446744073709551615)) s slot
      inside = subst (λ (l : List Slot). IfSome (slice_get l 0) (IsKeyInRange slot_cmp (Excluded (key, after)) (Included (key, 18446744073709551615)) s)) e of.1

      here : (slot.0 ≡ key) × (after < slot.1) × (slot.1 ≤ 18446744073709551615)
      here = slot_reads key after 18446744073709551615 slot.0 slot.1 inside.0.0 inside.0.1

      none : NoneBetween s key after slot.1
      none n lo hi = elim (cases_Bool (has s key n)) [
        | inr out ↦ out
        | inl within ↦
            let top = here.2 in
            let least = subst (λ (l : List Slot). IfSome (slice_get l 0) (λ k. IsLeBy slot_cmp k (key, n))) e
            (of.2 (key, n) (slot_less key after n lo, slot_le key n 18446744073709551615 (omega arith)) within) in
            let past : slot_cmp slot (key, n) ≡ Greater = rw here.0 (slot_greater key slot.1 n hi) in
            absurd (true≢false (sym (ap is_gt past) ∙ least))
      ]

-- an index with more slots has what it had
pub more_slots : (slots more : BTreeSet Slot) (slot : Slot) → Updates slot_cmp slots more slot true → KeepsSlots slots more
more_slots slots more slot up key n h = elim (cases_Bool (is_at (slot_cmp slot) (key, n))) [
  | inl e ↦ up.0 (key, n) ∙ ap (λ b. cond b true (has slots key n)) e
  | inr e ↦ up.2 (key, n) e ∙ h
]

-- an index with the same keys has the same slots
pub same_slots : (slots same : BTreeSet Slot) → same.keys ≡ slots.keys → KeepsSlots slots same
same_slots slots same e key n h = ap (λ keys. list_any (is_at (slot_cmp (key, n))) keys) e ∙ h

-- an index without a slot has those of other numbers
pub fewer_slots : (slots fewer : BTreeSet Slot) (key number : ℕ) → Updates slot_cmp slots fewer (key, number) false → KeepsOthers number slots fewer
fewer_slots slots fewer key number up other n apart_from = up.2 (other, n) (apart key number other n (λ e. apart_from (sym e)))

-- an index without a slot hasn't got it
pub slot_gone : (slots fewer : BTreeSet Slot) (key number : ℕ) → Updates slot_cmp slots fewer (key, number) false → has fewer key number ≡ false
slot_gone slots fewer key number up = up.0 (key, number) ∙ ap (λ b. cond b false (has slots key number)) itself
  where
    itself : is_at (slot_cmp (key, number)) (key, number) ≡ true
    itself = rw (cmp_same key, cmp_same number) refl

-- the slot that a slot is compared with and that is at its place is the same
at_reads : (k m l n : ℕ) → is_at (slot_cmp (k, m)) (l, n) ≡ true → (l ≡ k) × (n ≡ m)
at_reads k m l n at = elim (cases_order k l) [
  | inl e ↦ elim (cases_order m n) [
    | inl f ↦ (sym e, sym f)
    | inr (inl h) ↦ absurd (true≢false (sym at ∙ apart k m l n (λ f. omega arith)))
    | inr (inr h) ↦ absurd (true≢false (sym at ∙ apart k m l n (λ f. omega arith)))
  ]
  | inr (inl h) ↦ absurd (true≢false (sym at ∙ rw (cmp_less k l h) refl))
  | inr (inr h) ↦ absurd (true≢false (sym at ∙ rw (cmp_greater k l h) refl))
]

-- what an index with one more slot has more is this slot
pub only_slot : (slots more : BTreeSet Slot) (key number : ℕ) → Updates slot_cmp slots more (key, number) true → (k n : ℕ) → has more k n ≡ true → has slots k n ≡ false → (k ≡ key) × (n ≡ number)
only_slot slots more key number up k n now was = elim (cases_Bool (is_at (slot_cmp (key, number)) (k, n))) [
  | inl e ↦ at_reads key number k n e
  | inr e ↦ absurd (true≢false (sym now ∙ (up.2 (k, n) e ∙ was)))
]

-- an index without a slot has nothing that it had not
pub none_more : (slots fewer : BTreeSet Slot) (key number : ℕ) → Updates slot_cmp slots fewer (key, number) false → KeepsSlots fewer slots
none_more slots fewer key number up k n h = elim (cases_Bool (is_at (slot_cmp (key, number)) (k, n))) [
  | inl e ↦ absurd (true≢false (sym h ∙ (up.0 (k, n) ∙ ap (λ b. cond b false (has slots k n)) e)))
  | inr e ↦ sym (up.2 (k, n) e) ∙ h
]

-- what isn't in an index isn't in one that has nothing more
pub stays_out : (slots fewer : BTreeSet Slot) → KeepsSlots fewer slots → (key n : ℕ) → has slots key n ≡ false → has fewer key n ≡ false
stays_out slots fewer keeps key n out = elim (cases_Bool (has fewer key n)) [
  | inl h ↦ absurd (true≢false (sym (keeps key n h) ∙ out))
  | inr h ↦ h
]

-- what stands under a digest by a mark
pub under_reads : (mark : Mark) (key n : ℕ) → is_under mark key n ≡ true → ((key ≡ mark.first) ⊎ (key ≡ mark.second)) × (n ≡ mark.number)
under_reads mark key n h =
    let both = and_parts (nat_eq key mark.first || nat_eq key mark.second) (nat_eq n mark.number) h in (
      elim (cases_Bool (nat_eq key mark.first)) [
        | inl e ↦ inl (eqb-true key mark.first e)
        | inr e ↦ inr (let either = both.0 in eqb-true key mark.second (rw e at either))
      ],
      eqb-true n mark.number both.1,
    )

pub under_either : (mark : Mark) (key : ℕ) → (key ≡ mark.first) ⊎ (key ≡ mark.second) → is_under mark key mark.number ≡ true
under_either mark key (inl e) = rw (eq-eqb key mark.first e, eq-eqb mark.number mark.number refl) refl
under_either mark key (inr e) = elim (cases_Bool (nat_eq key mark.first)) [
  | inl h ↦ rw (h, eq-eqb mark.number mark.number refl) refl
  | inr h ↦ rw (h, eq-eqb key mark.second e, eq-eqb mark.number mark.number refl) refl
]

module _ (marks : List Mark) (i : ℕ) (d : Mark) (slots fewer : BTreeSet Slot) (within : i < length marks) where
  -- one more mark is taken
  pub lost_more : HasLost (take i marks) slots → KeepsSlots fewer slots → ((key n : ℕ) → is_under (get_or marks i d) key n ≡ true → has fewer key n ≡ false) → HasLost (take (i + 1) marks) fewer
  lost_more lost keeps gone key n m = elim (cases_Bool (is_marked (take i marks) key n)) [
    | inl e ↦ stays_out slots fewer keeps key n (lost key n e)
    | inr e ↦ gone key n (let either = sym (list_any_more (λ (a : Mark). is_under a key n) marks i d within) ∙ m in rw e at either)
  ]

  -- a mark with a high number is taken
  pub taken_above : (low : ℕ) → AreFrom low marks → KeepsOthers (get_or marks i d).number slots fewer → KeepsBelow low slots fewer
  taken_above low from others key n under = others key n (λ e. let high = from i d within in omega (arith, e, high, under))
