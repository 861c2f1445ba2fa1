-- What the index has of a plan.
use Rattle.std.proofs.Common.{◌≡◌, ℕ, ◌+◌, ◌<◌, ◌≤◌, Bool, true, false, List, [], ◌∷◌, ◌++◌, map, length, get_or, take, refl, inl, inr, sym, ◌∙◌, ap, subst, arith, true≢false, zero, suc}
use Rattle.std.specs.Prelude.{◌^◌, ◌||◌}
use Rattle.std.specs.List.{list_any}
use Rattle.std.specs.BTreeSet.{BTreeSet}
use Rattle.std.proofs.lemmas.Bool.{cases_Bool, cases_lt}
use Rattle.std.proofs.lemmas.List.Elements.{All-push}
use Rattle.std.proofs.lemmas.List.Folds.{list_any_more}
use Rattle.sw_list.specs.declared.marks.Mark.{Mark}
use Rattle.sw_list.specs.Marks.{AreFrom, HasLost, IsFree, KeepsBelow, KeepsSlots, OnlyAdds, Slot, has, is_marked, is_under}
use Rattle.sw_list.specs.Numbered.{AllBelow, AllFrom, mark_of}
use Rattle.sw_list.proofs.DigestLemmas.{stays_out, under_either, under_reads}
use Rattle.sw_list.proofs.IndexLemmas.{added, kept_below, marked_low, marks_joined, more_marks}
use Rattle.sw_caches.specs.declared.entry.Entry.{Entry}
use Rattle.sw_caches.specs.declared.plan.PairsPlan.{PairsPlan}
use Rattle.sw_caches.specs.Entries.{AreIndexed, AreTight, marks, number, pair, pair_digest}
use Rattle.sw_caches.specs.Plans.{IsDraft}

-- from the next number on the index has nothing
pub draft_free : (plan : PairsPlan) (slots : BTreeSet Slot) → IsDraft plan slots → IsFree plan.next slots
draft_free plan slots of key = elim (cases_Bool (has slots key plan.next)) [
  | inl h ↦ absurd (let under = marked_low number pair pair_digest plan.added.items plan.next of.low key plan.next (of.tight key plan.next of.later h) in omega (arith, under))
  | inr h ↦ h
]

-- what two indexes have alike
pub alike : (slots other : BTreeSet Slot) → KeepsSlots slots other → KeepsSlots other slots → (key n : ℕ) → has other key n ≡ has slots key n
alike slots other there back key n = elim (cases_Bool (has slots key n)) [
  | inl h ↦ there key n h ∙ sym h
  | inr h ↦ stays_out slots other back key n h ∙ sym h
]

-- one more mark changes nothing below its number
pub added_above : (mark : Mark) (slots more : BTreeSet Slot) (low : ℕ) → low ≤ mark.number → KeepsSlots slots more → OnlyAdds mark slots more → KeepsBelow low slots more
added_above mark slots more low le keeps only key n under = elim (cases_Bool (has slots key n)) [
  | inl h ↦ keeps key n h ∙ sym h
  | inr h ↦ elim (cases_Bool (has more key n)) [
    | inl now ↦ absurd (let is = (under_reads mark key n (only key n now h)).1 in omega (arith, is, le, under))
    | inr now ↦ now ∙ sym h
  ]
]

module _ (plan new : PairsPlan) (slots more : BTreeSet Slot) (of : IsDraft plan slots) (first : new.first ≡ plan.first) where
  -- a plan that adds nothing, beside an index that has the same
  pub draft_same : new.added.items ≡ plan.added.items → new.next ≡ plan.next → KeepsSlots slots more → KeepsSlots more slots → IsDraft new more
  draft_same items next there back = record {
    indexed = subst (λ (list : List Entry). AreIndexed list more) (sym items) (more_marks number pair pair_digest plan.added.items slots more there of.indexed);
    tight = λ key n le h. subst (λ (list : List Entry). is_marked (marks list) key n ≡ true) (sym items) (of.tight key n (omega (arith, first, le)) (back key n h));
    high = subst (λ (list : List Entry). AllFrom number new.first list) (sym items) (subst (λ low. AllFrom number low plan.added.items) (sym first) of.high);
    low = subst (λ (list : List Entry). AllBelow number new.next list) (sym items) (subst (λ top. AllBelow number top plan.added.items) (sym next) of.low);
    start = let start = of.start in omega (arith, start, first);
    later = let later = of.later in omega (arith, later, first, next);
  }

  -- a plan with one more pair, beside an index with its mark
  pub draft_more : (entry : Entry) (mark : Mark) → new.added.items ≡ plan.added.items ++ entry ∷ [] → new.next ≡ plan.next + 1 → entry.number ≡ plan.next → plan.next + 1 < 2 ^ 64 → mark ≡ mark_of number pair pair_digest entry
      → KeepsSlots slots more → ((key n : ℕ) → is_under mark key n ≡ true → has more key n ≡ true) → OnlyAdds mark slots more → IsDraft new more
  draft_more entry mark items next numbered few is keeps there only = record {
    indexed = subst (λ (list : List Entry). AreIndexed list more) (sym items)
        (added number pair pair_digest plan.added.items entry more (λ k d l. let under = of.low k d l in omega (arith, under, numbered)) (bounds.0, bounds.1) marked (more_marks number pair pair_digest plan.added.items slots more keeps of.indexed));
    tight = λ key n le h. subst (λ (list : List Entry). is_marked (marks list) key n ≡ true) (sym items) (joined key n le h);
    high = subst (λ (list : List Entry). AllFrom number new.first list) (sym items) (subst (λ low. AllFrom number low (plan.added.items ++ entry ∷ [])) (sym first)
        (All-push (λ item. plan.first ≤ number item) plan.added.items entry of.high (let later = of.later in omega (arith, later, numbered))));
    low = subst (λ (list : List Entry). AllBelow number new.next list) (sym items) (subst (λ top. AllBelow number top (plan.added.items ++ entry ∷ [])) (sym next)
        (All-push (λ item. number item < plan.next + 1) plan.added.items entry (λ k d l. let under = of.low k d l in omega (arith, under)) (omega (arith, numbered))));
    start = let start = of.start in omega (arith, start, first);
    later = let later = of.later in omega (arith, later, first, next);
  }
    where
      bounds : (0 < entry.number) × (entry.number < 2 ^ 64)
      bounds = let start = of.start in let later = of.later in (omega (arith, start, later, numbered), omega (arith, few, numbered))

      own : Mark
      own = mark_of number pair pair_digest entry

      marked : (kind : Bool) → has more (pair_digest kind (pair entry)) (number entry) ≡ true
      marked true = there (pair_digest true (pair entry)) (number entry) (ap (λ (m : Mark). is_under m (pair_digest true (pair entry)) (number entry)) is ∙ under_either own (pair_digest true (pair entry)) (inr refl))
      marked false = there (pair_digest false (pair entry)) (number entry) (ap (λ (m : Mark). is_under m (pair_digest false (pair entry)) (number entry)) is ∙ under_either own (pair_digest false (pair entry)) (inl refl))

      joined : (key n : ℕ) → new.first ≤ n → has more key n ≡ true → is_marked (marks (plan.added.items ++ entry ∷ [])) key n ≡ true
      joined key n le h = marks_joined number pair pair_digest plan.added.items (entry ∷ []) key n ∙ elim (cases_Bool (is_marked (marks plan.added.items) key n)) [
        | inl e ↦ rw e refl
        | inr e ↦ elim (cases_Bool (has slots key n)) [
          | inl was ↦ absurd (true≢false (sym (of.tight key n (omega (arith, first, le)) was) ∙ e))
          | inr out ↦ (let under : is_under own key n ≡ true = ap (λ (m : Mark). is_under m key n) (sym is) ∙ only key n h out in rw (e, under) refl)
        ]
      ]

-- a plan that stands alone in its index
pub alone : (plan : PairsPlan) (before slots : BTreeSet Slot) → IsDraft plan slots → KeepsBelow plan.first before slots → ((key n : ℕ) → has before key n ≡ false) → AreTight plan.added.items slots plan.next []
alone plan before slots of below empty = record {
  kept = λ key n h l. elim (cases_lt n plan.first) [
    | inl under ↦ absurd (true≢false (sym h ∙ (below key n under ∙ empty key n)))
    | inr over ↦ of.tight key n over h
  ];
  made = λ key n h le. absurd (let later = of.later in let under = marked_low number pair pair_digest plan.added.items plan.next of.low key n (of.tight key n (omega (arith, later, le)) h) in omega (arith, under, le));
  late = λ k d l. absurd (omega arith);
}

from_marks : (entries : List Entry) (low : ℕ) → AllFrom number low entries → AreFrom low (marks entries)
from_marks [] low of k d l = absurd (omega arith)
from_marks (x ∷ entries) low of zero d l = of 0 x (omega arith)
from_marks (x ∷ entries) low of (suc k) d l = from_marks entries low (λ j e l2. of (suc j) e (omega arith)) k d (omega arith)

module _ (entries : List Entry) (before slots : BTreeSet Slot) (next : ℕ) (low : AllBelow number next entries) where
  pub indexed_still : KeepsBelow next before slots → AreIndexed entries before → AreIndexed entries slots
  indexed_still below of = kept_below number pair pair_digest entries before slots next below low of

  -- a plan was made
  pub planned : (plan : PairsPlan) → plan.first ≡ next → IsDraft plan slots → KeepsBelow next before slots → AreTight entries before next [] → AreTight entries slots next (marks plan.added.items)
  planned plan first draft below of = record {
    kept = λ key n h l. of.kept key n (sym (below key n l) ∙ h) l;
    made = λ key n h le. draft.tight key n (omega (arith, first, le)) h;
    late = subst (λ n. AreFrom n (marks plan.added.items)) first (from_marks plan.added.items plan.first draft.high);
  }

any_mapped : {X Y : Type 0} (f : X → Y) (test : Y → Bool) (xs : List X) → list_any test (map f xs) ≡ list_any (λ x. test (f x)) xs
any_mapped f test [] = refl
any_mapped f test (x ∷ xs) = elim (cases_Bool (test (f x))) [ inl e ↦ rw e refl | inr e ↦ rw e (any_mapped f test xs) ]

-- one more mark is taken
pub entry_lost : (entries : List Entry) (i : ℕ) (d : Entry) (mark : Mark) (slots fewer : BTreeSet Slot) → i < length entries → mark ≡ mark_of number pair pair_digest (get_or entries i d) → HasLost (marks (take i entries)) slots → KeepsSlots fewer slots
    → ((key n : ℕ) → is_under mark key n ≡ true → has fewer key n ≡ false) → HasLost (marks (take (i + 1) entries)) fewer
entry_lost entries i d mark slots fewer within is lost keeps gone key n m = elim (cases_Bool (is_marked (marks (take i entries)) key n)) [
  | inl e ↦ stays_out slots fewer keeps key n (lost key n e)
  | inr e ↦ gone key n (ap (λ (a : Mark). is_under a key n) is ∙ (let either = sym (more) ∙ m in let out = sym (any_mapped own (λ a. is_under a key n) (take i entries)) ∙ e in rw out at either))
]
  where
    own : Entry → Mark
    own = mark_of number pair pair_digest

    more : is_marked (marks (take (i + 1) entries)) key n ≡ (list_any (λ entry. is_under (own entry) key n) (take i entries) || is_under (own (get_or entries i d)) key n)
    more = any_mapped own (λ a. is_under a key n) (take (i + 1) entries) ∙ list_any_more (λ entry. is_under (own entry) key n) entries i d within
