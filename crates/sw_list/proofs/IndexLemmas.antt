-- What an index finds.
use Rattle.std.proofs.Common.{◌≡◌, ℕ, ◌+◌, ◌-◌, ◌<◌, ◌≤◌, Bool, true, false, List, [], ◌∷◌, ◌++◌, map, length, get_or, Some, None, refl, inl, inr, sym, ◌∙◌, ap, subst, arith, true≢false, All, set, zero, suc}
use Rattle.std.specs.Prelude.{remove, ◌^◌, ◌||◌}
use Rattle.std.specs.BTreeSet.{BTreeSet}
use Rattle.std.proofs.lemmas.Bool.{cases_order, cases_Bool, cases_lt}
use Rattle.std.proofs.lemmas.List.{get_or_default, get_or_append_left, get_or-append_right, get_or-set_other, get_or-set_same, length-append, length-set, map-append}
use Rattle.std.proofs.lemmas.List.Quantifiers.{all_pairs_push, all_pairs_remove}
use Rattle.std.proofs.lemmas.List.Elements.{All-append, All-push}
use Rattle.std.proofs.lemmas.List.Folds.{list_any-append}
use Rattle.sw_list.specs.declared.marks.Mark.{Mark}
use Rattle.sw_list.specs.Marks.{HasLost, IsFree, KeepsBelow, KeepsOthers, KeepsSlots, NoneBetween, OnlyAdds, Slot, has, is_marked, is_under}
use Rattle.sw_list.specs.Numbered.{AllBelow, DropsMarks, IsIndexed, IsThinned, IsTight, KeepsAbove, MatchOnlyAbove, NoneOfNumber, StandsAt, first_by, mark_of, marks_of}
use Rattle.sw_list.proofs.FindLemmas.{All_kept, any_left, filter_remove, find_here, find_none, found_reads}
use Rattle.sw_list.proofs.DigestLemmas.{under_reads}

module _ {X Y : Type 0} (number : X → ℕ) (item : X → Y) where
  module _ (digest_of : Bool → Y → ℕ) (test : Y → Bool) (code : ℕ) (kind : Bool) (keyed : (p : Y) → test p ≡ true → digest_of kind p ≡ code) (xs : List X) (slots : BTreeSet Slot) (of : IsIndexed number item digest_of xs slots) (after : ℕ) (above : MatchOnlyAbove number item test xs after) where
    -- a matching entry stands no lower than the next number of the digest
    reach : (n : ℕ) → NoneBetween slots code after n → (k : ℕ) (d : X) → k < length xs → test (item (get_or xs k d)) ≡ true → n ≤ number (get_or xs k d)
    reach n none k d l is = elim (cases_lt (number (get_or xs k d)) n) [
      | inr high ↦ high
      | inl low ↦
          let m = number (get_or xs k d) in
          let f : has slots (digest_of kind (item (get_or xs k d))) m ≡ true = of.indexed kind k d l in
          let g : has slots code m ≡ false = none m (above k d l is) low in
          absurd (true≢false (sym f ∙ (ap (λ (key : ℕ). has slots key m) (keyed (item (get_or xs k d)) is) ∙ g)))
    ]

    pub step : (n : ℕ) → NoneBetween slots code after n → NoneOfNumber number item test xs n → MatchOnlyAbove number item test xs n
    step n none fails k d l is = elim (cases_order n (number (get_or xs k d))) [
      | inl e ↦ absurd (true≢false (sym is ∙ fails k d l (sym e)))
      | inr (inl h) ↦ h
      | inr (inr h) ↦ absurd (let f = reach n none k d l is in omega arith)
    ]

    pub first_found : (n place : ℕ) (p : Y) → NoneBetween slots code after n → StandsAt number xs n place
        → ((d : X) → item (get_or xs place d) ≡ p) → test p ≡ true → Some (place, p) ≡ first_by test (map item xs)
    first_found n place p none stands is hits = go xs refl
      where
        go : (ys : List X) → xs ≡ ys → Some (place, p) ≡ first_by test (map item xs)
        go [] e = absurd (let l = stands.0 in let f : length xs ≡ 0 = ap length e in omega arith)
        go (d ∷ ys) e = sym (find_here item test xs 0 place d stands.0 (ap test (is d) ∙ hits)
            (λ k l. elim (cases_Bool (test (item (get_or xs k d)))) [
              | inr out ↦ out
              | inl within ↦ absurd (let l2 = stands.0 in let f = reach n none k d (omega arith) within in let g = of.rising k place d l l2 in let h = stands.1 d in omega arith)
            ])
            ∙ (let z : 0 + place ≡ place = omega arith in (λ i. Some (z i, is d i))))

    pub first_none : NoneBetween slots code after (2 ^ 64) → None ≡ first_by test (map item xs)
    first_none none = sym (find_none item test xs 0 (λ k d l. elim (cases_Bool (test (item (get_or xs k d)))) [
      | inr out ↦ out
      | inl hits ↦ absurd (let f = reach (2 ^ 64) none k d l hits in let g = (of.bounded k d l).1 in omega arith)
    ]))

module _ {X Y : Type 0} (number : X → ℕ) (item : X → Y) (digest_of : Bool → Y → ℕ) (test : Y → Bool) (old : List X) (before : BTreeSet Slot) (xs : List X) (slots after : BTreeSet Slot) where
  pub thinned_more : (found : ℕ) (p : Y) (x : X) → IsThinned number item digest_of test old before xs slots → Some (found, p) ≡ first_by test (map item xs)
      → x ≡ get_or xs found x → (mark : Mark) → mark ≡ mark_of number item digest_of x → KeepsOthers mark.number slots after → KeepsSlots after slots
      → ((key n : ℕ) → is_under mark key n ≡ true → has after key n ≡ false)
      → IsThinned number item digest_of test old before (remove xs found) after
  thinned_more found p x of first is mark same others fewer gone = record {
    indexed = record {
      rising = all_pairs_remove (λ left right. number left < number right) xs found low of.indexed.rising;
      bounded = All_kept (λ entry. (0 < number entry) × (number entry < 2 ^ 64)) xs found low (λ j d l ne. of.indexed.bounded j d l);
      indexed = λ kind. All_kept (λ entry. has after (digest_of kind (item entry)) (number entry) ≡ true) xs found low
          (λ j d l ne. rest (digest_of kind (item (get_or xs j d))) (number (get_or xs j d)) (λ e. other j d l ne (sym e)) ∙ of.indexed.indexed kind j d l);
    };
    others = filter_remove item test xs found x low (hit x) ∙ of.others;
    above = λ n all. let was = of.above n all in (
      All_kept (λ entry. number entry < n) xs found low (λ j d l ne. was.0 j d l),
      λ key. (let under : number x < n = subst (λ y. number y < n) (sym is) (was.0 found x low) in rest key n (λ e. omega arith)) ∙ was.1 key,
    );
    drops = λ key n now. let was = of.drops key n (fewer key n now) in (was.0, λ m. still key n now (was.1 m));
  }
    where
      reads : (place : ℕ) × (0 + place ≡ found) × (place < length xs) × ((d : X) → test (item (get_or xs place d)) ≡ true)
      reads = found_reads item test xs 0 found p (sym first)

      low : found < length xs
      low = let a = reads.1 in let b = reads.2 in omega arith

      hit : (d : X) → test (item (get_or xs found d)) ≡ true
      hit d = let e : reads.0 ≡ found = (let a = reads.1 in omega arith) in subst (λ k. test (item (get_or xs k d)) ≡ true) e (reads.3 d)

      rest : KeepsOthers (number x) slots after
      rest = subst (λ (a : Mark). KeepsOthers a.number slots after) same others

      still : (key n : ℕ) → has after key n ≡ true → is_marked (marks_of number item digest_of xs) key n ≡ true → is_marked (marks_of number item digest_of (remove xs found)) key n ≡ true
      still key n now m = elim (cases_Bool (is_under (mark_of number item digest_of x) key n)) [
        | inl e ↦ absurd (true≢false (sym now ∙ gone key n (ap (λ (a : Mark). is_under a key n) same ∙ e)))
        | inr e ↦ any_left (mark_of number item digest_of) (λ (a : Mark). is_under a key n) xs found x low (ap (λ y. is_under (mark_of number item digest_of y) key n) (sym is) ∙ e) m
      ]

      other : (j : ℕ) (d : X) → j < length xs → (j ≡ found → ⊥) → number x ≡ number (get_or xs j d) → ⊥
      other j d l ne e =
          let f : number x ≡ number (get_or xs found d) = ap number (is ∙ get_or_default xs found x d low) in
          elim (cases_order j found) [
            | inl e2 ↦ ne e2
            | inr (inl h) ↦ (let g = of.indexed.rising j found d h low in omega arith)
            | inr (inr h) ↦ (let g = of.indexed.rising found j d h l in omega arith)
          ]

module _ {X Y : Type 0} (number : X → ℕ) (item : X → Y) (digest_of : Bool → Y → ℕ) where
  -- the index serves a list of later numbers beside the entries, whatever is taken out of them
  pub beside : (old new later : List X) (before after : BTreeSet Slot) (n : ℕ) → KeepsAbove number old before new after → All (λ entry. number entry < n) old → All (λ entry. n ≤ number entry) later
      → IsIndexed number item digest_of later before → IsIndexed number item digest_of later after
  beside old new later before after n keeps low high of = record {
    rising = of.rising;
    bounded = of.bounded;
    indexed = λ kind k d l.
        let y = get_or later k d in
        (keeps (number y) (λ j e l2. let f = low j e l2 in let g = high k d l in omega arith)).1 (digest_of kind (item y)) ∙ of.indexed kind k d l;
  }

  -- entries of later numbers at the end
  pub joined : (xs later : List X) (slots : BTreeSet Slot) (n : ℕ) → All (λ entry. number entry < n) xs → All (λ entry. n ≤ number entry) later
      → IsIndexed number item digest_of xs slots → IsIndexed number item digest_of later slots → IsIndexed number item digest_of (xs ++ later) slots
  joined xs later slots n low high of also = record {
    rising = λ i j d l lt. elim (cases_lt j (length xs)) [
      | inl front ↦ rw (get_or_append_left xs later d i (omega arith), get_or_append_left xs later d j front) (of.rising i j d l front)
      | inr back ↦ rw (get_or-append_right xs later (length xs) j d refl back) (let size = length-append xs later in elim (cases_lt i (length xs)) [
        | inl front ↦ rw (get_or_append_left xs later d i front) (let f = low i d front in let g = high (j - length xs) d (omega arith) in omega arith)
        | inr rear ↦ rw (get_or-append_right xs later (length xs) i d refl rear) (also.rising (i - length xs) (j - length xs) d (omega arith) (omega arith))
      ])
    ];
    bounded = All-append (λ entry. (0 < number entry) × (number entry < 2 ^ 64)) xs later of.bounded also.bounded;
    indexed = λ kind. All-append (λ entry. has slots (digest_of kind (item entry)) (number entry) ≡ true) xs later (of.indexed kind) (also.indexed kind);
  }

  -- an entry of a later number at the end
  pub added : (xs : List X) (x : X) (slots : BTreeSet Slot) → All (λ entry. number entry < number x) xs → (0 < number x) × (number x < 2 ^ 64)
      → ((kind : Bool) → has slots (digest_of kind (item x)) (number x) ≡ true) → IsIndexed number item digest_of xs slots → IsIndexed number item digest_of (xs ++ x ∷ []) slots
  added xs x slots low bound marked of = record {
    rising = all_pairs_push (λ left right. number left < number right) xs x of.rising low;
    bounded = All-push (λ entry. (0 < number entry) × (number entry < 2 ^ 64)) xs x of.bounded bound;
    indexed = λ kind. All-push (λ entry. has slots (digest_of kind (item entry)) (number entry) ≡ true) xs x (of.indexed kind) (marked kind);
  }

  -- an index with more slots serves as well
  pub more_marks : (xs : List X) (slots more : BTreeSet Slot) → KeepsSlots slots more → IsIndexed number item digest_of xs slots → IsIndexed number item digest_of xs more
  more_marks xs slots more keeps of = record {
    rising = of.rising;
    bounded = of.bounded;
    indexed = λ kind k d l. keeps (digest_of kind (item (get_or xs k d))) (number (get_or xs k d)) (of.indexed kind k d l);
  }

module _ {X Y : Type 0} (number : X → ℕ) (item : X → Y) (digest_of : Bool → Y → ℕ) where
  -- the index is as it was below the next number
  pub kept_below : (xs : List X) (slots after : BTreeSet Slot) (next : ℕ) → KeepsBelow next slots after → AllBelow number next xs → IsIndexed number item digest_of xs slots → IsIndexed number item digest_of xs after
  kept_below xs slots after next keeps low of = record {
    rising = of.rising;
    bounded = of.bounded;
    indexed = λ kind k d l. keeps (digest_of kind (item (get_or xs k d))) (number (get_or xs k d)) (low k d l) ∙ of.indexed kind k d l;
  }

  -- marks that were made ahead are taken
  pub forgotten : (xs : List X) (slots after : BTreeSet Slot) (next : ℕ) (ahead : List Mark) → IsTight number item digest_of xs slots next ahead → KeepsSlots after slots → HasLost ahead after
      → IsTight number item digest_of xs after next []
  forgotten xs slots after next ahead of fewer gone = record {
    kept = λ key n h l. of.kept key n (fewer key n h) l;
    made = λ key n h l. absurd (true≢false (sym h ∙ gone key n (of.made key n (fewer key n h) l)));
    late = λ k d l. absurd (omega arith);
  }

  pub drops_more : (old mid new : List X) (before between after : BTreeSet Slot) → DropsMarks number item digest_of old before mid between → DropsMarks number item digest_of mid between new after
      → DropsMarks number item digest_of old before new after
  drops_more old mid new before between after first then key n now =
      let b = then key n now in
      let a = first key n b.0 in
      (a.0, λ m. b.1 (a.1 m))

  -- entries are taken out with their marks
  pub dropped : (old new : List X) (before after : BTreeSet Slot) (next : ℕ) (ahead : List Mark) → DropsMarks number item digest_of old before new after → IsTight number item digest_of old before next ahead
      → IsTight number item digest_of new after next ahead
  dropped old new before after next ahead drops of = record {
    kept = λ key n h l. (let was = drops key n h in was.1 (of.kept key n was.0 l));
    made = λ key n h l. of.made key n (drops key n h).0 l;
    late = of.late;
  }

  -- the marks of entries have their numbers
  pub marked_low : (xs : List X) (top : ℕ) → AllBelow number top xs → (key n : ℕ) → is_marked (marks_of number item digest_of xs) key n ≡ true → n < top
  marked_low [] top low key n m = absurd (true≢false (sym m))
  marked_low (x ∷ xs) top low key n m = elim (cases_Bool (is_under (mark_of number item digest_of x) key n)) [
    | inl e ↦ (let is = (under_reads (mark_of number item digest_of x) key n e).1 in let under = low 0 x (omega arith) in omega (arith, is, under))
    | inr e ↦ marked_low xs top (λ k d l. low (suc k) d (omega arith)) key n (rw e at m)
  ]

  pub marks_joined : (xs later : List X) (key n : ℕ) → is_marked (marks_of number item digest_of (xs ++ later)) key n ≡ (is_marked (marks_of number item digest_of xs) key n || is_marked (marks_of number item digest_of later) key n)
  marks_joined xs later key n = ap (λ (marks : List Mark). is_marked marks key n) (map-append (mark_of number item digest_of) xs later)
      ∙ list_any-append (λ (mark : Mark). is_under mark key n) (marks_of number item digest_of xs) (marks_of number item digest_of later)

  -- entries whose marks were made ahead are put at the end
  pub arrived : (xs later : List X) (slots : BTreeSet Slot) (next top : ℕ) → next ≤ top → AllBelow number top later → ((key n : ℕ) → has slots key n ≡ true → n < next → is_marked (marks_of number item digest_of xs) key n ≡ true)
      → ((key n : ℕ) → has slots key n ≡ true → next ≤ n → is_marked (marks_of number item digest_of later) key n ≡ true) → IsTight number item digest_of (xs ++ later) slots top []
  arrived xs later slots next top le low front back = record {
    kept = λ key n h l. elim (cases_lt n next) [
      | inl under ↦ marks_joined xs later key n ∙ rw (front key n h under) refl
      | inr over ↦ marks_joined xs later key n ∙ elim (cases_Bool (is_marked (marks_of number item digest_of xs) key n)) [ inl e ↦ rw e refl | inr e ↦ rw e (back key n h over) ]
    ];
    made = λ key n h l. absurd (let under = marked_low later top low key n (back key n h (omega arith)) in omega arith);
    late = λ k d l. absurd (omega arith);
  }

module _ {X : Type 0} (number : X → ℕ) where
  pub above_same : (xs : List X) (slots : BTreeSet Slot) → KeepsAbove number xs slots xs slots
  above_same xs slots n all = (all, λ key. refl)

  pub above_more : (old mid new : List X) (before between after : BTreeSet Slot) → KeepsAbove number old before mid between → KeepsAbove number mid between new after → KeepsAbove number old before new after
  above_more old mid new before between after first then n all =
      let a = first n all in
      let b = then n a.0 in
      (b.0, λ key. b.1 key ∙ a.1 key)

  -- numbers below one, and then below a later one
  pub below_all : (xs later : List X) (low top : ℕ) → low ≤ top → AllBelow number low xs → AllBelow number top later → AllBelow number top (xs ++ later)
  below_all xs later low top le front back = All-append (λ entry. number entry < top) xs later (λ k d l. let h = front k d l in omega arith) back
