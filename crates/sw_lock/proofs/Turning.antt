-- One turn, step after step: what the seat is at each, and that it may make the next.
use Rattle.std.proofs.Common.{◌≡◌, ℕ, ◌+◌, ◌%◌, ◌^◌, ◌<◌, ◌≤◌, List, [], ◌∷◌, Option, Some, sym, refl, ap, ◌∙◌, subst, arith}
use mathlib.Core.Option.{none, some, some-injective}
use lib.ListN.{get_elem?}
use Rattle.atomic_table.specs.Table.{step, Allows, Splits, Final, Seen, rest}
use Rattle.sw_lock.specs.declared.logged.Logged.{Ghosts}
use Rattle.sw_lock.specs.declared.view.View.{View}
use Rattle.sw_lock.specs.declared.view.Place.TheVariants.{Away}
use Rattle.sw_lock.specs.Entries.{ThenOwn}
use Rattle.sw_lock.specs.Turns.{Kept, IsEnd}
use Rattle.sw_lock.specs.Steps.{Sat, IsIdle, IsFirst, gave, further, Found, Advanced, Took, holding, counting, with_ticket, without, tallied, passed}
use Rattle.sw_lock.proofs.Turns.{adds, passes_on, splits, closes}
use Rattle.sw_lock.proofs.Stands.{longer}

module _ {X : Type 0} where
  first_or : X → List (ℕ × X) → X
  first_or a [] = a
  first_or a (z ∷ zs) = z.1

  pub slot_there : (c : List (ℕ × X)) (x : X) → c ≡ (0, x) ∷ [] → c ≡ (0, x) ∷ rest c
  slot_there c x e = e ∙ ap (λ (r : List (ℕ × X)). (0, x) ∷ r) (sym (ap rest e))

  pub slot_is : (c : List (ℕ × X)) (a x : X) → c ≡ (0, x) ∷ [] → c ≡ (0, a) ∷ rest c → a ≡ x
  unfolding first_or
  slot_is c a x e f = ap (first_or a) (sym f ∙ e)

module _ {V E G O : Type 0} (g : Ghosts V E G O) where
  -- the seat once the value is its own, and once a step was made
  abbrev pub has : Sat V E → ℕ → V → V → Sat V E
  has m ticket x y = (holding g (with_ticket m ticket).0 x, (0, Some y) ∷ [])

  -- once the ticket is served, the seat has the value
  pub found_seat : (m m1 m2 : Sat V E) (ticket : ℕ) (x : V) → IsIdle m → m1 ≡ with_ticket m ticket → Found g m1 x m2 → Found g (with_ticket m ticket) x m2 × (m2 ≡ has m ticket x x)
  found_seat m m1 m2 ticket x idle e found =
      let f : Found g (with_ticket m ticket) x m2 = subst (λ (n : Sat V E). Found g n x m2) e found in
      (f, f.seat ∙ ap (λ (c : List (ℕ × Option V)). let n : Sat V E = (holding g (with_ticket m ticket).0 x, (0, Some x) ∷ c) in n) idle.empty)

  pub worked_seat : (m m2 : Sat V E) (ticket : ℕ) (x y : V) (slot : Option V) → m2 ≡ has m ticket x x → slot ≡ Some y
      → (let n : Sat V E = (m2.0, (0, slot) ∷ rest m2.1) in n) ≡ has m ticket x y
  worked_seat m m2 ticket x y slot seat e =
      ap (λ (n : Sat V E). let k : Sat V E = (n.0, (0, slot) ∷ rest n.1) in k) seat
      ∙ ap (λ (s : Option V). let k : Sat V E = (holding g (with_ticket m ticket).0 x, (0, s) ∷ []) in k) e

  pub counted_seat : (m m3 m4 : Sat V E) (ticket : ℕ) (x y : V) → m3 ≡ has m ticket x y → ((z : V) → m3.1 ≡ (0, Some z) ∷ [] → m4 ≡ counting g m3 z)
      → m4 ≡ counting g (has m ticket x y) y
  counted_seat m m3 m4 ticket x y e told =
      told y (ap (λ (n : Sat V E). n.1) e) ∙ ap (λ (n : Sat V E). counting g n y) e

  -- the first pass may make a further one
  pub splits_first : (opened : V) (made id next : ℕ) (m : Sat V E) → IsFirst g.log opened next m → IsIdle m → next < made → Splits (Kept g opened made) id m.0 (gave m.0) (further m.0)
  splits_first opened made id next m is idle few =
      let alone = idle.alone in let many : m.0.made ≡ next = ap (λ (n : Sat V E). n.0.made) is in
      splits g opened made id m.0 (ap (λ (n : Sat V E). n.0.number) is) idle.ticket idle.place (omega arith) (ap (λ (n : Sat V E). n.0.opened) is) (omega arith)

  module _ (opened : V) (made : ℕ) where
    pub counts_turn : (slots id added ticket pass : ℕ) (m m3 : Sat V E) (x y : V) (given : G) (answer : O) → IsIdle m → m3 ≡ has m ticket x y
        → pass ≡ m.0.number → Advanced g x given pass y answer added
        → Allows (Kept g opened made) slots id m3 0 (λ n. (n + added) % 2 ^ 64) (tallied g (step slots 0 added 0 none) m3)
    counts_turn slots id added ticket pass m m3 x y given answer idle e number a =
        let alone = idle.alone in
        subst (λ (n : Sat V E). Allows (Kept g opened made) slots id n 0 (λ n. (n + added) % 2 ^ 64) (tallied g (step slots 0 added 0 none) n)) (sym e)
        (adds g opened made slots id added (has m ticket x y) y refl (λ e. cc) (omega arith)
        (subst (λ (k : ℕ). ThenOwn g.maker k (g.log x) (g.log y)) number a.own) a.added_are a.small)

    pub passes_turn : (slots id added ticket pass : ℕ) (m m2 m4 : Sat V E) (x y : V) (given : G) (answer : O) → IsIdle m → m.0.opened ≡ Some opened
        → Found g (with_ticket m ticket) x m2 → Advanced g x given pass y answer added
        → m4 ≡ counting g (has m ticket x y) y
        → Allows (Kept g opened made) slots id m4 2 (λ n. (n + 1) % 2 ^ 64) (passed (step slots 2 1 0 none) m4)
    passes_turn slots id added ticket pass m m2 m4 x y given answer idle start f a e =
        let alone = idle.alone in
        subst (λ (n : Sat V E). Allows (Kept g opened made) slots id n 2 (λ n. (n + 1) % 2 ^ 64) (passed (step slots 2 1 0 none) n)) (sym e)
        (passes_on g opened made slots id (counting g (has m ticket x y) y) y refl (λ e. cc) (omega arith) (a.base_is ∙ (f.base_is opened start).0) refl)

    pub took : (added ticket pass : ℕ) (m m2 m4 m5 : Sat V E) (x y : V) (given : G) (answer : O) → m.0.opened ≡ Some opened → pass ≡ m.0.number
        → Found g (with_ticket m ticket) x m2 → Advanced g x given pass y answer added
        → m4 ≡ counting g (has m ticket x y) y → m5 ≡ without m4
        → Took g opened m given answer m5
    took added ticket pass m m2 m4 m5 x y given answer start number f a e done = record {
      before = x;
      after = y;
      base_is = (f.base_is opened start).0;
      others = f.knows.others;
      own = subst (λ (k : ℕ). ThenOwn g.maker k (g.log x) (g.log y)) number a.own;
      steps_are = subst (λ (k : ℕ). g.steps x given k y answer) number a.steps_are;
      known = let most = f.knows.most in let l = longer g.maker pass (g.log x) (g.log y) a.own in omega arith;
      seat = done ∙ ap without e;
    }

module _ {V E G O : Type 0} (g : Ghosts V E G O) (opened : V) (made : ℕ) where
  -- what was in the slot at the end
  pub closed_slot : (id : ℕ) (v : View V E) (ws : List ℕ) (xs : List (Option V)) (slot : Option V) → v.place ≡ Away → 0 < v.passes → made ≤ v.passes
      → Final (Seen (Kept g opened made) id v) ws xs → get_elem? xs 0 ≡ some slot → (x : V) × (slot ≡ Some x) × IsEnd g opened v x
  closed_slot id v ws xs slot away live all final here =
      let told = closes g opened made id v ws xs away live all final in
      (told.0, some-injective slot (Some told.0) (sym here ∙ told.1), told.2)

  pub closed_value : (v : View V E) (slot : Option V) (value : V) → (x : V) × (slot ≡ Some x) × IsEnd g opened v x → slot ≡ Some value → IsEnd g opened v value
  closed_value v slot value told is =
      let both : Some told.0 ≡ Some value = sym told.1 ∙ is in
      let same : told.0 ≡ value = cc in
      subst (λ (x : V). IsEnd g opened v x) same told.2
