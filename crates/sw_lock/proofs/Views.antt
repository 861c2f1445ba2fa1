-- What the rule says of the views, where one of them changes, a new one comes, or two become one.
use Rattle.std.proofs.Common.{◌≡◌, ◌≢◌, ◌⊎◌, ℕ, zero, suc, ◌+◌, ◌*◌, ◌^◌, ◌<◌, ◌≤◌, List, [], ◌∷◌, ◌++◌, length, set, Some, None, sym, refl, ap, ◌∙◌, subst, inl, inr, ⊎_elim, arith, length-append, length-set}
use mathlib.Core.Logic.{dite}
use mathlib.Core.Option.{some, some-injective, some-ne-none}
use native.Mathlib.Decide.{ℕ_discrete}
use lib.ListN.{get_elem?}
use Rattle.atomic_table.proofs.Lists.{at_set, set_here, set_else, at_longer, at_snoc}
use Rattle.sw_lock.specs.declared.view.View.{View}
use Rattle.sw_lock.specs.declared.view.Place.TheVariants.{Away}
use Rattle.sw_lock.specs.Turns.{Has, Draws, total, Tickets, Counts}
use Rattle.sw_lock.specs.Steps.{together, gone}

module _ {A : Type 0} where
  pub at_lt : (l : List A) (i : ℕ) (a : A) → get_elem? l i ≡ some a → i < length l
  at_lt [] i a h = absurd (some-ne-none a (sym h))
  at_lt (x ∷ xs) zero a h = omega arith
  at_lt (x ∷ xs) (suc i) a h = let r = at_lt xs i a h in omega arith

  pub at_one : (l : List A) (i : ℕ) (a b : A) → get_elem? l i ≡ some a → get_elem? l i ≡ some b → a ≡ b
  at_one l i a b h k = some-injective a b (sym h ∙ k)

module _ {V E : Type 0} where
  pub total_set : (f : View V E → ℕ) (views : List (View V E)) (me : ℕ) (v w : View V E) → Has views me v → total f (set views me w) + f v ≡ total f views + f w
  total_set f [] me v w h = absurd (some-ne-none v (sym h))
  total_set f (x ∷ xs) zero v w h = let is : f x ≡ f v = ap f (some-injective x v h) in omega arith
  total_set f (x ∷ xs) (suc me) v w h = let r = total_set f xs me v w h in omega arith

  pub total_snoc : (f : View V E → ℕ) (views : List (View V E)) (w : View V E) → total f (views ++ w ∷ []) ≡ total f views + f w
  total_snoc f [] w = omega arith
  total_snoc f (x ∷ xs) w = let r = total_snoc f xs w in omega arith

  pub total_least : (f : View V E → ℕ) (views : List (View V E)) (me : ℕ) (v : View V E) → Has views me v → f v ≤ total f views
  total_least f [] me v h = absurd (some-ne-none v (sym h))
  total_least f (x ∷ xs) zero v h = let is : f x ≡ f v = ap f (some-injective x v h) in omega arith
  total_least f (x ∷ xs) (suc me) v h = let r = total_least f xs me v h in omega arith

  pub total_two : (f : View V E → ℕ) (views : List (View V E)) (me other : ℕ) (v w z : View V E) → f z ≡ 0 → Has views me v → Has views other w → other ≢ me → f v + f w ≤ total f views
  total_two f views me other v w z none h k ne =
      let s = total_set f views me v z h in let o : Has (set views me z) other w = set_else views me other z ne ∙ k in
      let l = total_least f (set views me z) other w o in omega arith

  pub total_bound : (f g : View V E → ℕ) (views : List (View V E)) → ((id : ℕ) (v : View V E) → Has views id v → f v ≤ 2 ^ 40 * g v) → total f views ≤ 2 ^ 40 * total g views
  total_bound f g [] each = omega arith
  total_bound f g (x ∷ xs) each = let here = each 0 x refl in let r = total_bound f g xs (λ id v h. each (suc id) v h) in omega arith

  -- tickets
  draws_set : (views : List (View V E)) (me : ℕ) (w : View V E) (id k : ℕ) → Draws (set views me w) id k → ((id ≡ me) × (w.ticket ≡ Some k)) ⊎ ((id ≢ me) × Draws views id k)
  draws_set views me w id k d = ⊎_elim (λ mine. inl (mine.0, ap (λ (u : View V E). u.ticket) mine.1 ∙ d.2)) (λ other. inr (other.0, (d.0, other.1, d.2))) (at_set views me id w d.0 d.1)

  draws_else : (views : List (View V E)) (me : ℕ) (w : View V E) (id k : ℕ) → id ≢ me → Draws views id k → Draws (set views me w) id k
  draws_else views me w id k ne d = (d.0, set_else views me id w ne ∙ d.1, d.2)

  draws_here : (views : List (View V E)) (me : ℕ) (v w : View V E) (k : ℕ) → Has views me v → w.ticket ≡ Some k → Draws (set views me w) me k
  draws_here views me v w k h e = (w, set_here views me w (at_lt views me v h), e)

  draws_is : (views : List (View V E)) (me : ℕ) (v : View V E) (id k : ℕ) → Has views me v → Draws views id k → id ≡ me → v.ticket ≡ Some k
  draws_is views me v id k h d e = let same : d.0 ≡ v = at_one views me d.0 v (subst (λ (i : ℕ). Has views i d.0) e d.1) h in ap (λ (u : View V E). u.ticket) (sym same) ∙ d.2

  holder_set : (views : List (View V E)) (me served : ℕ) (w : View V E)
      → ((id : ℕ) (u : View V E) → id ≢ me → Has views id u → u.place ≢ Away → u.ticket ≡ Some served)
      → (w.place ≢ Away → w.ticket ≡ Some served)
      → (id : ℕ) (u : View V E) → Has (set views me w) id u → u.place ≢ Away → u.ticket ≡ Some served
  holder_set views me served w others own id u h away =
      ⊎_elim (λ mine. ap (λ (x : View V E). x.ticket) (sym mine.1) ∙ own (λ e. away (ap (λ (x : View V E). x.place) (sym mine.1) ∙ e))) (λ other. others id u other.0 other.1 away) (at_set views me id w u h)

  -- the ticket stays
  pub tickets_same : (views : List (View V E)) (next served me : ℕ) (v w : View V E) → Tickets views next served → Has views me v → w.ticket ≡ v.ticket → (w.place ≢ Away → w.ticket ≡ Some served)
      → Tickets (set views me w) next served
  tickets_same views next served me v w t h same own =
      let back : (id k : ℕ) → Draws (set views me w) id k → Draws views id k =
      λ id k d. ⊎_elim (λ mine. (v, subst (λ (i : ℕ). Has views i v) (sym mine.0) h, sym same ∙ mine.1)) (λ other. other.1) (draws_set views me w id k d) in
      let on : (id k : ℕ) → Draws views id k → Draws (set views me w) id k =
      λ id k d. dite (ℕ_discrete id me) (λ e. subst (λ (i : ℕ). Draws (set views me w) i k) (sym e) (draws_here views me v w k h (same ∙ draws_is views me v id k h d e))) (λ ne. draws_else views me w id k ne d) in
      record {
        ordered = t.ordered;
        within = λ id k d. t.within id k (back id k d);
        distinct = λ i j k a b. t.distinct i j k (back i k a) (back j k b);
        each = λ k low high. let d = t.each k low high in (d.0, on d.0 k d.1);
        holder = holder_set views me served w (λ id u _ has away. t.holder id u has away) own;
      }

  -- the next ticket is drawn
  pub tickets_drawn : (views : List (View V E)) (next served me : ℕ) (v w : View V E) → Tickets views next served → Has views me v → v.ticket ≡ None → w.ticket ≡ Some next → w.place ≡ Away
      → Tickets (set views me w) (next + 1) served
  tickets_drawn views next served me v w t h no_ticket new away =
      let mine_is : (k : ℕ) → w.ticket ≡ Some k → k ≡ next = λ k e. let s : Some next ≡ Some k = sym new ∙ e in cc in
      let low = t.ordered in
      record {
        ordered = omega arith;
        within = λ id k d. ⊎_elim (λ mine. let e = mine_is k mine.1 in (omega arith, omega arith)) (λ other. let b = t.within id k other.1 in (b.0, omega arith)) (draws_set views me w id k d);
        distinct = λ i j k a b. ⊎_elim
            (λ mine. ⊎_elim (λ too. mine.0 ∙ sym too.0) (λ other. let e = mine_is k mine.1 in let f = t.within j k other.1 in absurd (omega arith)) (draws_set views me w j k b))
            (λ one. ⊎_elim (λ too. let e = mine_is k too.1 in let f = t.within i k one.1 in absurd (omega arith)) (λ other. t.distinct i j k one.1 other.1) (draws_set views me w j k b))
            (draws_set views me w i k a);
        each = λ k least most. dite (ℕ_discrete k next)
            (λ e. (me, draws_here views me v w k h (new ∙ ap (λ (n : ℕ). Some n) (sym e))))
            (λ ne. let d = t.each k least (omega arith) in (d.0, draws_else views me w d.0 k (λ e. let s : None ≡ Some k = sym no_ticket ∙ draws_is views me v d.0 k h d.1 e in cc) d.1));
        holder = holder_set views me served w (λ id u _ has place. t.holder id u has place) (λ place. absurd (place away));
      }

  -- the ticket that is served is done with
  pub tickets_passed : (views : List (View V E)) (next served me : ℕ) (v w : View V E) → Tickets views next served → Has views me v → v.ticket ≡ Some served → w.ticket ≡ None → w.place ≡ Away
      → Tickets (set views me w) next (served + 1)
  tickets_passed views next served me v w t h old none_now away =
      let mine : Draws views me served = (v, h, old) in
      let bounds = t.within me served mine in
      let not_mine : (k : ℕ) → w.ticket ≡ Some k → ⊥ = λ k e. let s : None ≡ Some k = sym none_now ∙ e in cc in
      let others : (id k : ℕ) → Draws (set views me w) id k → (id ≢ me) × Draws views id k = λ id k d. ⊎_elim (λ own. absurd (not_mine k own.1)) (λ other. other) (draws_set views me w id k d) in
      record {
        ordered = omega arith;
        within = λ id k d. let o = others id k d in let b = t.within id k o.1 in
            dite (ℕ_discrete k served) (λ e. absurd (o.0 (t.distinct id me served (subst (λ (n : ℕ). Draws views id n) e o.1) mine))) (λ ne. (omega arith, b.1));
        distinct = λ i j k a b. t.distinct i j k (others i k a).1 (others j k b).1;
        each = λ k low high. let d = t.each k (omega arith) high in
            (d.0, draws_else views me w d.0 k (λ e. let s : Some served ≡ Some k = sym old ∙ draws_is views me v d.0 k h d.1 e in let is : served ≡ k = cc in absurd (omega arith)) d.1);
        holder = holder_set views me (served + 1) w (λ id u ne has place. absurd (ne (t.distinct id me served (u, has, t.holder id u has place) mine))) (λ place. absurd (place away));
      }

  -- a view without a ticket comes
  pub tickets_snoc : (views : List (View V E)) (next served : ℕ) (w : View V E) → Tickets views next served → w.ticket ≡ None → w.place ≡ Away → Tickets (views ++ w ∷ []) next served
  tickets_snoc views next served w t no_ticket away =
      let back : (id k : ℕ) → Draws (views ++ w ∷ []) id k → Draws views id k =
      λ id k d. ⊎_elim (λ old. (d.0, old, d.2)) (λ new. let s : None ≡ Some k = sym no_ticket ∙ (ap (λ (u : View V E). u.ticket) new ∙ d.2) in cc) (at_snoc views w d.0 id d.1) in
      record {
        ordered = t.ordered;
        within = λ id k d. t.within id k (back id k d);
        distinct = λ i j k a b. t.distinct i j k (back i k a) (back j k b);
        each = λ k low high. let d = t.each k low high in (d.0, (d.1.0, at_longer views (w ∷ []) d.0 d.1.0 d.1.1, d.1.2));
        holder = λ id u h place. ⊎_elim (λ old. t.holder id u old place) (λ new. absurd (place (ap (λ (x : View V E). x.place) (sym new) ∙ away))) (at_snoc views w u id h);
      }

  -- counts
  pub counts_set : (views : List (View V E)) (next most me more : ℕ) (v w : View V E) → Counts views next most → Has views me v → w.passes ≡ v.passes → w.turns ≡ v.turns + more → w.turns ≤ 2 ^ 40 * w.passes
      → Counts (set views me w) (next + more) most
  counts_set views next most me more v w c h same turns bound = record {
    turns = let s = total_set (λ (u : View V E). u.turns) views me v w h in let t = c.turns in omega arith;
    stand = let s = total_set (λ (u : View V E). u.passes) views me v w h in let t = c.stand in omega (arith, length-set views me w);
    bound = λ id u has. ⊎_elim (λ mine. subst (λ (x : View V E). x.turns ≤ 2 ^ 40 * x.passes) mine.1 bound) (λ other. c.bound id u other.1) (at_set views me id w u has);
    few = let f = c.few in omega (arith, length-set views me w);
    most_is = c.most_is;
  }

  -- nothing is counted
  pub counts_same : (views : List (View V E)) (next most me : ℕ) (v w : View V E) → Counts views next most → Has views me v → w.passes ≡ v.passes → w.turns ≡ v.turns → Counts (set views me w) next most
  counts_same views next most me v w c h same turns =
      subst (λ (n : ℕ). Counts (set views me w) n most) (omega arith) (counts_set views next most me 0 v w c h same (omega arith) (let b = c.bound me v h in omega arith))

  pub counts_snoc : (views : List (View V E)) (next most : ℕ) (w : View V E) → Counts views next most → w.passes ≡ 1 → w.turns ≡ 0 → length views < most → Counts (views ++ w ∷ []) next most
  counts_snoc views next most w c one no_turns room = record {
    turns = let s = total_snoc (λ (u : View V E). u.turns) views w in let t = c.turns in omega arith;
    stand = let s = total_snoc (λ (u : View V E). u.passes) views w in let t = c.stand in omega (arith, length-append views (w ∷ []));
    bound = λ id u has. ⊎_elim (λ old. c.bound id u old) (λ new. subst (λ (x : View V E). x.turns ≤ 2 ^ 40 * x.passes) new (omega arith)) (at_snoc views w u id has);
    few = omega (arith, length-append views (w ∷ []));
    most_is = c.most_is;
  }

  pub counts_joined : (views : List (View V E)) (next most id other : ℕ) (v w : View V E) → Counts views next most → Has views id v → other ≢ id → Has (set views id (together v w)) other w
      → Counts (set (set views id (together v w)) other gone) next most
  counts_joined views next most id other v w c h ne k =
      let both : View V E = together v w in let k' : Has views other w = sym (set_else views id other both ne) ∙ k in
      let long : length (set (set views id both) other gone) ≡ length views = length-set (set views id both) other gone ∙ length-set views id both in
      record {
        turns = let a = total_set (λ (u : View V E). u.turns) views id v both h in let b = total_set (λ (u : View V E). u.turns) (set views id both) other w gone k in let t = c.turns in omega arith;
        stand = let a = total_set (λ (u : View V E). u.passes) views id v both h in let b = total_set (λ (u : View V E). u.passes) (set views id both) other w gone k in let t = c.stand in omega arith;
        bound = λ i u has. ⊎_elim (λ mine. subst (λ (x : View V E). x.turns ≤ 2 ^ 40 * x.passes) mine.1 (omega arith))
            (λ more. ⊎_elim (λ mine. subst (λ (x : View V E). x.turns ≤ 2 ^ 40 * x.passes) mine.1 (let a = c.bound id v h in let b = c.bound other w k' in omega arith)) (λ old. c.bound i u old.1) (at_set views id i both u more.1))
            (at_set (set views id both) other i gone u has);
        few = let f = c.few in omega arith;
        most_is = c.most_is;
      }

  pub tickets_joined : (views : List (View V E)) (next served id other : ℕ) (v w : View V E) → Tickets views next served → Has views id v → Has (set views id (together v w)) other w → w.ticket ≡ None
      → Tickets (set (set views id (together v w)) other gone) next served
  tickets_joined views next served id other v w t h k idle =
      tickets_same (set views id (together v w)) next served other w gone (tickets_same views next served id v (together v w) t h refl (λ place. t.holder id v h place)) k (sym idle) (λ place. absurd (place refl))

  -- so a ticket is drawn as long as the turns of each view are
  pub next_small : (views : List (View V E)) (next most : ℕ) → Counts views next most → next ≤ 2 ^ 46
  next_small views next most c =
      let b = total_bound (λ (u : View V E). u.turns) (λ (u : View V E). u.passes) views c.bound in let t = c.turns in let s = c.stand in let f = c.few in let m = c.most_is in omega arith
