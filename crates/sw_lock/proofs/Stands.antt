-- What the views that stand for a pass say stays true.
use Rattle.std.proofs.Common.{◌≡◌, ◌≢◌, ◌⊎◌, ℕ, zero, suc, ◌+◌, ◌<◌, ◌≤◌, List, [], ◌∷◌, ◌++◌, length, set, All, sym, refl, ap, ◌∙◌, subst, inl, inr, ⊎_elim, arith, append_assoc, length-append, length-set}
use Rattle.std.proofs.lemmas.List.{append-nil}
use Rattle.std.proofs.lemmas.List.Elements.{All-nil, All-append, All-push, All-weaker}
use mathlib.Core.Option.{some, some-injective, some-ne-none}
use lib.ListN.{get_elem?}
use Rattle.atomic_table.proofs.Lists.{at_set, set_here, set_else, at_longer}
use Rattle.sw_lock.specs.declared.view.View.{View}
use Rattle.sw_lock.specs.declared.view.Note.{Note}
use Rattle.sw_lock.specs.Entries.{ThenOwn, ThenOthers}
use Rattle.sw_lock.specs.Turns.{Has, Spent, Knows, Stands, AllStand}
use Rattle.sw_lock.specs.Steps.{gave, further, together, note, gone}
use Rattle.sw_lock.proofs.Views.{at_lt, at_one}

module _ {A : Type 0} where
  pub at_snoc_place : (l : List A) (a b : A) (j : ℕ) → get_elem? (l ++ a ∷ []) j ≡ some b → (get_elem? l j ≡ some b) ⊎ ((j ≡ length l) × (a ≡ b))
  at_snoc_place [] a b zero e = inr (refl, some-injective a b e)
  at_snoc_place [] a b (suc j) e = absurd (some-ne-none b (sym e))
  at_snoc_place (x ∷ xs) a b zero e = inl e
  at_snoc_place (x ∷ xs) a b (suc j) e = ⊎_elim (λ old. inl old) (λ new. let is = new.0 in inr (omega arith, new.1)) (at_snoc_place xs a b j e)

module _ {E : Type 0} (maker : E → ℕ) where
  pub nothing_own : (number : ℕ) (history : List E) → ThenOwn maker number history history
  nothing_own number history = ([], sym (append-nil history), All-nil (λ e. maker e ≡ number))

  pub nothing_others : (number : ℕ) (history : List E) → ThenOthers maker number history history
  nothing_others number history = ([], sym (append-nil history), All-nil (λ e. maker e ≢ number))

  pub longer : (number : ℕ) (history more : List E) → ThenOwn maker number history more → length history ≤ length more
  longer number history more g = let e = ap length g.1 in omega (arith, length-append history g.0)

  -- entries of one pass are others' entries for another
  pub others_grow : (number me : ℕ) (seen history more : List E) → number ≢ me → ThenOthers maker number seen history → ThenOwn maker me history more → ThenOthers maker number seen more
  others_grow number me seen history more ne o g = (
    o.0 ++ g.0,
    g.1 ∙ (ap (λ (h : List E). h ++ g.0) o.1 ∙ append_assoc seen o.0 g.0),
    All-append (λ e. maker e ≢ number) o.0 g.0 o.2 (All-weaker (λ e. maker e ≡ me) (λ e. maker e ≢ number) (λ e is not. ne (sym not ∙ is)) g.0 g.2),
  )

  pub knows_grow : (number me known : ℕ) (seen history more : List E) → number ≢ me → Knows maker number seen known history → ThenOwn maker me history more → Knows maker number seen known more
  knows_grow number me known seen history more ne k g = record {
    others = others_grow number me seen history more ne k.others g;
    least = k.least;
    most = let m = k.most in let l = longer me history more g in omega arith;
  }

  module _ {V : Type 0} (opened : V) where
    -- of a view that stays, where the history grows by entries of the pass `me`
    pub stands_moved : (views new : List (View V E)) (history more : List E) (me id : ℕ) (u : View V E)
        → ThenOwn maker me history more → me < length views → ((k : ℕ) → Spent views k → (k ≢ me) × Spent new k) → (id ≡ 0 → length new ≡ length views)
        → id ≢ me → Stands maker opened views history id u → Stands maker opened new more id u
    stands_moved views new history more me id u g inside spent long ne s =
        let number_is = s.number in
        let apart : u.number ≢ me = λ e. ne (sym s.number ∙ e) in
        record {
          number = s.number;
          start = s.start;
          own = knows_grow u.number me u.known u.seen history more apart s.own g;
          joined = All-weaker (λ n. Knows maker n.number n.seen n.known history × Spent views n.number) (λ n. Knows maker n.number n.seen n.known more × Spent new n.number)
              (λ n k. let away = spent n.number k.1 in (knows_grow n.number me n.known n.seen history more away.0 k.0 g, away.1)) u.joined s.joined;
          first = λ zero_is. let f = s.first zero_is in
              (f.0 ∙ sym (long zero_is), λ k least. let l = long zero_is in others_grow k me u.seen history more (λ e. absurd (omega arith)) (f.1 k (omega arith)) g);
        }

    -- a spent view isn't one that stands for a pass
    spent_else : (views : List (View V E)) (me : ℕ) (v w : View V E) → Has views me v → 0 < v.passes → (k : ℕ) → Spent views k → (k ≢ me) × Spent (set views me w) k
    spent_else views me v w h live k z =
        let ne : k ≢ me = λ e. let same : z.0 ≡ v = at_one views me z.0 v (subst (λ (i : ℕ). Has views i z.0) e z.1) h in
        let none = ap (λ (u : View V E). u.passes) same in let no_pass = z.2 in absurd (omega arith) in
        (ne, (z.0, set_else views me k w ne ∙ z.1, z.2))

    -- one view changes what it has seen, and the history grows by entries of its pass
    pub stands_set : (views : List (View V E)) (history more : List E) (me : ℕ) (v w : View V E)
        → AllStand maker opened views history → ThenOwn maker me history more → Has views me v → 0 < v.passes
        → w.number ≡ v.number → w.opened ≡ v.opened → w.joined ≡ v.joined → w.made ≡ v.made
        → Knows maker v.number w.seen w.known more
        → (me ≡ 0 → (k : ℕ) → length views ≤ k → ThenOthers maker k w.seen more)
        → AllStand maker opened (set views me w) more
    stands_set views history more me v w old g h live number start joined made own first id u has stands =
        let long = length-set views me w in let spent = spent_else views me v w h live in
        ⊎_elim
        (λ mine. subst (λ (x : View V E). Stands maker opened (set views me w) more id x) mine.1 (
        let s = old me v h live in record {
          number = number ∙ (s.number ∙ sym mine.0);
          start = start ∙ s.start;
          own = subst (λ (n : ℕ). Knows maker n w.seen w.known more) (sym number) own;
          joined = subst (λ (ns : List (Note E)). All (λ n. Knows maker n.number n.seen n.known more × Spent (set views me w) n.number) ns) (sym joined)
              (All-weaker (λ n. Knows maker n.number n.seen n.known history × Spent views n.number) (λ n. Knows maker n.number n.seen n.known more × Spent (set views me w) n.number)
              (λ n k. let away = spent n.number k.1 in (knows_grow n.number me n.known n.seen history more away.0 k.0 g, away.1)) v.joined s.joined);
          first = λ zero_is. let is : me ≡ 0 = sym mine.0 ∙ zero_is in (made ∙ ((s.first is).0 ∙ sym long), λ k least. first is k (omega arith));
        }))
        (λ other. stands_moved views (set views me w) history more me id u g (at_lt views me v h) spent (λ _. long) other.0 (old id u other.1 stands))
        (at_set views me id w u has)

    -- a further pass gets the number that the first one keeps
    pub stands_split : (views : List (View V E)) (history : List E) (me : ℕ) (v : View V E)
        → AllStand maker opened views history → Has views me v → 0 < v.passes → me ≡ 0
        → AllStand maker opened (set views me (gave v) ++ further v ∷ []) history
    stands_split views history me v old h live zero_is id u has stands =
        let s = old me v h live in let f = s.first zero_is in let made = f.0 in
        let new : List (View V E) = set views me (gave v) ++ further v ∷ [] in
        let long : length new ≡ length views + 1 = omega (arith, length-append (set views me (gave v)) (further v ∷ []), length-set views me (gave v)) in
        let spent : (k : ℕ) → Spent views k → (k ≢ me) × Spent new k =
        λ k z. let away = spent_else views me v (gave v) h live k z in let z' = away.1 in (away.0, (z'.0, at_longer (set views me (gave v)) (further v ∷ []) k z'.0 z'.1, z'.2)) in
        ⊎_elim
        (λ there. ⊎_elim
        (λ mine. subst (λ (x : View V E). Stands maker opened new history id x) mine.1 (record {
          number = s.number ∙ sym mine.0;
          start = s.start;
          own = s.own;
          joined = All-weaker (λ n. Knows maker n.number n.seen n.known history × Spent views n.number) (λ n. Knows maker n.number n.seen n.known history × Spent new n.number)
              (λ n k. (k.0, (spent n.number k.1).1)) v.joined s.joined;
          first = λ _. (omega arith, λ k least. f.1 k (omega arith));
        }))
        (λ other. stands_moved views new history history me id u (nothing_own me history) (at_lt views me v h) spent (λ at_zero. absurd (other.0 (at_zero ∙ sym zero_is))) other.0 (old id u other.1 stands))
        (at_set views me id (gave v) u there))
        (λ last. let is = last.0 in subst (λ (x : View V E). Stands maker opened new history id x) last.1 (record {
          number = omega (arith, length-set views me (gave v));
          start = s.start;
          own = record { others = f.1 v.made (omega arith); least = s.own.least; most = s.own.most };
          joined = All-nil (λ n. Knows maker n.number n.seen n.known history × Spent new n.number);
          first = λ at_zero. let some_there = at_lt views me v h in absurd (omega (arith, length-set views me (gave v)));
        }))
        (at_snoc_place (set views me (gave v)) (further v) u id has)

    -- one view takes in another
    pub stands_joined : (views : List (View V E)) (history : List E) (me other : ℕ) (v w : View V E)
        → AllStand maker opened views history → Has views me v → 0 < v.passes → other ≢ me → Has (set views me (together v w)) other w → 0 < w.passes
        → AllStand maker opened (set (set views me (together v w)) other gone) history
    stands_joined views history me other v w old h live ne k' live' id u has stands =
        let k : Has views other w = sym (set_else views me other (together v w) ne) ∙ k' in
        let between : List (View V E) = set views me (together v w) in
        let new : List (View V E) = set between other gone in
        let long : length new ≡ length views = length-set between other gone ∙ length-set views me (together v w) in
        let spent : (i : ℕ) → Spent views i → (i ≢ me) × Spent new i =
        λ i z. let one = spent_else views me v (together v w) h live i z in (one.0, (spent_else between other w gone k' live' i one.1).1) in
        let Had : Note E → Type 0 = λ n. Knows maker n.number n.seen n.known history × Spent views n.number in
        let Now : Note E → Type 0 = λ n. Knows maker n.number n.seen n.known history × Spent new n.number in
        let on : (ns : List (Note E)) → All Had ns → All Now ns = λ ns all. All-weaker Had Now (λ n x. (x.0, (spent n.number x.1).1)) ns all in
        let s = old me v h live in let t = old other w k live' in
        let there : Spent new w.number = (gone, subst (λ (i : ℕ). Has new i gone) (sym t.number) (set_here between other gone (at_lt between other w k')), refl) in
        ⊎_elim
        (λ mine. let none = ap (λ (x : View V E). x.passes) mine.1 in absurd (omega arith))
        (λ there_still. ⊎_elim
        (λ mine. subst (λ (x : View V E). Stands maker opened new history id x) mine.1 (record {
          number = s.number ∙ sym mine.0;
          start = s.start;
          own = s.own;
          joined = All-append Now (v.joined ++ note w ∷ []) w.joined (All-push Now v.joined (note w) (on v.joined s.joined) (t.own, there)) (on w.joined t.joined);
          first = λ zero_is. let f = s.first (sym mine.0 ∙ zero_is) in (f.0 ∙ sym long, λ i least. f.1 i (omega arith));
        }))
        (λ third. stands_moved views new history history me id u (nothing_own me history) (at_lt views me v h) spent (λ _. long) third.0 (old id u third.1 stands))
        (at_set views me id (together v w) u there_still.1))
        (at_set between other id gone u has)
