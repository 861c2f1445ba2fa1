-- Each step of the lock keeps its rule.
use Rattle.std.proofs.Common.{◌≡◌, ◌≢◌, ◌⊎◌, ℕ, zero, suc, ◌+◌, ◌*◌, ◌%◌, ◌^◌, ◌<◌, ◌≤◌, List, [], ◌∷◌, ◌++◌, length, set, get_or, map, Option, Some, None, All, sym, refl, ap, ◌∙◌, subst, inl, inr, ⊎_elim, arith, length-set}
use Rattle.std.proofs.lemmas.List.Elements.{All-nil, All-weaker}
use mathlib.Core.Logic.{dite}
use mathlib.Core.Option.{some, none, some-injective, some-ne-none}
use mathlib.Core.Option as maybe
use native.Mathlib.Decide.{ℕ_discrete}
use lib.ListN.{get_elem?}
use Rattle.atomic_table.specs.Table.{State, step, keeps, takes, gives, Allows, Splits, Joins, Final, Seen, opening, homes_after}
use Rattle.atomic_table.proofs.Lists.{at_set, set_here, set_else, at_longer, at_snoc}
use Rattle.sw_lock.specs.declared.logged.Logged.{Ghosts}
use Rattle.sw_lock.specs.declared.view.View.{View}
use Rattle.sw_lock.specs.declared.view.Place.{Place}
use Rattle.sw_lock.specs.declared.view.Place.TheVariants.{Away, Out, Counted}
use Rattle.sw_lock.specs.Entries.{ThenOwn, ThenOthers}
use Rattle.sw_lock.specs.Turns.{Has, Spent, Tickets, Knows, Stands, Slot, Kept, IsEnd}
use Rattle.sw_lock.specs.Steps.{Sat, newcomer, gave, further, together, gone, drew, passed, looked, holding, saw, tallied}
use Rattle.sw_lock.proofs.Views.{at_lt, at_one, total_two, tickets_same, tickets_drawn, tickets_passed, tickets_snoc, tickets_joined, counts_set, counts_same, counts_snoc, counts_joined, next_small}
use Rattle.sw_lock.proofs.Stands.{nothing_own, nothing_others, stands_set, stands_split, stands_joined}

at_single : {A : Type 0} (a b : A) (j : ℕ) → get_elem? (a ∷ []) j ≡ some b → (j ≡ 0) × (a ≡ b)
at_single a b zero e = (refl, some-injective a b e)
at_single a b (suc j) e = absurd (some-ne-none b (sym e))

away_or : (p : Place) → (p ≡ Away) ⊎ (p ≢ Away)
away_or Away = inl refl
away_or Out = inr (λ e. cc)
away_or Counted = inr (λ e. cc)

module _ {V : Type 0} where
  first_held : List (ℕ × Option V) → Option V
  first_held [] = None
  first_held (x ∷ xs) = x.1

  one_held : (c : List (ℕ × Option V)) (x y : V) → c ≡ (0, Some x) ∷ [] → c ≡ (0, Some y) ∷ [] → x ≡ y
  unfolding first_held
  one_held c x y a b = let same : Some x ≡ Some y = ap first_held (sym a ∙ b) in cc

module _ {V E G O : Type 0} (g : Ghosts V E G O) (opened : V) (made : ℕ) where
  -- the value stays where it is
  slot_same : (homes : List (maybe.Option (Option V))) (views : List (View V E)) (history : List E) (me : ℕ) (v w : View V E)
      → Slot g opened homes views history → Has views me v → w.place ≡ v.place → w.seen ≡ v.seen → (0 < v.passes → 0 < w.passes) → Slot g opened homes (set views me w) history
  slot_same homes views history me v w slot h place seen stood = ⊎_elim
      (λ home. inl (
        home.0,
        home.1,
        home.2,
        home.3,
        (λ id u has. ⊎_elim (λ mine. ap (λ (x : View V E). x.place) (sym mine.1) ∙ (place ∙ home.4 me v h)) (λ other. home.4 id u other.1) (at_set views me id w u has)),
      ))
      (λ out. dite (ℕ_discrete out.0 me)
      (λ e. let same : out.1 ≡ v = at_one views me out.1 v (subst (λ (i : ℕ). Has views i out.1) e out.3) h in
      inr (me, w, out.2, set_here views me w (at_lt views me v h), (λ away. out.4 (ap (λ (x : View V E). x.place) same ∙ (sym place ∙ away))), seen ∙ (ap (λ (x : View V E). x.seen) (sym same) ∙ out.5), stood (subst (λ (x : View V E). 0 < x.passes) same out.6)))
      (λ ne. inr (out.0, out.1, out.2, set_else views me out.0 w ne ∙ out.3, out.4, out.5, out.6)))
      slot

  -- a seat that has a place in the turn has the value
  slot_out : (homes : List (maybe.Option (Option V))) (views : List (View V E)) (history : List E) (next served me : ℕ) (v : View V E)
      → Slot g opened homes views history → Tickets views next served → Has views me v → v.place ≢ Away → (homes ≡ none ∷ []) × (v.seen ≡ history)
  slot_out homes views history next served me v slot t h place = ⊎_elim
      (λ home. absurd (place (home.4 me v h)))
      (λ out. let same_place : out.0 ≡ me = t.distinct out.0 me served (out.1, out.3, t.holder out.0 out.1 out.3 out.4) (v, h, t.holder me v h place) in
      let same : out.1 ≡ v = at_one views me out.1 v (subst (λ (i : ℕ). Has views i out.1) same_place out.3) h in
      (out.2, ap (λ (x : View V E). x.seen) (sym same) ∙ out.5))
      slot

  -- where a seat without a place is served, the value is at home
  slot_home : (homes : List (maybe.Option (Option V))) (views : List (View V E)) (history : List E) (next served me : ℕ) (v : View V E)
      → Slot g opened homes views history → Tickets views next served → Has views me v → v.place ≡ Away → v.ticket ≡ Some served
      → (x : V) × (homes ≡ some (Some x) ∷ []) × (g.base x ≡ g.base opened) × (g.log x ≡ history)
  slot_home homes views history next served me v slot t h place ticket = ⊎_elim
      (λ home. (home.0, home.1, home.2, home.3))
      (λ out. let same_place : out.0 ≡ me = t.distinct out.0 me served (out.1, out.3, t.holder out.0 out.1 out.3 out.4) (v, h, ticket) in
      let same : out.1 ≡ v = at_one views me out.1 v (subst (λ (i : ℕ). Has views i out.1) same_place out.3) h in
      absurd (out.4 (ap (λ (x : View V E). x.place) same ∙ place)))
      slot

  slot_longer : (homes : List (maybe.Option (Option V))) (views : List (View V E)) (history : List E) (w : View V E) → Slot g opened homes views history → w.place ≡ Away
      → Slot g opened homes (views ++ w ∷ []) history
  slot_longer homes views history w slot away = ⊎_elim
      (λ home. inl (home.0, home.1, home.2, home.3, (λ id u has. ⊎_elim (λ old. home.4 id u old) (λ new. ap (λ (x : View V E). x.place) (sym new) ∙ away) (at_snoc views w u id has))))
      (λ out. inr (out.0, out.1, out.2, at_longer views (w ∷ []) out.0 out.1 out.3, out.4, out.5, out.6))
      slot

  slot_gone : (homes : List (maybe.Option (Option V))) (views : List (View V E)) (history : List E) (me : ℕ) (v : View V E) → Slot g opened homes views history → Has views me v → v.place ≡ Away
      → Slot g opened homes (set views me gone) history
  slot_gone homes views history me v slot h away = ⊎_elim
      (λ home. inl (home.0, home.1, home.2, home.3, (λ id u has. ⊎_elim (λ mine. ap (λ (x : View V E). x.place) (sym mine.1)) (λ other. home.4 id u other.1) (at_set views me id gone u has))))
      (λ out. inr (
        out.0,
        out.1,
        out.2,
        set_else views me out.0 gone (λ e. out.4 (ap (λ (x : View V E). x.place) (at_one views me out.1 v (subst (λ (i : ℕ). Has views i out.1) e out.3) h) ∙ away)) ∙ out.3,
        out.4,
        out.5,
        out.6,
      ))
      slot

  abbrev Rule : State (Option V) (View V E) → Type 0
  Rule s = Kept g opened made s

  pub draws : (slots id : ℕ) (m : Sat V E) → m.0.ticket ≡ None → m.0.place ≡ Away → 0 < m.0.passes → m.0.turns < 2 ^ 40
      → Allows Rule slots id m 1 (λ n. (n + 1) % 2 ^ 64) (drew (step slots 1 1 0 none) m)
  draws slots id m idle away live room s kept _ h _ =
      let v : View V E = m.0 in
      let w : View V E = record m.0 { ticket = Some kept.next; turns = m.0.turns + 1 } in
      let found : get_or s.words 1 0 ≡ kept.next = ap (λ (ws : List ℕ). get_or ws 1 0) kept.words in
      let small = next_small s.views kept.next made kept.counts in
      let more : (kept.next + 1) % 2 ^ 64 ≡ kept.next + 1 = omega arith in
      let r = kept.views id v h live in (
        w,
        keeps,
        tt,
        record {
          next = kept.next + 1;
          served = kept.served;
          history = kept.history;
          words = ap (λ (ws : List ℕ). set ws 1 ((get_or ws 1 0 + 1) % 2 ^ 64)) kept.words ∙ ap (λ (n : ℕ). length kept.history ∷ n ∷ kept.served ∷ []) more;
          tickets = tickets_drawn s.views kept.next kept.served id v w kept.tickets h idle refl away;
          counts = counts_set s.views kept.next made id 1 v w kept.counts h refl refl (omega arith);
          told = kept.told;
          slot = slot_same s.homes s.views kept.history id v w kept.slot h refl refl (λ stood. stood);
          views = stands_set g.maker opened s.views kept.history kept.history id v w kept.views (nothing_own g.maker id kept.history) h live refl refl refl refl r.own (λ zero_is. (r.first zero_is).1);
        },
        ap (λ (n : ℕ). let x : Sat V E = (record m.0 { ticket = Some n; turns = m.0.turns + 1 }, m.1) in x) (sym found),
      )

  -- of one view, the number that it knows changes
  knows_more : (s : State (Option V) (View V E)) (kept : Rule s) (words : List ℕ) (id known : ℕ) (v : View V E) → Has s.views id v → 0 < v.passes
      → words ≡ length kept.history ∷ kept.next ∷ kept.served ∷ [] → length v.seen ≤ known → known ≤ length kept.history
      → Rule (record s { words = words; views = set s.views id (record v { known = known }) })
  knows_more s kept words id known v h live same least most =
      let w : View V E = record v { known = known } in let r = kept.views id v h live in
      record {
        next = kept.next;
        served = kept.served;
        history = kept.history;
        words = same;
        tickets = tickets_same s.views kept.next kept.served id v w kept.tickets h refl (λ place. kept.tickets.holder id v h place);
        counts = counts_same s.views kept.next made id v w kept.counts h refl refl;
        told = kept.told;
        slot = slot_same s.homes s.views kept.history id v w kept.slot h refl refl (λ stood. stood);
        views = stands_set g.maker opened s.views kept.history kept.history id v w kept.views (nothing_own g.maker id kept.history) h live refl refl refl refl
            (record { others = r.own.others; least = least; most = most }) (λ zero_is. (r.first zero_is).1);
      }

  pub looks : (slots id : ℕ) (m : Sat V E) → 0 < m.0.passes → Allows Rule slots id m 0 (λ n. n) (looked (step slots 0 0 0 none) m)
  looks slots id m live s kept _ h _ =
      let found : get_or s.words 0 0 ≡ length kept.history = ap (λ (ws : List ℕ). get_or ws 0 0) kept.words in
      let own = (kept.views id m.0 h live).own in let most = own.most in let least = own.least in (
        record m.0 { known = length kept.history },
        keeps,
        tt,
        knows_more s kept _ id (length kept.history) m.0 h live (ap (λ (ws : List ℕ). set ws 0 (get_or ws 0 0)) kept.words) (omega arith) (omega arith),
        (ap (λ (n : ℕ). let x : Sat V E = (record m.0 { known = n }, m.1) in x) (sym found), least, omega arith),
      )

  pub sees : (slots id ticket : ℕ) (m : Sat V E) → m.0.ticket ≡ Some ticket → m.0.place ≡ Away → 0 < m.0.passes
      → Allows Rule slots id m 2 (λ n. n) (saw g (step slots 2 0 0 none) m)
  sees slots id ticket m drawn away live s kept _ h _ =
      let v : View V E = m.0 in
      let found : get_or s.words 2 0 ≡ kept.served = ap (λ (ws : List ℕ). get_or ws 2 0) kept.words in
      let r = kept.views id v h live in let own = r.own in
      let words : set s.words 2 (get_or s.words 2 0) ≡ length kept.history ∷ kept.next ∷ kept.served ∷ [] = ap (λ (ws : List ℕ). set ws 2 (get_or ws 2 0)) kept.words in
      dite (ℕ_discrete ticket kept.served)
      (λ mine.
      let served : v.ticket ≡ Some kept.served = drawn ∙ ap (λ (n : ℕ). Some n) mine in
      let home = slot_home s.homes s.views kept.history kept.next kept.served id v kept.slot kept.tickets h away served in
      let x : V = home.0 in
      let w : View V E = holding g v x in
      let few = kept.counts.few in let number_is = r.number in let inside = at_lt s.views id v h in (
        w,
        takes 0 (Some x),
        ap (λ (hs : List (maybe.Option (Option V))). get_elem? hs 0) home.1,
        record {
          next = kept.next;
          served = kept.served;
          history = kept.history;
          words = words;
          tickets = tickets_same s.views kept.next kept.served id v w kept.tickets h refl (λ _. served);
          counts = counts_same s.views kept.next made id v w kept.counts h refl refl;
          told = kept.told;
          slot = inr (id, w, ap (λ (hs : List (maybe.Option (Option V))). set hs 0 none) home.1, set_here s.views id w inside, (λ e. cc), home.3, live);
          views = stands_set g.maker opened s.views kept.history kept.history id v w kept.views (nothing_own g.maker id kept.history) h live refl refl refl refl
              (subst (λ (seen : List E). Knows g.maker v.number seen (length seen) kept.history) (sym home.3) (record { others = nothing_others g.maker v.number kept.history; least = omega arith; most = omega arith }))
              (λ zero_is k least. subst (λ (seen : List E). ThenOthers g.maker k seen kept.history) (sym home.3) (nothing_others g.maker k kept.history));
        },
        (
          (λ _. (
            x,
            record {
              seat = refl;
              knows = subst (λ (seen : List E). Knows g.maker v.number v.seen v.known seen) (sym home.3) own;
              base_is = λ o is. let same : Some o ≡ Some opened = sym is ∙ r.start in let one : o ≡ opened = cc in
                  (home.2 ∙ ap g.base (sym one), subst (λ (z : V). v.number < g.passes (g.base z)) (sym one) (omega arith));
            },
          )),
          (λ not. absurd (not (served ∙ ap (λ (n : ℕ). Some n) (sym found)))),
        ),
      ))
      (λ not_mine. (
        v,
        keeps,
        tt,
        knows_more s kept _ id v.known v h live words own.least own.most,
        ((λ e. let is : Some ticket ≡ Some kept.served = sym drawn ∙ (e ∙ ap (λ (n : ℕ). Some n) found) in let one : ticket ≡ kept.served = cc in absurd (not_mine one)), (λ _. refl)),
      ))

  pub adds : (slots id k : ℕ) (m : Sat V E) (x : V) → m.1 ≡ (0, Some x) ∷ [] → m.0.place ≢ Away → 0 < m.0.passes → ThenOwn g.maker m.0.number m.0.seen (g.log x)
      → length (g.log x) ≡ length m.0.seen + k → length (g.log x) < 2 ^ 64
      → Allows Rule slots id m 0 (λ n. (n + k) % 2 ^ 64) (tallied g (step slots 0 k 0 none) m)
  adds slots id k m x held place live own_entries longer_by small s kept _ h _ =
      let v : View V E = m.0 in
      let w : View V E = record m.0 { place = Counted; seen = g.log x; known = length (g.log x) } in
      let out = slot_out s.homes s.views kept.history kept.next kept.served id v kept.slot kept.tickets h place in
      let r = kept.views id v h live in let own = r.own in
      let grown : ThenOwn g.maker id kept.history (g.log x) = subst (λ (n : ℕ). ThenOwn g.maker n kept.history (g.log x)) r.number (subst (λ (h : List E). ThenOwn g.maker v.number h (g.log x)) out.1 own_entries) in
      let before : length m.0.seen ≡ length kept.history = ap length out.1 in
      let more : (length kept.history + k) % 2 ^ 64 ≡ length (g.log x) = omega arith in (
        w,
        keeps,
        tt,
        record {
          next = kept.next;
          served = kept.served;
          history = g.log x;
          words = ap (λ (ws : List ℕ). set ws 0 ((get_or ws 0 0 + k) % 2 ^ 64)) kept.words ∙ ap (λ (n : ℕ). n ∷ kept.next ∷ kept.served ∷ []) more;
          tickets = tickets_same s.views kept.next kept.served id v w kept.tickets h refl (λ _. kept.tickets.holder id v h place);
          counts = counts_same s.views kept.next made id v w kept.counts h refl refl;
          told = kept.told;
          slot = inr (id, w, out.0, set_here s.views id w (at_lt s.views id v h), (λ e. cc), refl, live);
          views = stands_set g.maker opened s.views kept.history (g.log x) id v w kept.views grown h live refl refl refl refl
              (record { others = nothing_others g.maker v.number (g.log x); least = omega arith; most = omega arith }) (λ _ k _. nothing_others g.maker k (g.log x));
        },
        (λ y other. ap (λ (z : V). let n : Sat V E = (record m.0 { place = Counted; seen = g.log z; known = length (g.log z) }, m.1) in n) (one_held m.1 x y held other)),
      )

  pub passes_on : (slots id : ℕ) (m : Sat V E) (x : V) → m.1 ≡ (0, Some x) ∷ [] → m.0.place ≢ Away → 0 < m.0.passes → g.base x ≡ g.base opened → g.log x ≡ m.0.seen
      → Allows Rule slots id m 2 (λ n. (n + 1) % 2 ^ 64) (passed (step slots 2 1 0 none) m)
  passes_on slots id m x held place live same_base same_log s kept _ h _ =
      let v : View V E = m.0 in
      let w : View V E = record m.0 { ticket = None; place = Away } in
      let t = kept.tickets in
      let out = slot_out s.homes s.views kept.history kept.next kept.served id v kept.slot t h place in
      let r = kept.views id v h live in
      let served = t.holder id v h place in
      let bounds = t.within id kept.served (v, h, served) in
      let small = next_small s.views kept.next made kept.counts in
      let more : (kept.served + 1) % 2 ^ 64 ≡ kept.served + 1 = omega arith in (
        w,
        gives,
        tt,
        record {
          next = kept.next;
          served = kept.served + 1;
          history = kept.history;
          words = ap (λ (ws : List ℕ). set ws 2 ((get_or ws 2 0 + 1) % 2 ^ 64)) kept.words ∙ ap (λ (n : ℕ). length kept.history ∷ kept.next ∷ n ∷ []) more;
          tickets = tickets_passed s.views kept.next kept.served id v w t h served refl refl;
          counts = counts_same s.views kept.next made id v w kept.counts h refl refl;
          told = kept.told;
          slot = inl (
            x,
            (let P : List (ℕ × Option V) → Type 0 = λ c. homes_after s.homes c gives ≡ some (Some x) ∷ [] in subst P (sym held) (ap (λ (hs : List (maybe.Option (Option V))). set hs 0 (some (Some x))) out.0)),
            same_base,
            same_log ∙ out.1,
            (λ i u has. ⊎_elim (λ mine. ap (λ (z : View V E). z.place) (sym mine.1))
                (λ other. ⊎_elim (λ away. away) (λ there. absurd (other.0 (t.distinct i id kept.served (u, other.1, t.holder i u other.1 there) (v, h, served)))) (away_or u.place)) (at_set s.views id i w u has)),
          );
          views = stands_set g.maker opened s.views kept.history kept.history id v w kept.views (nothing_own g.maker id kept.history) h live refl refl refl refl r.own (λ zero_is. (r.first zero_is).1);
        },
        refl,
      )

  -- a further pass is made by the first one
  pub splits : (id : ℕ) (v : View V E) → v.number ≡ 0 → v.ticket ≡ None → v.place ≡ Away → 0 < v.passes → v.opened ≡ Some opened → v.made < made
      → Splits Rule id v (gave v) (further v)
  splits id v zero_is idle away live start room s kept h =
      let r = kept.views id v h live in
      let at_zero : id ≡ 0 = sym r.number ∙ zero_is in
      let count = (r.first at_zero).0 in
      let between : List (View V E) = set s.views id (gave v) in
      record {
        next = kept.next;
        served = kept.served;
        history = kept.history;
        words = kept.words;
        tickets = tickets_snoc between kept.next kept.served (further v) (tickets_same s.views kept.next kept.served id v (gave v) kept.tickets h refl (λ place. absurd (place away))) refl refl;
        counts = counts_snoc between kept.next made (further v)
            (counts_same s.views kept.next made id v (gave v) kept.counts h refl refl) refl refl (omega (arith, length-set s.views id (gave v)));
        told = kept.told;
        slot = slot_longer s.homes between kept.history (further v) (slot_same s.homes s.views kept.history id v (gave v) kept.slot h refl refl (λ stood. stood)) refl;
        views = stands_split g.maker opened s.views kept.history id v kept.views h live at_zero;
      }

  -- one pass takes in another
  pub joins : (id other : ℕ) (v w : View V E) → 0 < v.passes → 0 < w.passes → w.ticket ≡ None → w.place ≡ Away → Joins Rule id v other w (together v w) gone
  joins id other v w live live' idle away s kept h ne k = record {
    next = kept.next;
    served = kept.served;
    history = kept.history;
    words = kept.words;
    tickets = tickets_joined s.views kept.next kept.served id other v w kept.tickets h k idle;
    counts = counts_joined s.views kept.next made id other v w kept.counts h ne k;
    told = kept.told;
    slot = slot_gone s.homes (set s.views id (together v w)) kept.history other w (slot_same s.homes s.views kept.history id v (together v w) kept.slot h refl refl (λ _. omega arith)) k away;
    views = stands_joined g.maker opened s.views kept.history id other v w kept.views h live ne k live';
  }

  -- the table as it is made
  pub opens : (ws : List ℕ) (xs : List (Option V)) → ws ≡ length (g.log opened) ∷ 0 ∷ 0 ∷ [] → xs ≡ Some opened ∷ [] → 0 < made → made ≤ 64 → made ≡ g.passes (g.base opened)
      → Rule (opening ws xs (newcomer g.log opened))
  opens ws xs words slots some_pass few told =
      let v : View V E = newcomer g.log opened in record {
        next = 0;
        served = 0;
        history = g.log opened;
        words = words;
        tickets = record {
          ordered = omega arith;
          within = λ id k d. let e = ap (λ (u : View V E). u.ticket) (at_single v d.0 id d.1).1 in let no : None ≡ Some k = e ∙ d.2 in cc;
          distinct = λ i j k a b. (at_single v a.0 i a.1).0 ∙ sym (at_single v b.0 j b.1).0;
          each = λ k low high. absurd (omega arith);
          holder = λ id u has place. absurd (place (ap (λ (x : View V E). x.place) (sym (at_single v u id has).1)));
        };
        counts = record {
          turns = omega arith;
          stand = omega arith;
          bound = λ id u has. subst (λ (x : View V E). x.turns ≤ 2 ^ 40 * x.passes) (at_single v u id has).1 (omega arith);
          few = omega arith;
          most_is = few;
        };
        told = told;
        slot = inl (opened, ap (λ (ys : List (Option V)). map some ys) slots, refl, refl, (λ id u has. ap (λ (x : View V E). x.place) (sym (at_single v u id has).1)));
        views = λ id u has live. let is = at_single v u id has in subst (λ (x : View V E). Stands g.maker opened (v ∷ []) (g.log opened) id x) is.1 (record {
          number = sym is.0;
          start = refl;
          own = record { others = nothing_others g.maker 0 (g.log opened); least = omega arith; most = omega arith };
          joined = All-nil (λ n. Knows g.maker n.number n.seen n.known (g.log opened) × Spent (v ∷ []) n.number);
          first = λ _. (refl, λ k _. nothing_others g.maker k (g.log opened));
        });
      }

  -- where one pass stands for all of them, the value is at home, and what it knows is true of it
  pub closes : (id : ℕ) (v : View V E) (ws : List ℕ) (xs : List (Option V)) → v.place ≡ Away → 0 < v.passes → made ≤ v.passes → Final (Seen Rule id v) ws xs
      → (x : V) × (get_elem? xs 0 ≡ some (Some x)) × IsEnd g opened v x
  closes id v ws xs away live all final =
      let s = final.0 in let kept = final.1.0 in let h = final.1.1 in
      let r = kept.views id v h live in
      ⊎_elim
      (λ home. (
        home.0,
        final.4 0 (Some home.0) (ap (λ (hs : List (maybe.Option (Option V))). get_elem? hs 0) home.1),
        record {
          base = home.2;
          own = subst (λ (es : List E). Knows g.maker v.number v.seen v.known es) (sym home.3) r.own;
          joined = subst (λ (es : List E). All (λ n. Knows g.maker n.number n.seen n.known es) v.joined) (sym home.3)
              (All-weaker (λ n. Knows g.maker n.number n.seen n.known kept.history × Spent s.views n.number) (λ n. Knows g.maker n.number n.seen n.known kept.history) (λ n x. x.0) v.joined r.joined);
        },
      ))
      (λ out. dite (ℕ_discrete out.0 id)
      (λ e. let same : out.1 ≡ v = at_one s.views id out.1 v (subst (λ (i : ℕ). Has s.views i out.1) e out.3) h in absurd (out.4 (ap (λ (x : View V E). x.place) same ∙ away)))
      (λ ne. let two = total_two (λ (u : View V E). u.passes) s.views id out.0 v out.1 gone refl h out.3 ne in let stand = kept.counts.stand in let few = kept.counts.few in let out_live = out.6 in absurd (omega arith)))
      kept.slot
