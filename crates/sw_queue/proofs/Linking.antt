-- Nodes that link one another, after one of them comes or goes.
use Rattle.std.proofs.Common.{◌≡◌, ◌≢◌, ◌∙◌, ℕ, zero, suc, ◌+◌, ◌<◌, ◌≤◌, Bool, true, false, cond, [], ◌∷◌, ◌++◌, is_some, Option, Some, None, option_map, refl, sym, ap, subst, arith, if◌then◌else◌}
use Rattle.std.specs.Prelude.{◌==◌}
use Rattle.std.specs.List.{last_or}
use Rattle.std.specs.Option.{option_map_or, unwrap_or}
use Rattle.std.proofs.lemmas.Bool.Decides.{nat_tests}
use Rattle.std.proofs.lemmas.List.Sums.{sum_by-set}
use Rattle.slab.specs.Slab.{Slab, Updates, get, slab_len, with_value}
use Rattle.slab.proofs.SlabLemmas.{ContainsKey-within, Updates-with_value}
use Rattle.sw_queue.specs.Links.{AddsNode, Leads, Name, IsNodeOf, followed, numbers_from, with_link}
use Rattle.sw_queue.specs.declared.line.Line.{Line}
use Rattle.sw_queue.specs.declared.line.Node.{Node}

-- ---- the last node links another

-- a node that is written leaves as many
written_count : (nodes : Slab Node) (place : ℕ) (old new : Node) → get nodes place ≡ Some old → slab_len (with_value nodes place new) ≡ slab_len nodes
written_count nodes place old new found =
    let sum = sum_by-set (λ o. cond (is_some o) 1 0) nodes.slots place (Some new) None (ContainsKey-within nodes place (ap is_some found)) in
    let one : ℕ = 1 in
    let nothing : ℕ = 0 in
    let was : cond (is_some (get nodes place)) one nothing ≡ one = ap (λ (o : Option Node). cond (is_some o) one nothing) found in
    omega (arith, sum, was)

pub linked_count : (nodes : Slab Node) (line : Line) (next : ℕ) → slab_len (with_link nodes line next) ≡ slab_len nodes
linked_count nodes line next = by (line.count == 0) (get nodes line.last) refl
  where
    by : (empty : Bool) (found : Option Node) → get nodes line.last ≡ found
        → slab_len (if empty then nodes else option_map_or (λ node. with_value nodes line.last (followed next node)) found nodes) ≡ slab_len nodes
    by true found is = refl
    by false None is = refl
    by false (Some node) is = written_count nodes line.last node (followed next node) is

pub linked_rest : (nodes : Slab Node) (line : Line) (next : ℕ) → with_link nodes line next ≡ record nodes { slots = (with_link nodes line next).slots }
linked_rest nodes line next = by (line.count == 0) (get nodes line.last)
  where
    by : (empty : Bool) (found : Option Node)
        → (if empty then nodes else option_map_or (λ node. with_value nodes line.last (followed next node)) found nodes)
        ≡ record nodes { slots = (if empty then nodes else option_map_or (λ node. with_value nodes line.last (followed next node)) found nodes).slots }
    by true found = refl
    by false None = refl
    by false (Some node) = refl

linked_last : (nodes : Slab Node) (line : Line) (next : ℕ) (node : Node) → 0 < line.count → get nodes line.last ≡ Some node
    → get (with_link nodes line next) line.last ≡ Some (followed next node)
linked_last nodes line next node filled found =
    let full : (line.count == 0) ≡ false = grind (arith, nat_tests, filled) in
    ap (λ (e : Bool). get (if e then nodes else option_map_or (λ node. with_value nodes line.last (followed next node)) (get nodes line.last) nodes) line.last) full
    ∙ (ap (λ (o : Option Node). get (option_map_or (λ node. with_value nodes line.last (followed next node)) o nodes) line.last) found
    ∙ (Updates-with_value nodes line.last (followed next node) (ap is_some found)).changed)

linked_other : (nodes : Slab Node) (line : Line) (next place : ℕ) → (0 < line.count → place ≢ line.last)
    → get (with_link nodes line next) place ≡ get nodes place
linked_other nodes line next place other = by (line.count == 0) (get nodes line.last) refl refl
  where
    by : (empty : Bool) (found : Option Node) → (line.count == 0) ≡ empty → get nodes line.last ≡ found
        → get (if empty then nodes else option_map_or (λ node. with_value nodes line.last (followed next node)) found nodes) place ≡ get nodes place
    by true found full is = refl
    by false None full is = refl
    by false (Some node) full is =
        (Updates-with_value nodes line.last (followed next node) (ap is_some is)).others place
        (other (let not_zero : line.count ≢ 0 = grind (arith, nat_tests, full) in omega (arith, not_zero)))

-- a number comes into a vacant place, once the last node links it
pub linked_adds : (old new : Slab Node) (line : Line) (number : ℕ) → get old old.vacant_key ≡ None
    → Updates (with_link old line old.vacant_key) new old.vacant_key (Some (record { job = number; next = None }))
    → slab_len new ≡ slab_len (with_link old line old.vacant_key) + 1 → AddsNode old new line number
linked_adds old new line number vacant updates longer = record {
  vacant = vacant;
  added = updates.changed;
  behind = λ filled node found.
      updates.others line.last (λ (is : line.last ≡ old.vacant_key). let clash = sym found ∙ (ap (get old) is ∙ vacant) in absurd cc)
      ∙ linked_last old line old.vacant_key node filled found;
  others = λ place apart other. updates.others place apart ∙ linked_other old line old.vacant_key place other;
  count = longer ∙ ap (λ n. n + 1) (linked_count old line old.vacant_key);
}

-- ---- the numbers that are met

pub met_last : (nodes : Slab Node) (place : ℕ) (node : Node) → get nodes place ≡ Some node → numbers_from nodes 1 place ≡ node.job ∷ []
met_last nodes place node found = ap (λ (o : Option Node). option_map_or (λ node. node.job ∷ []) o []) found

pub met_next : (nodes : Slab Node) (count place next : ℕ) (node : Node) → get nodes place ≡ Some node → node.next ≡ Some next
    → numbers_from nodes (suc count) place ≡ node.job ∷ numbers_from nodes count next
met_next nodes count place next node found links =
    ap (λ (o : Option Node). option_map_or (λ node. node.job ∷ numbers_from nodes count (unwrap_or node.next place)) o []) found
    ∙ ap (λ (o : Option ℕ). node.job ∷ numbers_from nodes count (unwrap_or o place)) links

-- ---- the links of one line

same_next : (one two : Node) (a b : ℕ) → Some one ≡ Some two → one.next ≡ Some a → two.next ≡ Some b → a ≡ b
same_next one two a b same first second = cc

no_next : (one two : Node) (a : ℕ) → Some one ≡ Some two → one.next ≡ None → two.next ≡ Some a → ⊥
no_next one two a same first second = absurd cc

module _ (nodes : Slab Node) (owner : ℕ → Name) (name : Name) (last : ℕ) where
  -- the last node links none
  pub last_there : (links place : ℕ) → Leads nodes owner name last links place → (node : Node) × IsNodeOf nodes owner name last node × (node.next ≡ None)
  last_there zero place h = (h.0, subst (λ p. IsNodeOf nodes owner name p h.0) h.3 h.1, h.2)
  last_there (suc links) place h = last_there links h.1 h.4

  -- from a place there is one number of links to the last
  one_length : (n m place : ℕ) → Leads nodes owner name last n place → Leads nodes owner name last m place → n ≡ m
  one_length zero zero place h g = refl
  one_length zero (suc m) place h g = absurd (no_next h.0 g.0 g.1 (sym h.1.there ∙ g.2.there) h.2 g.3)
  one_length (suc n) zero place h g = absurd (no_next g.0 h.0 h.1 (sym g.1.there ∙ h.2.there) g.2 h.3)
  one_length (suc n) (suc m) place h g =
      let same = same_next g.0 h.0 g.1 h.1 (sym g.2.there ∙ h.2.there) g.3 h.3 in
      ap suc (one_length n m h.1 h.4 (subst (λ p. Leads nodes owner name last m p) same g.4))

  -- the last number is that of the last node
  pub last_met : (links place : ℕ) (o : Option ℕ) → Leads nodes owner name last links place
      → option_map (λ node. node.job) (get nodes last) ≡ last_or o (numbers_from nodes (suc links) place)
  last_met zero place o h =
      ap (λ p. option_map (λ node. node.job) (get nodes p)) (sym h.3)
      ∙ (ap (option_map (λ node. node.job)) h.1.there ∙ sym (ap (last_or o) (met_last nodes place h.0 h.1.there)))
  last_met (suc links) place o h =
      last_met links h.1 (Some h.0.job) h.4 ∙ sym (ap (last_or o) (met_next nodes (suc links) place h.1 h.0 h.2.there h.3))

  module _ (others : Slab Node) (owns : ℕ → Name) where
    -- links stay where their places do
    pub leads_stay : (most : ℕ)
        → ((links place : ℕ) (node : Node) → links ≤ most → Leads nodes owner name last links place → IsNodeOf nodes owner name place node
        → IsNodeOf others owns name place node)
        → (links place : ℕ) → links ≤ most → Leads nodes owner name last links place
        → Leads others owns name last links place × (numbers_from others (suc links) place ≡ numbers_from nodes (suc links) place)
    leads_stay most stays zero place below h =
        let stand = stays zero place h.0 below h h.1 in
        ((h.0, stand, h.2, h.3), met_last others place h.0 stand.there ∙ sym (met_last nodes place h.0 h.1.there))
    leads_stay most stays (suc links) place below h =
        let stand = stays (suc links) place h.0 below h h.2 in
        let rest = leads_stay most stays links h.1 (omega (arith, below)) h.4 in (
          (h.0, h.1, stand, h.3, rest.0),
          met_next others (suc links) place h.1 h.0 stand.there h.3
              ∙ (ap (λ numbers. h.0.job ∷ numbers) rest.1 ∙ sym (met_next nodes (suc links) place h.1 h.0 h.2.there h.3)),
        )

    -- one more number is met behind the last
    pub leads_more : (place number : ℕ) → IsNodeOf others owns name place (record { job = number; next = None })
        → ((node : Node) → IsNodeOf nodes owner name last node → IsNodeOf others owns name last (followed place node))
        → ((other : ℕ) (node : Node) → other ≢ last → IsNodeOf nodes owner name other node → IsNodeOf others owns name other node)
        → (links first : ℕ) → Leads nodes owner name last links first
        → Leads others owns name place (suc links) first
        × (numbers_from others (suc (suc links)) first ≡ numbers_from nodes (suc links) first ++ number ∷ [])
    leads_more place number new behind stays zero first h =
        let node = followed place h.0 in
        let stand = subst (λ p. IsNodeOf others owns name p node) (sym h.3) (behind h.0 (subst (λ p. IsNodeOf nodes owner name p h.0) h.3 h.1)) in (
          (node, place, stand, refl, (record { job = number; next = None }, new, refl, refl)),
          met_next others 1 first place node stand.there refl
              ∙ (ap (λ numbers. h.0.job ∷ numbers) (met_last others place (record { job = number; next = None }) new.there)
              ∙ sym (ap (λ numbers. numbers ++ number ∷ []) (met_last nodes first h.0 h.1.there))),
        )
    leads_more place number new behind stays (suc links) first h =
        let end = last_there links h.1 h.4 in
        let inner : first ≢ last = λ is. no_next end.0 h.0 h.1 (sym end.1.there ∙ (sym (ap (get nodes) is) ∙ h.2.there)) end.2 h.3 in
        let stand = stays first h.0 inner h.2 in
        let rest = leads_more place number new behind stays links h.1 h.4 in (
          (h.0, h.1, stand, h.3, rest.0),
          met_next others (suc (suc links)) first h.1 h.0 stand.there h.3
              ∙ (ap (λ numbers. h.0.job ∷ numbers) rest.1
              ∙ sym (ap (λ numbers. numbers ++ number ∷ []) (met_next nodes (suc links) first h.1 h.0 h.2.there h.3))),
        )

  -- what stands behind the first stays without it
  pub leads_on : (others : Slab Node) (most first : ℕ) → Leads nodes owner name last most first
      → ((place : ℕ) → place ≢ first → get others place ≡ get nodes place)
      → (links place : ℕ) → links < most → Leads nodes owner name last links place
      → Leads others owner name last links place × (numbers_from others (suc links) place ≡ numbers_from nodes (suc links) place)
  leads_on others most first whole stays links place below h =
      leads_stay others owner links
      (λ fewer at node few leads stand. record {
        there = stays at (λ (is : at ≡ first).
            let one = one_length fewer most at leads (subst (λ p. Leads nodes owner name last most p) (sym is) whole) in
            absurd (omega (arith, few, below, one)))
            ∙ stand.there;
        own = stand.own;
      })
      links place (omega arith) h
