-- The lines of all keys and scopes, after a number came to one of them.
use Rattle.std.proofs.Common.{◌≡◌, ◌≢◌, ◌∙◌, ℕ, zero, suc, ◌+◌, ◌<◌, Bool, true, false, List, [], ◌∷◌, ◌++◌, bytes_eq, Some, None, refl, sym, ap, subst, arith, true≢false, if◌then◌else◌}
use Rattle.std.specs.Prelude.{◌&&◌, ◌==◌}
use Rattle.std.specs.Cmp.Lexicographic.{bytes_decides}
use Rattle.std.specs.Map.{lookup, set_value}
use Rattle.std.proofs.lemmas.Bool.Decides.{nat_tests}
use Rattle.slab.specs.Slab.{Slab, get}
use Rattle.sw_queue.specs.Lines.{by_name, line_in}
use Rattle.sw_queue.specs.Links.{AddsNode, AreLinked, ByKey, ByScope, IsLine, Name, IsNodeOf, line_of, numbers_from, numbers_of, seen, with_last}
use Rattle.sw_queue.specs.declared.line.Line.{Line}
use Rattle.sw_queue.specs.declared.line.Node.{Node}
use Rattle.sw_queue.proofs.Linking.{last_there, leads_more, met_last}
use Rattle.sw_queue.proofs.Naming.{by_name_found, by_name_set, named_absent, named_found}
use Rattle.sw_queue.proofs.Placing.{line_stays, own_line, placed, placed_count, placed_line, room_seen, seen_numbers}

module _ (nodes others : Slab Node) (lines : ByKey) (are : AreLinked nodes lines) (key scope : List ℕ) (scopes : ByScope) (line : Line)
    (of_key : lookup (bytes_eq key) lines ≡ Some scopes) (of_scope : lookup (bytes_eq scope) scopes ≡ Some line)
    (number : ℕ) (adds : AddsNode nodes others line number) where
  -- the new place belongs to the line
  abbrev owns : ℕ → Name
  owns place = if place == nodes.vacant_key then (key, scope) else are.owner place

  owns_new : owns nodes.vacant_key ≡ (key, scope)
  owns_new =
      let itself : (nodes.vacant_key == nodes.vacant_key) ≡ true = grind (arith, nat_tests) in
      ap (λ (b : Bool). if b then (key, scope) else are.owner nodes.vacant_key) itself

  owns_old : (place : ℕ) → place ≢ nodes.vacant_key → owns place ≡ are.owner place
  owns_old place apart =
      let other : (place == nodes.vacant_key) ≡ false = grind (arith, nat_tests, apart) in
      ap (λ (b : Bool). if b then (key, scope) else are.owner place) other

  new_stands : IsNodeOf others owns (key, scope) nodes.vacant_key (record { job = number; next = None })
  new_stands = record { there = adds.added; own = owns_new }

  -- a place that was taken isn't the new one
  old_place : (place : ℕ) (node : Node) → get nodes place ≡ Some node → place ≢ nodes.vacant_key
  old_place place node found is = let clash = sym found ∙ (ap (get nodes) is ∙ adds.vacant) in absurd cc

  own : IsLine nodes are.owner (key, scope) line.last line.count line.first
  own = subst (λ (l : Line). IsLine nodes are.owner (key, scope) l.last l.count l.first) (own_line lines key scope scopes line of_key of_scope) (are.linked key scope)

  last_owner : 0 < line.count → are.owner line.last ≡ (key, scope)
  last_owner = by line.count own
    where
      by : (count : ℕ) → IsLine nodes are.owner (key, scope) line.last count line.first → 0 < count → are.owner line.last ≡ (key, scope)
      by zero is filled = absurd (omega (arith, filled))
      by (suc links) is filled = (last_there nodes are.owner (key, scope) line.last links line.first is).1.own

  -- the nodes of other lines stay
  others_stay : (name : Name) → name ≢ (key, scope) → (place : ℕ) (node : Node) → IsNodeOf nodes are.owner name place node → IsNodeOf others owns name place node
  others_stay name apart place node stand =
      let old = old_place place node stand.there in
      record {
        there = adds.others place old (λ filled is. apart (sym stand.own ∙ (ap are.owner is ∙ last_owner filled))) ∙ stand.there;
        own = owns_old place old ∙ stand.own;
      }

  -- a line of so many nodes from this one on, with these numbers
  abbrev IsMet : List ℕ → ℕ → ℕ → Type 0
  IsMet numbers count first =
      IsLine others owns (key, scope) nodes.vacant_key count first × (numbers_from others count first ≡ numbers)

  added_line : IsMet (numbers_of nodes line ++ number ∷ []) (with_last nodes.vacant_key line).count (with_last nodes.vacant_key line).first
  added_line = by line.count line.first refl own
    where
      by : (count first : ℕ) → count ≡ line.count → IsLine nodes are.owner (key, scope) line.last count first
          → IsMet (numbers_from nodes count first ++ number ∷ []) (count + 1) (if count == 0 then nodes.vacant_key else first)
      by zero first many is =
          ((record { job = number; next = None }, new_stands, refl, refl), met_last others nodes.vacant_key (record { job = number; next = None }) adds.added)
      by (suc links) first many is =
          let numbers = numbers_from nodes (suc links) first ++ number ∷ [] in
          let full : (suc links == 0) ≡ false = grind (arith, nat_tests) in
          let more : suc links + 1 ≡ suc (suc links) = omega arith in
          subst (λ n. IsMet numbers n (if suc links == 0 then nodes.vacant_key else first)) (sym more)
          (subst (λ (b : Bool). IsMet numbers (suc (suc links)) (if b then nodes.vacant_key else first)) (sym full)
          (leads_more nodes are.owner (key, scope) line.last others owns nodes.vacant_key number new_stands
          (λ node stand. record {
            there = adds.behind (omega (arith, many)) node stand.there;
            own = owns_old line.last (old_place line.last node stand.there) ∙ stand.own;
          })
          (λ place node apart stand. let old = old_place place node stand.there in record {
            there = adds.others place old (λ filled. apart) ∙ stand.there;
            own = owns_old place old ∙ stand.own;
          })
          links first is))

  abbrev after : ByKey
  after = placed lines key scope scopes line of_key of_scope (with_last nodes.vacant_key line)

  -- a line of this name, with these numbers
  abbrev IsSeen : List ℕ → List ℕ → List ℕ → Line → Type 0
  IsSeen k s numbers l = IsLine others owns (k, s) l.last l.count l.first × (numbers_of others l ≡ numbers)

  all_added : (k s : List ℕ)
      → IsSeen k s
      (if bytes_eq key k && bytes_eq scope s then numbers_of nodes (line_of lines k s) ++ number ∷ [] else numbers_of nodes (line_of lines k s))
      (line_of after k s)
  all_added k s =
      subst (IsSeen k s (if bytes_eq key k && bytes_eq scope s then numbers_of nodes (line_of lines k s) ++ number ∷ [] else numbers_of nodes (line_of lines k s)))
      (sym (placed_line lines key scope scopes line of_key of_scope (with_last nodes.vacant_key line) k s))
      (by (bytes_eq key k) (bytes_eq scope s) refl refl)
    where
      other : ◌≢◌ {A = Name} (k, s) (key, scope)
          → IsSeen k s (numbers_of nodes (line_of lines k s)) (line_of lines k s)
      other apart =
          line_stays nodes others are.owner owns (k, s) (others_stay (k, s) apart)
          (line_of lines k s).last (line_of lines k s).count (line_of lines k s).first (are.linked k s)

      by : (one two : Bool) → bytes_eq key k ≡ one → bytes_eq scope s ≡ two
          → IsSeen k s (if one && two then numbers_of nodes (line_of lines k s) ++ number ∷ [] else numbers_of nodes (line_of lines k s))
          (if one && two then with_last nodes.vacant_key line else line_of lines k s)
      by true true same_key same_scope =
          let key_is : key ≡ k = (bytes_decides key k).0 same_key in
          let scope_is : scope ≡ s = (bytes_decides scope s).0 same_scope in
          let line_is : line ≡ line_of lines k s =
          sym (own_line lines key scope scopes line of_key of_scope) ∙ (λ i. line_of lines (key_is i) (scope_is i)) in (
            subst (λ (name : Name). IsLine others owns name nodes.vacant_key (with_last nodes.vacant_key line).count (with_last nodes.vacant_key line).first)
                (λ i. (key_is i, scope_is i)) added_line.0,
            added_line.1 ∙ ap (λ (l : Line). numbers_of nodes l ++ number ∷ []) line_is,
          )
      by true false same_key same_scope =
          other (λ is. true≢false (sym ((bytes_decides scope s).1 (sym (ap (λ (name : Name). name.1) is))) ∙ same_scope))
      by false two same_key same_scope =
          other (λ is. true≢false (sym ((bytes_decides key k).1 (sym (ap (λ (name : Name). name.0) is))) ∙ same_key))

  pub adds_linked : AreLinked others after
  adds_linked = record {
    owner = owns;
    linked = λ k s. (all_added k s).0;
    count =
        let placed = placed_count lines key scope scopes line of_key of_scope (with_last nodes.vacant_key line) in
        omega (arith, placed, are.count, adds.count);
  }

  pub adds_numbers : (k s : List ℕ)
      → (line_in (seen others after) k s).numbers
      ≡ (if bytes_eq key k && bytes_eq scope s then (line_in (seen nodes lines) k s).numbers ++ number ∷ [] else (line_in (seen nodes lines) k s).numbers)
  adds_numbers k s =
      seen_numbers others after k s
      ∙ ((all_added k s).1
      ∙ sym (ap (λ (numbers : List ℕ). if bytes_eq key k && bytes_eq scope s then numbers ++ number ∷ [] else numbers) (seen_numbers nodes lines k s)))

-- a number comes to a line that has room, by the entries of a map
module _ {K : Type 0} (bytes : K → List ℕ) (key scope : List ℕ) (entries : List (K × ByScope)) (scopes new : ByScope) (nodes others : Slab Node) (number : ℕ)
    (are : AreLinked nodes (by_name bytes entries)) (found : lookup (λ k. bytes_eq key (bytes k)) entries ≡ Some scopes)
    (room : 0 < (line_in (seen nodes (by_name bytes entries)) key scope).spare)
    (written : (line : Line) → lookup (bytes_eq scope) scopes ≡ Some line → new ≡ set_value (bytes_eq scope) scopes (with_last nodes.vacant_key line))
    (adds : (line : Line) → lookup (bytes_eq scope) scopes ≡ Some line → AddsNode nodes others line number) where
  here : (line : Line) × (lookup (bytes_eq scope) scopes ≡ Some line)
  here =
      let there = room_seen nodes (by_name bytes entries) key scope room in (
        there.0,
        sym (ap (λ (lines : ByScope). lookup (bytes_eq scope) lines) (named_found bytes key [] entries scopes found)) ∙ there.1,
      )

  of_key : lookup (bytes_eq key) (by_name bytes entries) ≡ Some scopes
  of_key = by_name_found bytes key entries ∙ found

  lines_are : placed (by_name bytes entries) key scope scopes here.0 of_key here.1 (with_last nodes.vacant_key here.0)
      ≡ by_name bytes (set_value (λ k. bytes_eq key (bytes k)) entries new)
  lines_are =
      ap (set_value (bytes_eq key) (by_name bytes entries)) (sym (written here.0 here.1)) ∙ sym (by_name_set bytes key entries new)

  pub added_linked : AreLinked others (by_name bytes (set_value (λ k. bytes_eq key (bytes k)) entries new))
  added_linked =
      subst (AreLinked others) lines_are
      (adds_linked nodes others (by_name bytes entries) are key scope scopes here.0 of_key here.1 number (adds here.0 here.1))

  pub added_numbers : (k s : List ℕ)
      → (line_in (seen others (by_name bytes (set_value (λ k. bytes_eq key (bytes k)) entries new))) k s).numbers
      ≡ (if bytes_eq key k && bytes_eq scope s then (line_in (seen nodes (by_name bytes entries)) k s).numbers ++ number ∷ []
      else (line_in (seen nodes (by_name bytes entries)) k s).numbers)
  added_numbers k s =
      sym (ap (λ (lines : ByKey). (line_in (seen others lines) k s).numbers) lines_are)
      ∙ adds_numbers nodes others (by_name bytes entries) are key scope scopes here.0 of_key here.1 number (adds here.0 here.1) k s

-- a line that has room is there
pub none_full : {K : Type 0} (bytes : K → List ℕ) (key scope : List ℕ) (entries : List (K × ByScope)) (nodes : Slab Node)
    → lookup (λ k. bytes_eq key (bytes k)) entries ≡ None → 0 < (line_in (seen nodes (by_name bytes entries)) key scope).spare → ⊥
none_full bytes key scope entries nodes none_there room =
    let there = room_seen nodes (by_name bytes entries) key scope room in
    let clash = sym (ap (λ (lines : ByScope). lookup (bytes_eq scope) lines) (named_absent bytes key [] entries none_there)) ∙ there.1 in
    absurd cc
