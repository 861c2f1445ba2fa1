-- The lines of all keys and scopes, after the first number of one of them went.
use Rattle.std.proofs.Common.{◌≡◌, ◌≢◌, ◌∙◌, ℕ, zero, suc, ◌-◌, ◌<◌, Bool, true, false, List, [], bytes_eq, drop, Option, Some, None, refl, sym, ap, subst, inl, inr, arith, true≢false, if◌then◌else◌}
use Rattle.std.specs.Prelude.{◌&&◌, ◌==◌}
use Rattle.std.specs.Cmp.Lexicographic.{bytes_decides}
use Rattle.std.specs.Map.{lookup, set_value}
use Rattle.std.specs.Option.{option_map_or, unwrap_or}
use Rattle.std.proofs.lemmas.Bool.{cases_eq}
use Rattle.std.proofs.lemmas.Bool.Decides.{nat_tests}
use Rattle.std.proofs.lemmas.Map.Steps.{set_value_same}
use Rattle.slab.specs.Slab.{Slab, get, slab_len}
use Rattle.sw_queue.specs.Lines.{by_name, line_in, named}
use Rattle.sw_queue.specs.Links.{AreLinked, ByKey, ByScope, Drops, IsLine, Name, IsNodeOf, count_all, line_of, no_nodes, numbers_from, numbers_of, seen, without_first}
use Rattle.sw_queue.specs.declared.line.Line.{Line}
use Rattle.sw_queue.specs.declared.line.Node.{Node}
use Rattle.sw_queue.proofs.Linking.{leads_on, met_last, met_next}
use Rattle.sw_queue.proofs.Naming.{by_name_found, by_name_set, named_absent, named_same, set_absent}
use Rattle.sw_queue.proofs.Placing.{line_stays, own_line, placed, placed_count, placed_line, seen_numbers}

-- the line without the first node, where it has one
gone : (nodes : Slab Node) (line : Line) (node : Node) → 0 < line.count → get nodes line.first ≡ Some node
    → without_first nodes line ≡ record line { first = unwrap_or node.next line.first; count = line.count - 1 }
gone nodes line node filled found =
    let full : (line.count == 0) ≡ false = grind (arith, nat_tests, filled) in
    ap (λ (b : Bool). if b then line
    else option_map_or (λ node. record line { first = unwrap_or node.next line.first; count = line.count - 1 }) (get nodes line.first) line) full
    ∙ ap (λ (o : Option Node). option_map_or (λ node. record line { first = unwrap_or node.next line.first; count = line.count - 1 }) o line) found

-- the first node of a line
first_stands : (nodes : Slab Node) (owner : ℕ → Name) (name : Name) (last count first : ℕ) → IsLine nodes owner name last count first → 0 < count
    → (node : Node) × IsNodeOf nodes owner name first node
first_stands nodes owner name last zero first is filled = absurd (omega (arith, filled))
first_stands nodes owner name last (suc zero) first is filled = (is.0, is.1)
first_stands nodes owner name last (suc (suc links)) first is filled = (is.0, is.2)

module _ (nodes others : Slab Node) (owner : ℕ → Name) (name : Name) where
  -- a line with these numbers
  abbrev IsMet : List ℕ → Line → Type 0
  IsMet numbers line = IsLine others owner name line.last line.count line.first × (numbers_of others line ≡ numbers)

  dropped_line : (first last count : ℕ) → IsLine nodes owner name last count first → Drops nodes others (record { first = first; last = last; count = count })
      → IsMet (drop 1 (numbers_from nodes count first)) (without_first nodes (record { first = first; last = last; count = count }))
  dropped_line first last zero is drops = (tt, refl)
  dropped_line first last (suc zero) is drops =
      subst (IsMet (drop 1 (numbers_from nodes 1 first)))
      (sym (gone nodes (record { first = first; last = last; count = 1 }) is.0 (omega arith) is.1.there))
      (tt, sym (ap (drop 1) (met_last nodes first is.0 is.1.there)))
  dropped_line first last (suc (suc links)) is drops =
      let rest = leads_on nodes owner name last others (suc links) first is drops.others links is.1 (omega arith) is.4 in
      let fewer : suc (suc links) - 1 ≡ suc links = omega arith in
      subst (IsMet (drop 1 (numbers_from nodes (suc (suc links)) first)))
      (sym (gone nodes (record { first = first; last = last; count = suc (suc links) }) is.0 (omega arith) is.2.there
      ∙ (λ i. record { first = unwrap_or (is.3 i) first; last = last; count = fewer i })))
      (rest.0, rest.1 ∙ sym (ap (drop 1) (met_next nodes (suc links) first is.1 is.0 is.2.there is.3)))

module _ (nodes others : Slab Node) (lines : ByKey) (are : AreLinked nodes lines) (key scope : List ℕ) (scopes : ByScope) (line : Line)
    (of_key : lookup (bytes_eq key) lines ≡ Some scopes) (of_scope : lookup (bytes_eq scope) scopes ≡ Some line)
    (drops : Drops nodes others line) where
  own : IsLine nodes are.owner (key, scope) line.last line.count line.first
  own = subst (λ (l : Line). IsLine nodes are.owner (key, scope) l.last l.count l.first) (own_line lines key scope scopes line of_key of_scope) (are.linked key scope)

  -- a place of another line stays as it was
  stays_there : (name : Name) → name ≢ (key, scope) → (place : ℕ) (node : Node) → IsNodeOf nodes are.owner name place node → get others place ≡ get nodes place
  stays_there name apart place node stand =
      elim (cases_eq line.count 0) [
        | inl nothing ↦ ap (λ (n : Slab Node). get n place) (drops.empty nothing)
        | inr filled ↦
            drops.others place
            (λ is. apart (sym stand.own ∙ (ap are.owner is
            ∙ (first_stands nodes are.owner (key, scope) line.last line.count line.first own (omega (arith, filled))).1.own)))
      ]

  -- the nodes of other lines stay
  others_stay : (name : Name) → name ≢ (key, scope) → (place : ℕ) (node : Node) → IsNodeOf nodes are.owner name place node
      → IsNodeOf others are.owner name place node
  others_stay name apart place node stand = record { there = stays_there name apart place node stand ∙ stand.there; own = stand.own }

  abbrev after : ByKey
  after = placed lines key scope scopes line of_key of_scope (without_first nodes line)

  -- a line of this name, with these numbers
  abbrev IsSeen : List ℕ → List ℕ → List ℕ → Line → Type 0
  IsSeen k s = IsMet nodes others are.owner (k, s)

  all_dropped : (k s : List ℕ)
      → IsSeen k s
      (if bytes_eq key k && bytes_eq scope s then drop 1 (numbers_of nodes (line_of lines k s)) else numbers_of nodes (line_of lines k s))
      (line_of after k s)
  all_dropped k s =
      subst (IsSeen k s (if bytes_eq key k && bytes_eq scope s then drop 1 (numbers_of nodes (line_of lines k s)) else numbers_of nodes (line_of lines k s)))
      (sym (placed_line lines key scope scopes line of_key of_scope (without_first nodes line) k s))
      (by (bytes_eq key k) (bytes_eq scope s) refl refl)
    where
      other : ◌≢◌ {A = Name} (k, s) (key, scope) → IsSeen k s (numbers_of nodes (line_of lines k s)) (line_of lines k s)
      other apart =
          line_stays nodes others are.owner are.owner (k, s) (others_stay (k, s) apart)
          (line_of lines k s).last (line_of lines k s).count (line_of lines k s).first (are.linked k s)

      by : (one two : Bool) → bytes_eq key k ≡ one → bytes_eq scope s ≡ two
          → IsSeen k s (if one && two then drop 1 (numbers_of nodes (line_of lines k s)) else numbers_of nodes (line_of lines k s))
          (if one && two then without_first nodes line else line_of lines k s)
      by true true same_key same_scope =
          let key_is : key ≡ k = (bytes_decides key k).0 same_key in
          let scope_is : scope ≡ s = (bytes_decides scope s).0 same_scope in
          let line_is : line ≡ line_of lines k s =
          sym (own_line lines key scope scopes line of_key of_scope) ∙ (λ i. line_of lines (key_is i) (scope_is i)) in
          let left = dropped_line nodes others are.owner (key, scope) line.first line.last line.count own drops in (
            subst (λ (name : Name). IsLine others are.owner name (without_first nodes line).last (without_first nodes line).count (without_first nodes line).first)
                (λ i. (key_is i, scope_is i)) left.0,
            left.1 ∙ ap (λ (l : Line). drop 1 (numbers_of nodes l)) line_is,
          )
      by true false same_key same_scope =
          other (λ is. true≢false (sym ((bytes_decides scope s).1 (sym (ap (λ (name : Name). name.1) is))) ∙ same_scope))
      by false two same_key same_scope =
          other (λ is. true≢false (sym ((bytes_decides key k).1 (sym (ap (λ (name : Name). name.0) is))) ∙ same_key))

  fewer : count_all after ≡ slab_len others
  fewer =
      let placed = placed_count lines key scope scopes line of_key of_scope (without_first nodes line) in
      elim (cases_eq line.count 0) [
        | inl nothing ↦
            let same : (without_first nodes line).count ≡ line.count =
            (let empty : (line.count == 0) ≡ true = grind (arith, nat_tests, nothing) in
            ap (λ (b : Bool). (if b then line
            else option_map_or (λ node. record line { first = unwrap_or node.next line.first; count = line.count - 1 }) (get nodes line.first) line).count) empty) in
            let stays = ap (λ (n : Slab Node). slab_len n) (drops.empty nothing) in
            omega (arith, placed, are.count, same, stays)
        | inr filled ↦
            let first = first_stands nodes are.owner (key, scope) line.last line.count line.first own (omega (arith, filled)) in
            let less = ap (λ (l : Line). l.count) (gone nodes line first.0 (omega (arith, filled)) first.1.there) in
            let left = drops.count (omega (arith, filled)) first.0 first.1.there in
            omega (arith, placed, are.count, filled, less, left)
      ]

  there_linked : AreLinked others after
  there_linked = record { owner = are.owner; linked = λ k s. (all_dropped k s).0; count = fewer }

  there_numbers : (k s : List ℕ)
      → (line_in (seen others after) k s).numbers
      ≡ (if bytes_eq key k && bytes_eq scope s then drop 1 (line_in (seen nodes lines) k s).numbers else (line_in (seen nodes lines) k s).numbers)
  there_numbers k s =
      seen_numbers others after k s
      ∙ ((all_dropped k s).1
      ∙ sym (ap (λ (numbers : List ℕ). if bytes_eq key k && bytes_eq scope s then drop 1 numbers else numbers) (seen_numbers nodes lines k s)))

-- the first number of a line goes, where it has one, by the entries of a map
module _ {K : Type 0} (bytes : K → List ℕ) (key scope : List ℕ) (entries : List (K × ByScope)) (scopes new : ByScope) (nodes others : Slab Node)
    (are : AreLinked nodes (by_name bytes entries)) (found : lookup (λ k. bytes_eq key (bytes k)) entries ≡ Some scopes)
    (written : new ≡ set_value (bytes_eq scope) scopes (without_first nodes (named scopes scope no_nodes)))
    (drops : Drops nodes others (named scopes scope no_nodes)) where
  -- what is to be shown of the nodes and the lines afterwards
  abbrev AreLeft : Slab Node → ByKey → Type 0
  AreLeft n l =
      AreLinked n l
      × ((k s : List ℕ) → (line_in (seen n l) k s).numbers
      ≡ (if bytes_eq key k && bytes_eq scope s then drop 1 (line_in (seen nodes (by_name bytes entries)) k s).numbers
      else (line_in (seen nodes (by_name bytes entries)) k s).numbers))

  of_key : lookup (bytes_eq key) (by_name bytes entries) ≡ Some scopes
  of_key = by_name_found bytes key entries ∙ found

  -- nothing goes of a line that isn't there
  numbers_stay : (k s : List ℕ) → ((bytes_eq key k && bytes_eq scope s) ≡ true → line_of (by_name bytes entries) k s ≡ no_nodes)
      → (line_in (seen nodes (by_name bytes entries)) k s).numbers
      ≡ (if bytes_eq key k && bytes_eq scope s then drop 1 (line_in (seen nodes (by_name bytes entries)) k s).numbers
      else (line_in (seen nodes (by_name bytes entries)) k s).numbers)
  numbers_stay k s empty = by (bytes_eq key k && bytes_eq scope s) refl
    where
      numbers : List ℕ
      numbers = (line_in (seen nodes (by_name bytes entries)) k s).numbers

      by : (same : Bool) → (bytes_eq key k && bytes_eq scope s) ≡ same → numbers ≡ (if same then drop 1 numbers else numbers)
      by true same =
          let nothing : numbers ≡ [] = seen_numbers nodes (by_name bytes entries) k s ∙ ap (numbers_of nodes) (empty same) in
          nothing ∙ ap (drop 1) (sym nothing)
      by false same = refl

  -- a line that isn't there has no number under any of its names
  nothing_here : named scopes scope no_nodes ≡ no_nodes → (k s : List ℕ) → (bytes_eq key k && bytes_eq scope s) ≡ true
      → line_of (by_name bytes entries) k s ≡ no_nodes
  nothing_here line_is k s both = by (bytes_eq key k) (bytes_eq scope s) refl refl both
    where
      by : (one two : Bool) → bytes_eq key k ≡ one → bytes_eq scope s ≡ two → (one && two) ≡ true → line_of (by_name bytes entries) k s ≡ no_nodes
      by true true same_key same_scope both_true =
          ap (λ (l : ByScope). named l s no_nodes)
          (named_same (by_name bytes entries) key k [] same_key ∙ ap (λ (o : Option ByScope). unwrap_or o []) of_key)
          ∙ (named_same scopes scope s no_nodes same_scope ∙ line_is)
      by true false same_key same_scope both_true = absurd cc
      by false two same_key same_scope both_true = absurd cc

  left : AreLeft others (set_value (bytes_eq key) (by_name bytes entries) (set_value (bytes_eq scope) scopes (without_first nodes (named scopes scope no_nodes))))
  left = by (lookup (bytes_eq scope) scopes) refl
    where
      by : (line : Option Line) → lookup (bytes_eq scope) scopes ≡ line
          → AreLeft others (set_value (bytes_eq key) (by_name bytes entries) (set_value (bytes_eq scope) scopes (without_first nodes (named scopes scope no_nodes))))
      by (Some line) of_scope =
          let line_is : named scopes scope no_nodes ≡ line = ap (λ (o : Option Line). unwrap_or o no_nodes) of_scope in
          let gone_first = subst (Drops nodes others) line_is drops in
          subst (λ (l : Line). AreLeft others (set_value (bytes_eq key) (by_name bytes entries) (set_value (bytes_eq scope) scopes (without_first nodes l))))
          (sym line_is) (
            there_linked nodes others (by_name bytes entries) are key scope scopes line of_key of_scope gone_first,
            there_numbers nodes others (by_name bytes entries) are key scope scopes line of_key of_scope gone_first,
          )
      by None none_there =
          let line_is : named scopes scope no_nodes ≡ no_nodes = ap (λ (o : Option Line). unwrap_or o no_nodes) none_there in
          let same = (subst (Drops nodes others) line_is drops).empty refl in
          let lines_are =
          ap (set_value (bytes_eq key) (by_name bytes entries)) (set_absent scopes scope (without_first nodes (named scopes scope no_nodes)) none_there)
          ∙ set_value_same (bytes_eq key) (by_name bytes entries) scopes of_key in
          subst (AreLeft others) (sym lines_are)
          (subst (λ (n : Slab Node). AreLeft n (by_name bytes entries)) (sym same) (
            are,
            λ k s. numbers_stay k s (λ both. nothing_here line_is k s both),
          ))

  lines_are : set_value (bytes_eq key) (by_name bytes entries) (set_value (bytes_eq scope) scopes (without_first nodes (named scopes scope no_nodes)))
      ≡ by_name bytes (set_value (λ k. bytes_eq key (bytes k)) entries new)
  lines_are = ap (set_value (bytes_eq key) (by_name bytes entries)) (sym written) ∙ sym (by_name_set bytes key entries new)

  pub dropped_linked : AreLinked others (by_name bytes (set_value (λ k. bytes_eq key (bytes k)) entries new))
  dropped_linked = subst (AreLinked others) lines_are left.0

  pub dropped_numbers : (k s : List ℕ)
      → (line_in (seen others (by_name bytes (set_value (λ k. bytes_eq key (bytes k)) entries new))) k s).numbers
      ≡ (if bytes_eq key k && bytes_eq scope s then drop 1 (line_in (seen nodes (by_name bytes entries)) k s).numbers
      else (line_in (seen nodes (by_name bytes entries)) k s).numbers)
  dropped_numbers k s = sym (ap (λ (l : ByKey). (line_in (seen others l) k s).numbers) lines_are) ∙ left.1 k s

-- nothing goes of no line
pub nothing_drops : (nodes : Slab Node) → Drops nodes nodes no_nodes
nothing_drops nodes = record { others = λ place apart. refl; count = λ filled. absurd (omega (arith, filled)); empty = λ nothing. refl }

-- nothing goes of a key without lines
pub none_dropped : {K : Type 0} (bytes : K → List ℕ) (key scope : List ℕ) (entries : List (K × ByScope)) (nodes : Slab Node)
    → lookup (λ k. bytes_eq key (bytes k)) entries ≡ None → (k s : List ℕ)
    → (line_in (seen nodes (by_name bytes entries)) k s).numbers
    ≡ (if bytes_eq key k && bytes_eq scope s then drop 1 (line_in (seen nodes (by_name bytes entries)) k s).numbers
    else (line_in (seen nodes (by_name bytes entries)) k s).numbers)
none_dropped bytes key scope entries nodes none_there k s = by (bytes_eq key k) (bytes_eq scope s) refl
  where
    numbers : List ℕ
    numbers = (line_in (seen nodes (by_name bytes entries)) k s).numbers

    by : (one two : Bool) → bytes_eq key k ≡ one → numbers ≡ (if one && two then drop 1 numbers else numbers)
    by true true same =
        let nothing : numbers ≡ [] =
        seen_numbers nodes (by_name bytes entries) k s
        ∙ ap (λ (l : ByScope). numbers_of nodes (named l s no_nodes))
        (named_same (by_name bytes entries) key k [] same ∙ named_absent bytes key [] entries none_there) in
        nothing ∙ ap (drop 1) (sym nothing)
    by true false same = refl
    by false two same = refl
