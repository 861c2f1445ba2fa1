-- The lines of all keys and scopes, after one of them changes or comes.
use Rattle.std.proofs.Common.{◌≡◌, ◌∙◌, ℕ, zero, suc, ◌+◌, ◌<◌, ◌≤◌, Bool, true, false, cond, List, [], ◌∷◌, bytes_eq, is_some, map, Option, Some, None, option_map, refl, sym, ap, subst, arith, if◌then◌else◌}
use Rattle.std.specs.Prelude.{◌&&◌, ◌==◌, IsSome}
use Rattle.std.specs.Cmp.Lexicographic.{nat_list_eq_equiv}
use Rattle.std.specs.List.{last_or, sum_by}
use Rattle.std.specs.Map.{lookup, set_value, values_of}
use Rattle.std.specs.Option.{option_map_or, unwrap_or}
use Rattle.std.proofs.lemmas.Bool.Decides.{nat_tests}
use Rattle.std.proofs.lemmas.Map.{lookup-set_value}
use Rattle.std.proofs.lemmas.Map.Entries.{sum_by-set_value}
use Rattle.slab.specs.Slab.{HasRoomFor, Slab, get, slab_len}
use Rattle.sw_queue.specs.Lines.{InLine, Scoped, line_in, named, no_line}
use Rattle.sw_queue.specs.Links.{AreLinked, ByKey, ByScope, IsLine, Name, IsNodeOf, count_all, count_by_scope, last_number, line_of, no_nodes, numbers_from, numbers_of, seen, seen_line}
use Rattle.sw_queue.specs.declared.line.Line.{Line}
use Rattle.sw_queue.specs.declared.line.Node.{Node}
use Rattle.sw_queue.proofs.Linking.{last_met, leads_stay}
use Rattle.sw_queue.proofs.Naming.{named_same}

-- ---- the lines are seen as their numbers

-- a line is seen as its numbers, where it is there
seen_at : (nodes : Slab Node) (lines : ByScope) (scope : List ℕ)
    → named (map (λ line. (line.0, seen_line nodes line.1)) lines) scope no_line ≡ option_map_or (seen_line nodes) (lookup (bytes_eq scope) lines) no_line
seen_at nodes [] scope = refl
seen_at nodes (line ∷ lines) scope = by (bytes_eq scope line.0) (seen_at nodes lines scope)
  where
    by : (same : Bool)
        → named (map (λ line. (line.0, seen_line nodes line.1)) lines) scope no_line ≡ option_map_or (seen_line nodes) (lookup (bytes_eq scope) lines) no_line
        → unwrap_or (cond same (Some (seen_line nodes line.1)) (lookup (bytes_eq scope) (map (λ line. (line.0, seen_line nodes line.1)) lines))) no_line
        ≡ option_map_or (seen_line nodes) (cond same (Some line.1) (lookup (bytes_eq scope) lines)) no_line
    by true rest = refl
    by false rest = rest

seen_key : (nodes : Slab Node) (lines : ByKey) (key : List ℕ)
    → named (seen nodes lines) key [] ≡ map (λ line. (line.0, seen_line nodes line.1)) (named lines key [])
seen_key nodes [] key = refl
seen_key nodes (scopes ∷ lines) key = by (bytes_eq key scopes.0) (seen_key nodes lines key)
  where
    by : (same : Bool)
        → named (seen nodes lines) key [] ≡ map (λ line. (line.0, seen_line nodes line.1)) (named lines key [])
        → unwrap_or (cond same (Some (map (λ line. (line.0, seen_line nodes line.1)) scopes.1)) (lookup (bytes_eq key) (seen nodes lines))) []
        ≡ map (λ line. (line.0, seen_line nodes line.1)) (unwrap_or (cond same (Some scopes.1) (lookup (bytes_eq key) lines)) [])
    by true rest = refl
    by false rest = rest

seen_in : (nodes : Slab Node) (lines : ByKey) (key scope : List ℕ)
    → line_in (seen nodes lines) key scope ≡ option_map_or (seen_line nodes) (lookup (bytes_eq scope) (named lines key [])) no_line
seen_in nodes lines key scope = ap (λ (l : Scoped). named l scope no_line) (seen_key nodes lines key) ∙ seen_at nodes (named lines key []) scope

pub seen_numbers : (nodes : Slab Node) (lines : ByKey) (key scope : List ℕ)
    → (line_in (seen nodes lines) key scope).numbers ≡ numbers_of nodes (line_of lines key scope)
seen_numbers nodes lines key scope = ap (λ (l : InLine). l.numbers) (seen_in nodes lines key scope) ∙ by (lookup (bytes_eq scope) (named lines key []))
  where
    by : (found : Option Line) → (option_map_or (seen_line nodes) found no_line).numbers ≡ numbers_of nodes (unwrap_or found no_nodes)
    by None = refl
    by (Some line) = refl

-- a line that is there has the room that is there
pub seen_room : (nodes : Slab Node) (lines : ByKey) (key scope : List ℕ) → IsSome (lookup (bytes_eq scope) (named lines key [])) → HasRoomFor nodes 1
    → 0 < (line_in (seen nodes lines) key scope).spare
seen_room nodes lines key scope there room =
    by (lookup (bytes_eq scope) (named lines key [])) there (ap (λ (l : InLine). l.spare) (seen_in nodes lines key scope))
  where
    by : (found : Option Line) → IsSome found → (line_in (seen nodes lines) key scope).spare ≡ (option_map_or (seen_line nodes) found no_line).spare
        → 0 < (line_in (seen nodes lines) key scope).spare
    by None there is = absurd cc
    by (Some line) there is = omega (arith, room, is)

-- a line that has room is there, and so is the room
pub room_seen : (nodes : Slab Node) (lines : ByKey) (key scope : List ℕ) → 0 < (line_in (seen nodes lines) key scope).spare
    → (line : Line) × (lookup (bytes_eq scope) (named lines key []) ≡ Some line) × HasRoomFor nodes 1
room_seen nodes lines key scope room =
    by (lookup (bytes_eq scope) (named lines key [])) refl (ap (λ (l : InLine). l.spare) (seen_in nodes lines key scope))
  where
    by : (found : Option Line) → lookup (bytes_eq scope) (named lines key []) ≡ found
        → (line_in (seen nodes lines) key scope).spare ≡ (option_map_or (seen_line nodes) found no_line).spare
        → (line : Line) × (lookup (bytes_eq scope) (named lines key []) ≡ Some line) × HasRoomFor nodes 1
    by None there is = absurd (omega (arith, room, is))
    by (Some line) there is = (line, there, omega (arith, room, is))

-- ---- one line is written

module _ {V : Type 0} where
  -- what was written for a name is found under it
  pub named_placed : (lines : List (List ℕ × V)) (name asked : List ℕ) (old new absent : V) → lookup (bytes_eq name) lines ≡ Some old
      → named (set_value (bytes_eq name) lines new) asked absent ≡ (if bytes_eq name asked then new else named lines asked absent)
  named_placed lines name asked old new absent found =
      ap (λ (o : Option V). unwrap_or o absent)
      (lookup-set_value nat_list_eq_equiv (bytes_eq name) (nat_list_eq_equiv.congr name) asked new lines (ap is_some found))
      ∙ by (bytes_eq name asked)
    where
      by : (same : Bool) → unwrap_or (cond same (Some new) (lookup (bytes_eq asked) lines)) absent
          ≡ (if same then new else unwrap_or (lookup (bytes_eq asked) lines) absent)
      by true = refl
      by false = refl

  -- what a name has is part of the sum
  pub part_within : (f : V → ℕ) (lines : List (List ℕ × V)) (name : List ℕ) (part nothing : V) → f nothing ≡ 0 → lookup (bytes_eq name) lines ≡ Some part
      → f part ≤ sum_by f (values_of lines)
  part_within f lines name part nothing is_nothing found =
      let sum = sum_by-set_value f (bytes_eq name) lines part nothing found in omega (arith, sum, is_nothing)

module _ (lines : ByKey) (key scope : List ℕ) (scopes : ByScope) (line : Line) (of_key : lookup (bytes_eq key) lines ≡ Some scopes)
    (of_scope : lookup (bytes_eq scope) scopes ≡ Some line) where
  -- the lines with another one of this key and scope
  abbrev pub placed : Line → ByKey
  placed new = set_value (bytes_eq key) lines (set_value (bytes_eq scope) scopes new)

  pub own_line : line_of lines key scope ≡ line
  own_line =
      ap (λ (o : Option ByScope). named (unwrap_or o []) scope no_nodes) of_key ∙ ap (λ (o : Option Line). unwrap_or o no_nodes) of_scope

  pub placed_line : (new : Line) (k s : List ℕ) → line_of (placed new) k s ≡ (if bytes_eq key k && bytes_eq scope s then new else line_of lines k s)
  placed_line new k s =
      ap (λ (l : ByScope). named l s no_nodes) (named_placed lines key k scopes (set_value (bytes_eq scope) scopes new) [] of_key)
      ∙ by (bytes_eq key k) refl
    where
      by : (same : Bool) → bytes_eq key k ≡ same
          → named (if same then set_value (bytes_eq scope) scopes new else named lines k []) s no_nodes
          ≡ (if same && bytes_eq scope s then new else line_of lines k s)
      by true same =
          let own : scopes ≡ named lines k [] =
          sym (ap (λ (o : Option ByScope). unwrap_or o []) of_key) ∙ sym (named_same lines key k [] same) in
          named_placed scopes scope s line new no_nodes of_scope
          ∙ ap (λ (l : ByScope). if bytes_eq scope s then new else named l s no_nodes) own
      by false same = refl

  pub placed_count : (new : Line) → count_all (placed new) + line.count ≡ count_all lines + new.count
  placed_count new =
      let outer = sum_by-set_value count_by_scope (bytes_eq key) lines scopes (set_value (bytes_eq scope) scopes new) of_key in
      let inner = sum_by-set_value (λ line. line.count) (bytes_eq scope) scopes line new of_scope in
      omega (arith, outer, inner)

-- ---- the nodes of a line that stays

module _ (nodes others : Slab Node) (owner owns : ℕ → Name) (name : Name) where
  pub line_stays : ((place : ℕ) (node : Node) → IsNodeOf nodes owner name place node → IsNodeOf others owns name place node)
      → (last count first : ℕ) → IsLine nodes owner name last count first
      → IsLine others owns name last count first × (numbers_from others count first ≡ numbers_from nodes count first)
  line_stays stays last zero first is = (tt, refl)
  line_stays stays last (suc links) first is =
      leads_stay nodes owner name last others owns links (λ fewer place node few leads. stays place node) links first (omega arith) is

-- where the lines and the slots stay, the links do
module _ (nodes others : Slab Node) (lines after : ByKey) (are : AreLinked nodes lines) (slots : others.slots ≡ nodes.slots)
    (same : (k s : List ℕ) → line_of after k s ≡ line_of lines k s) where
  all_stay : (k s : List ℕ)
      → IsLine others are.owner (k, s) (line_of lines k s).last (line_of lines k s).count (line_of lines k s).first
      × (numbers_of others (line_of lines k s) ≡ numbers_of nodes (line_of lines k s))
  all_stay k s =
      line_stays nodes others are.owner are.owner (k, s)
      (λ place node stand. record { there = ap (λ (xs : List (Option Node)). get (record nodes { slots = xs }) place) slots ∙ stand.there; own = stand.own })
      (line_of lines k s).last (line_of lines k s).count (line_of lines k s).first (are.linked k s)

  pub linked_kept : count_all after ≡ count_all lines → AreLinked others after
  linked_kept count = record {
    owner = are.owner;
    linked = λ k s. subst (λ (l : Line). IsLine others are.owner (k, s) l.last l.count l.first) (sym (same k s)) (all_stay k s).0;
    count = count ∙ (are.count ∙ sym (ap (λ (xs : List (Option Node)). slab_len (record nodes { slots = xs })) slots));
  }

  pub numbers_kept : (k s : List ℕ) → (line_in (seen others after) k s).numbers ≡ (line_in (seen nodes lines) k s).numbers
  numbers_kept k s =
      seen_numbers others after k s
      ∙ (ap (numbers_of others) (same k s) ∙ ((all_stay k s).1 ∙ sym (seen_numbers nodes lines k s)))

pub none_linked : (nodes : Slab Node) → nodes.slots ≡ [] → AreLinked nodes []
none_linked nodes empty = record {
  owner = λ place. ([], []);
  linked = λ k s. tt;
  count = sym (ap (λ (xs : List (Option Node)). slab_len (record nodes { slots = xs })) empty);
}

-- what is read at the end of a line is its last number
pub last_read : (nodes : Slab Node) (lines : ByKey) (key scope : List ℕ) → AreLinked nodes lines
    → last_number nodes (line_of lines key scope) ≡ last_or None (line_in (seen nodes lines) key scope).numbers
last_read nodes lines key scope are =
    by (line_of lines key scope).count (are.linked key scope) refl ∙ sym (ap (last_or None) (seen_numbers nodes lines key scope))
  where
    line : Line
    line = line_of lines key scope

    by : (count : ℕ) → IsLine nodes are.owner (key, scope) line.last count line.first → line.count ≡ count
        → last_number nodes line ≡ last_or None (numbers_from nodes line.count line.first)
    by zero is nothing =
        let empty : (line.count == 0) ≡ true = grind (arith, nat_tests, nothing) in
        ap (λ (b : Bool). if b then None else option_map (λ node. node.job) (get nodes line.last)) empty
        ∙ sym (ap (λ n. last_or None (numbers_from nodes n line.first)) nothing)
    by (suc links) is many =
        let full : (line.count == 0) ≡ false = grind (arith, nat_tests, many) in
        ap (λ (b : Bool). if b then None else option_map (λ node. node.job) (get nodes line.last)) full
        ∙ (last_met nodes are.owner (key, scope) line.last links line.first None is
        ∙ sym (ap (λ n. last_or None (numbers_from nodes n line.first)) many))
