-- Numbers that nodes hold, each linking the next, by key and scope (own).
use Rattle.std.specs.Prelude.{◌≡◌, ◌≢◌, ℕ, zero, suc, ◌+◌, ◌-◌, ◌<◌, ◌==◌, List, [], ◌∷◌, map, Option, Some, None, option_map, if◌then◌else◌}
use Rattle.std.specs.List.{sum_by}
use Rattle.std.specs.Map.{values_of}
use Rattle.std.specs.Option.{option_map_or, unwrap_or}
use Rattle.slab.specs.Slab.{Slab, get, slab_len, with_value}
use Rattle.sw_queue.specs.Lines.{InLine, Keyed, named}
use Rattle.sw_queue.specs.declared.line.Line.{Line}
use Rattle.sw_queue.specs.declared.line.Node.{Node}

-- own: a line of no number
abbrev pub no_nodes : Line
no_nodes = record { first = 0; last = 0; count = 0 }

-- own: the numbers of so many nodes, from a place on
abbrev pub numbers_from : Slab Node → ℕ → ℕ → List ℕ
numbers_from nodes zero place = []
numbers_from nodes (suc count) place =
    option_map_or (λ node. node.job ∷ numbers_from nodes count (unwrap_or node.next place)) (get nodes place) []

-- own: the numbers of a line: those that are met by following the links from its first node
abbrev pub numbers_of : Slab Node → Line → List ℕ
numbers_of nodes line = numbers_from nodes line.count line.first

-- own: the number of a line's last node
abbrev pub last_number : Slab Node → Line → Option ℕ
last_number nodes line = if line.count == 0 then None else option_map (λ node. node.job) (get nodes line.last)

-- ---- changes

-- own: a node with this one behind it
abbrev pub followed : ℕ → Node → Node
followed next node = record node { next = Some next }

-- own: the last node of a line has this one behind it
abbrev pub with_link : Slab Node → Line → ℕ → Slab Node
with_link nodes line next =
    if line.count == 0 then nodes
    else option_map_or (λ node. with_value nodes line.last (followed next node)) (get nodes line.last) nodes

-- own: a line with this node at its end
abbrev pub with_last : ℕ → Line → Line
with_last place line = record { first = if line.count == 0 then place else line.first; last = place; count = line.count + 1 }

-- own: a line without its first node
abbrev pub without_first : Slab Node → Line → Line
without_first nodes line =
    if line.count == 0 then line
    else option_map_or (λ node. record line { first = unwrap_or node.next line.first; count = line.count - 1 }) (get nodes line.first) line

-- own: a number came into a place that was vacant, behind the last node of a line
pub record AddsNode (old new : Slab Node) (line : Line) (number : ℕ) : Type 0 where
  pub vacant : get old old.vacant_key ≡ None
  pub added : get new old.vacant_key ≡ Some (record { job = number; next = None })
  pub behind : 0 < line.count → (node : Node) → get old line.last ≡ Some node → get new line.last ≡ Some (followed old.vacant_key node)
  pub others : (place : ℕ) → place ≢ old.vacant_key → (0 < line.count → place ≢ line.last) → get new place ≡ get old place
  pub count : slab_len new ≡ slab_len old + 1

-- own: the first node of a line went, where it has one
pub record Drops (old new : Slab Node) (line : Line) : Type 0 where
  pub others : (place : ℕ) → place ≢ line.first → get new place ≡ get old place
  pub count : 0 < line.count → (node : Node) → get old line.first ≡ Some node → slab_len new + 1 ≡ slab_len old
  pub empty : line.count ≡ 0 → new ≡ old

-- ---- the lines of all keys and scopes

abbrev pub ByScope : Type 0
ByScope = List (List ℕ × Line)

abbrev pub ByKey : Type 0
ByKey = List (List ℕ × ByScope)

-- own: the line of a key and a scope
abbrev pub line_of : ByKey → List ℕ → List ℕ → Line
line_of lines key scope = named (named lines key []) scope no_nodes

-- own: how many numbers stand in the lines of a key
abbrev pub count_by_scope : ByScope → ℕ
count_by_scope lines = sum_by (λ line. line.count) (values_of lines)

-- own: how many numbers stand in all lines
abbrev pub count_all : ByKey → ℕ
count_all lines = sum_by count_by_scope (values_of lines)

-- own: a line as its numbers, with the room that all lines share
abbrev pub seen_line : Slab Node → Line → InLine
seen_line nodes line = record { numbers = numbers_of nodes line; spare = nodes.capacity - slab_len nodes }

-- own: all lines as their numbers
abbrev pub seen : Slab Node → ByKey → Keyed
seen nodes lines = map (λ scopes. (scopes.0, map (λ line. (line.0, seen_line nodes line.1)) scopes.1)) lines

-- ---- what holds of the nodes

-- own: the key and the scope of a line
abbrev pub Name : Type 0
Name = List ℕ × List ℕ

-- own: this node stands at a place that belongs to the line of this name
pub record IsNodeOf (nodes : Slab Node) (owner : ℕ → Name) (name : Name) (place : ℕ) (node : Node) : Type 0 where
  pub there : get nodes place ≡ Some node
  pub own : owner place ≡ name

-- own: so many links lead from a place to the last node of a line, over places that belong to it, and the last node links none
abbrev pub Leads : Slab Node → (ℕ → Name) → Name → ℕ → ℕ → ℕ → Type 0
Leads nodes owner name last zero place = (node : Node) × IsNodeOf nodes owner name place node × (node.next ≡ None) × (place ≡ last)
Leads nodes owner name last (suc links) place =
    (node : Node) × (next : ℕ) × IsNodeOf nodes owner name place node × (node.next ≡ Some next) × Leads nodes owner name last links next

-- own: a line counts the nodes from its first to its last, which belong to it
abbrev pub IsLine : Slab Node → (ℕ → Name) → Name → ℕ → ℕ → ℕ → Type 0
IsLine nodes owner name last zero first = Unit {0}
IsLine nodes owner name last (suc links) first = Leads nodes owner name last links first

-- own: each place belongs to one line at most, the links of a line lead over its own places alone, and all lines together count as many
-- nodes as there are, so each node stands in one line
pub record AreLinked (nodes : Slab Node) (lines : ByKey) : Type 0 where
  pub owner : ℕ → Name
  pub linked : (key scope : List ℕ)
      → IsLine nodes owner (key, scope) (line_of lines key scope).last (line_of lines key scope).count (line_of lines key scope).first
  pub count : count_all lines ≡ slab_len nodes
