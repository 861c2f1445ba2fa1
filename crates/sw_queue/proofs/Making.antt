-- The lines of all keys and scopes, after an empty one was made.
use Rattle.std.proofs.Common.{◌≡◌, ◌∙◌, ℕ, ◌+◌, Bool, true, false, List, [], ◌∷◌, ◌++◌, bytes_eq, is_some, Option, Some, None, refl, sym, ap, arith, if◌then◌else◌}
use Rattle.std.specs.Prelude.{IsSome}
use Rattle.std.specs.List.{sum_by}
use Rattle.std.specs.Map.{lookup, set_value, values_of}
use Rattle.std.specs.Option.{unwrap_or}
use Rattle.std.proofs.lemmas.List.{map-append}
use Rattle.std.proofs.lemmas.List.Sums.{sum_by_push}
use Rattle.std.proofs.lemmas.Map.Entries.{sum_by-set_value}
use Rattle.indexmap.specs.IndexMap.{insert_entry}
use Rattle.sw_queue.specs.Lines.{by_name, named}
use Rattle.sw_queue.specs.Links.{ByKey, ByScope, count_all, count_by_scope, line_of, no_nodes}
use Rattle.sw_queue.specs.declared.line.Line.{Line}
use Rattle.sw_queue.proofs.Naming.{by_name_found, by_name_new, by_name_set, bytes_same, found_last, named_absent, named_new, named_same}
use Rattle.sw_queue.proofs.Placing.{named_placed}

-- what isn't there is nothing
pub missing : {V : Type 0} (found : Option V) → is_some found ≡ false → found ≡ None
missing None nothing = refl
missing (Some value) nothing = absurd cc

-- a sum with one more at its end
sum_more : {V : Type 0} (f : V → ℕ) (lines : List (List ℕ × V)) (name : List ℕ) (new : V)
    → sum_by f (values_of (lines ++ (name, new) ∷ [])) ≡ sum_by f (values_of lines) + f new
sum_more f lines name new = ap (sum_by f) (map-append (λ line. line.1) lines ((name, new) ∷ [])) ∙ sum_by_push f (values_of lines) new

-- ---- the line of a scope

module _ {K : Type 0} (bytes : K → List ℕ) (scope : List ℕ) (entries : List (K × Line)) (eq : K → K → Bool) (key : K)
    (decides : (x y : K) → eq x y ≡ bytes_eq (bytes x) (bytes y)) (is : bytes key ≡ scope)
    (none_there : lookup (λ k. bytes_eq scope (bytes k)) entries ≡ None) where
  pub begun_line : (asked : List ℕ)
      → named (by_name bytes (insert_entry eq entries key no_nodes)) asked no_nodes ≡ named (by_name bytes entries) asked no_nodes
  begun_line asked = named_new bytes scope no_nodes asked eq key no_nodes decides is entries none_there ∙ by (bytes_eq scope asked) refl
    where
      by : (same : Bool) → bytes_eq scope asked ≡ same
          → (if same then no_nodes else named (by_name bytes entries) asked no_nodes) ≡ named (by_name bytes entries) asked no_nodes
      by true same =
          sym (named_same (by_name bytes entries) scope asked no_nodes same ∙ named_absent bytes scope no_nodes entries none_there)
      by false same = refl

  pub begun_count : count_by_scope (by_name bytes (insert_entry eq entries key no_nodes)) ≡ count_by_scope (by_name bytes entries)
  begun_count =
      let sum = sum_more (λ (line : Line). line.count) (by_name bytes entries) scope no_nodes in
      ap count_by_scope (by_name_new bytes scope eq key no_nodes decides is entries none_there) ∙ omega (arith, sum)

  pub begun_there : IsSome (lookup (bytes_eq scope) (by_name bytes (insert_entry eq entries key no_nodes)))
  begun_there =
      rw (by_name_new bytes scope eq key no_nodes decides is entries none_there)
      (rw (found_last (by_name bytes entries) scope no_nodes (by_name_found bytes scope entries ∙ none_there)) refl)

-- ---- the lines of a key

-- a key has an empty line more
module _ {K : Type 0} (bytes : K → List ℕ) (key : List ℕ) (entries : List (K × ByScope)) (scopes new : ByScope)
    (found : lookup (λ k. bytes_eq key (bytes k)) entries ≡ Some scopes) where
  of_key : lookup (bytes_eq key) (by_name bytes entries) ≡ Some scopes
  of_key = by_name_found bytes key entries ∙ found

  pub made_line : ((asked : List ℕ) → named new asked no_nodes ≡ named scopes asked no_nodes) → (k s : List ℕ)
      → line_of (by_name bytes (set_value (λ k. bytes_eq key (bytes k)) entries new)) k s ≡ line_of (by_name bytes entries) k s
  made_line same k s =
      ap (λ (l : ByKey). line_of l k s) (by_name_set bytes key entries new)
      ∙ (ap (λ (l : ByScope). named l s no_nodes) (named_placed (by_name bytes entries) key k scopes new [] of_key) ∙ by (bytes_eq key k) refl)
    where
      by : (one : Bool) → bytes_eq key k ≡ one → named (if one then new else named (by_name bytes entries) k []) s no_nodes ≡ line_of (by_name bytes entries) k s
      by true one =
          same s
          ∙ sym (ap (λ (l : ByScope). named l s no_nodes)
          (named_same (by_name bytes entries) key k [] one ∙ ap (λ (o : Option ByScope). unwrap_or o []) of_key))
      by false one = refl

  pub made_count : count_by_scope new ≡ count_by_scope scopes
      → count_all (by_name bytes (set_value (λ k. bytes_eq key (bytes k)) entries new)) ≡ count_all (by_name bytes entries)
  made_count count =
      let sum = sum_by-set_value count_by_scope (bytes_eq key) (by_name bytes entries) scopes new of_key in
      ap count_all (by_name_set bytes key entries new) ∙ omega (arith, sum, count)

  pub made_there : named (by_name bytes (set_value (λ k. bytes_eq key (bytes k)) entries new)) key [] ≡ new
  made_there =
      ap (λ (l : ByKey). named l key []) (by_name_set bytes key entries new)
      ∙ (named_placed (by_name bytes entries) key key scopes new [] of_key
      ∙ ap (λ (b : Bool). if b then new else named (by_name bytes entries) key []) (bytes_same key))

-- a key comes, with empty lines
module _ {K : Type 0} (bytes : K → List ℕ) (name : List ℕ) (entries : List (K × ByScope)) (eq : K → K → Bool) (key : K) (new : ByScope)
    (decides : (x y : K) → eq x y ≡ bytes_eq (bytes x) (bytes y)) (is : bytes key ≡ name)
    (none_there : lookup (λ k. bytes_eq name (bytes k)) entries ≡ None) where
  pub come_line : ((asked : List ℕ) → named new asked no_nodes ≡ no_nodes) → (k s : List ℕ)
      → line_of (by_name bytes (insert_entry eq entries key new)) k s ≡ line_of (by_name bytes entries) k s
  come_line empty k s =
      ap (λ (l : ByScope). named l s no_nodes) (named_new bytes name [] k eq key new decides is entries none_there) ∙ by (bytes_eq name k) refl
    where
      by : (same : Bool) → bytes_eq name k ≡ same
          → named (if same then new else named (by_name bytes entries) k []) s no_nodes ≡ line_of (by_name bytes entries) k s
      by true same =
          empty s
          ∙ sym (ap (λ (l : ByScope). named l s no_nodes)
          (named_same (by_name bytes entries) name k [] same ∙ named_absent bytes name [] entries none_there))
      by false same = refl

  pub come_count : count_by_scope new ≡ 0 → count_all (by_name bytes (insert_entry eq entries key new)) ≡ count_all (by_name bytes entries)
  come_count count =
      let sum = sum_more count_by_scope (by_name bytes entries) name new in
      ap count_all (by_name_new bytes name eq key new decides is entries none_there) ∙ omega (arith, sum, count)

  pub come_there : named (by_name bytes (insert_entry eq entries key new)) name [] ≡ new
  come_there =
      named_new bytes name [] name eq key new decides is entries none_there
      ∙ ap (λ (b : Bool). if b then new else named (by_name bytes entries) name []) (bytes_same name)
