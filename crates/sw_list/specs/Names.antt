-- Numbers by key and by name.
use Rattle.std.specs.Prelude.{◌≡◌, ℕ, ◌<◌, ◌&&◌, Bool, true, false, cond, List, nat_eq, bytes_eq, Option, Some, None, MatchOption}
use Rattle.std.specs.Option.{option_map_or}
use Rattle.std.specs.Ordering.{nat_cmp}
use Rattle.std.specs.BTreeSet.{BTreeSet, contains}
use Rattle.std.specs.Map.{lookup}
use Rattle.sw_list.specs.declared.names.Names.{Names}

-- what each key has
abbrev pub Keyed : Type 0
Keyed = List (List ℕ × Names)

-- the numbers of each name
abbrev pub Numbers : Type 0
Numbers = List (List ℕ × BTreeSet ℕ)

-- what is found passes a test
abbrev pub found_has : {X : Type 0} → (X → Bool) → Option X → Bool
found_has test found = option_map_or test found false

abbrev pub set_has : BTreeSet ℕ → ℕ → Bool
set_has numbers n = contains nat_cmp numbers n

-- a name has this number
abbrev pub map_has : Numbers → List ℕ → ℕ → Bool
map_has names name n = found_has (λ numbers. set_has numbers n) (lookup (bytes_eq name) names)

-- a name has this number, or any name where none is given
abbrev pub names_have : Names → Option (List ℕ) → ℕ → Bool
names_have names None n = set_has names.in_order n
names_have names (Some name) n = map_has names.by_name.entries name n

-- a key has this number, under this name where one is given
abbrev pub keys_have : Keyed → List ℕ → Option (List ℕ) → ℕ → Bool
keys_have keys key name n = found_has (λ names. names_have names name n) (lookup (bytes_eq key) keys)

-- a key and a name
abbrev pub Label : Type 0
Label = List ℕ × List ℕ

-- a number of a key and a name
abbrev pub Mark : Type 0
Mark = ℕ × Label

-- this name is asked for, or any
abbrev pub is_named : List ℕ → Option (List ℕ) → Bool
is_named name None = true
is_named name (Some asked) = bytes_eq name asked

-- this key is asked for, and this name where one is given
abbrev pub asks : List ℕ → Option (List ℕ) → Label → Bool
asks key None label = bytes_eq label.0 key
asks key (Some name) label = bytes_eq label.0 key && bytes_eq label.1 name

-- this number of this key and name is asked for
abbrev pub is_hit : List ℕ → Option (List ℕ) → ℕ → Mark → Bool
is_hit key name n mark = asks key name mark.1 && nat_eq mark.0 n

-- this number of this name is asked for
abbrev pub is_number_in : List ℕ → ℕ → List ℕ → ℕ → Bool
is_number_in name number asked n = bytes_eq name asked && nat_eq number n

abbrev pub is_number_of : List ℕ → ℕ → Option (List ℕ) → ℕ → Bool
is_number_of name number asked n = is_named name asked && nat_eq number n

-- a name has got this number or lost it, and all else is as it was
abbrev pub PutsIn : List ℕ → ℕ → Bool → Numbers → Numbers → Type 0
PutsIn name number has old new = (asked : List ℕ) (n : ℕ) → map_has new asked n ≡ cond (is_number_in name number asked n) has (map_has old asked n)

-- all but this number of a name is as it was
abbrev pub KeepsIn : List ℕ → ℕ → Numbers → Numbers → Type 0
KeepsIn name number old new = (asked : List ℕ) (n : ℕ) → is_number_in name number asked n ≡ false → map_has new asked n ≡ map_has old asked n

abbrev pub PutsName : List ℕ → ℕ → Bool → Names → Names → Type 0
PutsName name number has old new =
    (asked : Option (List ℕ)) (n : ℕ) → names_have new asked n ≡ cond (is_number_of name number asked n) has (names_have old asked n)

abbrev pub KeepsName : List ℕ → ℕ → Names → Names → Type 0
KeepsName name number old new = (asked : Option (List ℕ)) (n : ℕ) → is_number_of name number asked n ≡ false → names_have new asked n ≡ names_have old asked n

-- a key and a name have got this number or lost it, and all else is as it was
abbrev pub PutsKey : List ℕ → List ℕ → ℕ → Bool → Keyed → Keyed → Type 0
PutsKey key name number has old new =
    (asked : List ℕ) (named : Option (List ℕ)) (n : ℕ)
    → keys_have new asked named n ≡ cond (is_hit asked named n (number, (key, name))) has (keys_have old asked named n)

-- all but this number of a key and a name is as it was
abbrev pub KeepsKey : List ℕ → List ℕ → ℕ → Keyed → Keyed → Type 0
KeepsKey key name number old new =
    (asked : List ℕ) (named : Option (List ℕ)) (n : ℕ) → is_hit asked named n (number, (key, name)) ≡ false → keys_have new asked named n ≡ keys_have old asked named n

-- a name is there only with a number
abbrev pub HasNoBareName : Numbers → Type 0
HasNoBareName names = (name : List ℕ) → ((n : ℕ) → map_has names name n ≡ false) → lookup (bytes_eq name) names ≡ None

-- a key is there only with a number, and each of its names too
pub record HasNoBareKey (keys : Keyed) : Type 0 where
  pub keyed : (key : List ℕ) → ((name : Option (List ℕ)) (n : ℕ) → keys_have keys key name n ≡ false) → lookup (bytes_eq key) keys ≡ None
  pub named : (key : List ℕ) (names : Names) → lookup (bytes_eq key) keys ≡ Some names → HasNoBareName names.by_name.entries

-- a number is there, and it is the least above another one
pub record IsLeast (has : ℕ → Bool) (after n : ℕ) : Type 0 where
  pub above : after < n
  pub there : has n ≡ true
  pub least : (m : ℕ) → after < m → m < n → has m ≡ false

-- the least number above another one, where there is one
abbrev pub IsNextNumber : (ℕ → Bool) → ℕ → Option ℕ → Type 0
IsNextNumber has after next = MatchOption next ((m : ℕ) → after < m → has m ≡ false) (IsLeast has after)
