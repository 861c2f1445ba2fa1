-- How many things each text has (own).
use Rattle.std.specs.Prelude.{◌≡◌, ℕ, ◌<◌, ◌≤◌, Bool, List, IfSome, bytes_eq, filter, length}
use Rattle.std.specs.Map.{lookup}
use Rattle.std.specs.Option.{unwrap_or}

-- own: texts, each with its count
abbrev pub Counts : Type 0
Counts = List (List ℕ × ℕ)

-- own: the count of a text, none where it isn't there
abbrev pub count_in : Counts → List ℕ → ℕ
count_in counts text = unwrap_or (lookup (bytes_eq text) counts) 0

-- own: how many things each text has, and for how many more there is room
pub record Tally : Type 0 where
  pub counts : Counts
  pub spare : ℕ

-- own: how many things a text has
abbrev pub count_of : Tally → List ℕ → ℕ
count_of tally text = count_in tally.counts text

-- own: the things of each text are the rows that pass its test
abbrev pub Tallies : {X : Type 0} → (List ℕ → X → Bool) → List X → Tally → Type 0
Tallies test rows tally = (text : List ℕ) → count_of tally text ≡ length (filter (test text) rows)

-- own: a text that is there has things, no more than this many
abbrev pub AreCounted : ℕ → Counts → Type 0
AreCounted most counts = (text : List ℕ) → IfSome (lookup (bytes_eq text) counts) (λ count. (0 < count) × (count ≤ most))
