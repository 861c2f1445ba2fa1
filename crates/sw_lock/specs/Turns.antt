-- The rule of the lock: three words, one slot and the views of all passes, between any two steps.
use Rattle.std.specs.Prelude.{◌≡◌, ◌≢◌, ◌⊎◌, ℕ, ◌+◌, ◌*◌, ◌^◌, ◌<◌, ◌≤◌, List, [], ◌∷◌, length, All, Option, Some}
use mathlib.Core.Option.{some, none}
use mathlib.Core.Option as maybe
use lib.ListN.{get_elem?}
use Rattle.atomic_table.specs.Table.{State}
use Rattle.sw_lock.specs.declared.logged.Logged.{Ghosts}
use Rattle.sw_lock.specs.declared.view.View.{View}
use Rattle.sw_lock.specs.declared.view.Place.TheVariants.{Away}
use Rattle.sw_lock.specs.Entries.{ThenOthers}

module _ {V E : Type 0} where
  -- own: the view of the seat with this number
  abbrev pub Has : List (View V E) → ℕ → View V E → Type 0
  Has views id v = get_elem? views id ≡ some v

  -- own: that seat has drawn this ticket and hasn't passed on yet
  abbrev pub Draws : List (View V E) → ℕ → ℕ → Type 0
  Draws views id ticket = (v : View V E) × Has views id v × (v.ticket ≡ Some ticket)

  -- own: that view stands for no pass any more
  abbrev pub Spent : List (View V E) → ℕ → Type 0
  Spent views id = (v : View V E) × Has views id v × (v.passes ≡ 0)

  -- own: a number of each view, added up
  abbrev pub total : (View V E → ℕ) → List (View V E) → ℕ
  total f [] = 0
  total f (v ∷ vs) = f v + total f vs

  -- own: the tickets in the views are distinct, and are the numbers from the one that is served up to the next one.
  -- Only the pass that is served has a place in the turn
  pub record Tickets (views : List (View V E)) (next served : ℕ) : Type 0 where
    pub ordered : served ≤ next
    pub within : (id ticket : ℕ) → Draws views id ticket → (served ≤ ticket) × (ticket < next)
    pub distinct : (id other ticket : ℕ) → Draws views id ticket → Draws views other ticket → id ≡ other
    pub each : (ticket : ℕ) → served ≤ ticket → ticket < next → (id : ℕ) × Draws views id ticket
    pub holder : (id : ℕ) (v : View V E) → Has views id v → v.place ≢ Away → v.ticket ≡ Some served

  -- own: the turns of the views are together the tickets drawn, and the passes that they stand for are as many as the views
  pub record Counts (views : List (View V E)) (next most : ℕ) : Type 0 where
    pub turns : total (λ v. v.turns) views ≡ next
    pub stand : total (λ v. v.passes) views ≡ length views
    pub bound : (id : ℕ) (v : View V E) → Has views id v → v.turns ≤ 2 ^ 40 * v.passes
    pub few : length views ≤ most
    pub most_is : most ≤ 64

module _ {E : Type 0} (maker : E → ℕ) where
  -- own: what a pass knows is true of the history: what it has seen begins it, the rest has no entry of that pass,
  -- and the number that it was given lies between
  pub record Knows (number : ℕ) (seen : List E) (known : ℕ) (history : List E) : Type 0 where
    pub others : ThenOthers maker number seen history
    pub least : length seen ≤ known
    pub most : known ≤ length history

  -- own: what a view says that stands for a pass
  pub record Stands {V : Type 0} (opened : V) (views : List (View V E)) (history : List E) (id : ℕ) (v : View V E) : Type 0 where
    pub number : v.number ≡ id
    pub start : v.opened ≡ Some opened
    pub own : Knows v.number v.seen v.known history
    pub joined : All (λ n. Knows n.number n.seen n.known history × Spent views n.number) v.joined
    pub first : id ≡ 0
        → (v.made ≡ length views) × ((k : ℕ) → length views ≤ k → ThenOthers maker k v.seen history)

  -- own: each view that stands for a pass says what is true
  abbrev pub AllStand : {V : Type 0} → V → List (View V E) → List E → Type 0
  AllStand {V} opened views history =
      (id : ℕ) (v : View V E) → Has views id v → 0 < v.passes → Stands opened views history id v

module _ {V E G O : Type 0} (g : Ghosts V E G O) where
  -- own: the value is at home, with this history and the base of the start, and no pass has a place in a turn;
  -- or it is out with one pass, whose `seen` is the history
  abbrev pub Slot : V → List (maybe.Option (Option V)) → List (View V E) → List E → Type 0
  Slot opened homes views history =
      ((x : V)
      × (homes ≡ some (Some x) ∷ [])
      × (g.base x ≡ g.base opened)
      × (g.log x ≡ history)
      × ((id : ℕ) (v : View V E) → Has views id v → v.place ≡ Away))
      ⊎ ((id : ℕ)
      × (v : View V E)
      × (homes ≡ none ∷ [])
      × Has views id v
      × (v.place ≢ Away)
      × (v.seen ≡ history)
      × (0 < v.passes))

  -- own: the rule, for the value that the lock was opened with and the number of passes that were made
  pub record Kept (opened : V) (made : ℕ) (s : State (Option V) (View V E)) : Type 0 where
    pub next : ℕ
    pub served : ℕ
    pub history : List E
    pub words : s.words ≡ length history ∷ next ∷ served ∷ []
    pub tickets : Tickets s.views next served
    pub told : made ≡ g.passes (g.base opened)
    pub counts : Counts s.views next made
    pub slot : Slot opened s.homes s.views history
    pub views : AllStand g.maker opened s.views history

  -- own: the value at the end has the base of the start, and what this view and those that joined it know is true of it
  pub record IsEnd (opened : V) (v : View V E) (value : V) : Type 0 where
    pub base : g.base value ≡ g.base opened
    pub own : Knows g.maker v.number v.seen v.known (g.log value)
    pub joined : All (λ n. Knows g.maker n.number n.seen n.known (g.log value)) v.joined
