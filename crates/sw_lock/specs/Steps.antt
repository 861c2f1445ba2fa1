-- What each step of the lock tells the pass that makes it.
use Rattle.std.specs.Prelude.{◌≡◌, ◌≢◌, ℕ, ◌+◌, ◌^◌, ◌<◌, ◌≤◌, List, [], ◌∷◌, ◌++◌, length, Option, Some, None}
use Rattle.atomic_table.specs.Table.{Me, Step, rest}
use Rattle.sw_lock.specs.declared.logged.Logged.{Ghosts}
use Rattle.sw_lock.specs.declared.view.View.{View}
use Rattle.sw_lock.specs.declared.view.Note.{Note}
use Rattle.sw_lock.specs.declared.view.Place.TheVariants.{Away, Out, Counted}
use Rattle.sw_lock.specs.Entries.{ThenOwn, ThenOthers}
use Rattle.sw_lock.specs.Turns.{Knows}

-- a seat at the lock's table: its view, and the value while the turn is its own
abbrev pub Sat : Type 0 → Type 0 → Type 0
Sat V E = Me (Option V) (View V E)

abbrev pub At : Type 0 → Type 0
At V = Step (Option V)

module _ {V E : Type 0} where
  -- own: the first view, of a pass that has seen what the value has
  abbrev pub newcomer : (V → List E) → V → View V E
  newcomer log opened = record {
    opened = Some opened;
    number = 0;
    ticket = None;
    place = Away;
    seen = log opened;
    known = length (log opened);
    turns = 0;
    passes = 1;
    made = 1;
    joined = [];
  }

  -- own: the view that gave a further pass its number
  abbrev pub gave : View V E → View V E
  gave v = record v { made = v.made + 1 }

  -- own: the view of the further pass
  abbrev pub further : View V E → View V E
  further v = record v { number = v.made; ticket = None; place = Away; turns = 0; passes = 1; made = 0; joined = [] }

  -- own: what a view keeps of itself once another holds it
  abbrev pub note : View V E → Note E
  note v = record { number = v.number; seen = v.seen; known = v.known }

  -- own: a view that stands for the passes of another too
  abbrev pub together : View V E → View V E → View V E
  together v w = record v { turns = v.turns + w.turns; passes = v.passes + w.passes; joined = (v.joined ++ note w ∷ []) ++ w.joined }

  -- own: the view of a seat that stands for no pass
  abbrev pub gone : View V E
  gone = record { opened = None; number = 0; ticket = None; place = Away; seen = []; known = 0; turns = 0; passes = 0; made = 0; joined = [] }

  -- own: the seat of a pass that stands for itself alone and makes no turn
  pub record IsIdle (m : Sat V E) : Type 0 where
    pub empty : m.1 ≡ []
    pub ticket : m.0.ticket ≡ None
    pub place : m.0.place ≡ Away
    pub alone : m.0.passes ≡ 1
    pub joined : m.0.joined ≡ []

  -- own: the seat of the first pass, once it made so many views
  abbrev pub IsFirst : (V → List E) → V → ℕ → Sat V E → Type 0
  IsFirst log opened made m = m ≡ (record (newcomer log opened) { made = made }, [])

  -- own: the seat with this ticket, which is one turn more
  abbrev pub with_ticket : Sat V E → ℕ → Sat V E
  with_ticket m ticket = (record m.0 { ticket = Some ticket; turns = m.0.turns + 1 }, m.1)

  -- own: the seat without ticket, place and value
  abbrev pub without : Sat V E → Sat V E
  without m = (record m.0 { ticket = None; place = Away }, rest m.1)

  -- own: a ticket was drawn
  abbrev pub drew : At V → Sat V E → ℕ → Sat V E → Type 0
  drew st m r n = n ≡ with_ticket m r

  -- own: the turn is over, and the value is at home
  abbrev pub passed : At V → Sat V E → ℕ → Sat V E → Type 0
  passed st m r n = n ≡ without m

  -- own: the number of entries was read
  abbrev pub looked : At V → Sat V E → ℕ → Sat V E → Type 0
  looked st m r n = (n ≡ (record m.0 { known = r }, m.1)) × (length m.0.seen ≤ m.0.known) × (m.0.known ≤ r)

module _ {V E G O : Type 0} (g : Ghosts V E G O) where
  -- own: the pass has the value, and has seen its history
  abbrev pub holding : View V E → V → View V E
  holding v x = record v { place = Out; seen = g.log x; known = length (g.log x) }

  -- own: the pass has seen the history of the value that it has, and its entries are counted
  abbrev pub counting : Sat V E → V → Sat V E
  counting m x = (record m.0 { place = Counted; seen = g.log x; known = length (g.log x) }, m.1)

  -- own: the pass has the value, whose history goes on from what the pass had seen with entries of others
  pub record Found (m : Sat V E) (x : V) (n : Sat V E) : Type 0 where
    pub seat : n ≡ (holding m.0 x, (0, Some x) ∷ m.1)
    pub knows : Knows g.maker m.0.number m.0.seen m.0.known (g.log x)
    pub base_is : (opened : V) → m.0.opened ≡ Some opened → (g.base x ≡ g.base opened) × (m.0.number < g.passes (g.base opened))

  -- own: where the ticket that is served is the pass's own, it has the value; else nothing changed
  abbrev pub saw : At V → Sat V E → ℕ → Sat V E → Type 0
  saw st m r n = (m.0.ticket ≡ Some r → (x : V) × Found m x n) × (m.0.ticket ≢ Some r → n ≡ m)

  -- own: the entries that the step made are in the history
  abbrev pub tallied : At V → Sat V E → ℕ → Sat V E → Type 0
  tallied st m r n = (x : V) → m.1 ≡ (0, Some x) ∷ [] → n ≡ counting m x

  -- own: a step of the pass made this value and this answer, and so many entries
  pub record Advanced (x : V) (given : G) (pass : ℕ) (y : V) (answer : O) (added : ℕ) : Type 0 where
    pub base_is : g.base y ≡ g.base x
    pub own : ThenOwn g.maker pass (g.log x) (g.log y)
    pub steps_are : g.steps x given pass y answer
    pub added_are : length (g.log y) ≡ length (g.log x) + added
    pub small : length (g.log y) < 2 ^ 64

  -- own: one turn of a seat. The value that it took had the base of the start, and a history that goes on from what the seat
  -- had seen with entries of others; the step made of it a value whose history goes on with entries of this pass
  pub record Took (opened : V) (m : Sat V E) (given : G) (answer : O) (n : Sat V E) : Type 0 where
    pub before : V
    pub after : V
    pub base_is : g.base before ≡ g.base opened
    pub others : ThenOthers g.maker m.0.number m.0.seen (g.log before)
    pub own : ThenOwn g.maker m.0.number (g.log before) (g.log after)
    pub steps_are : g.steps before given m.0.number after answer
    pub known : m.0.known ≤ length (g.log after)
    pub seat : n ≡ (record m.0 { ticket = None; place = Away; seen = g.log after; known = length (g.log after); turns = m.0.turns + 1 }, [])
