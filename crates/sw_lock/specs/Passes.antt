-- What clauses see of the lock, of its passes, and of one turn.
use Rattle.std.specs.Prelude.{◌≡◌, ◌+◌, ℕ, List, [], map, length, Option, Some, None}
use Rattle.sw_lock.specs.declared.logged.Logged.{Ghosts}
use Rattle.sw_lock.specs.declared.pass.Pass.{Pass}
use Rattle.sw_lock.specs.declared.pass.Spent.{Spent}
use Rattle.sw_lock.specs.declared.lock.Shared.{Shared}
use Rattle.atomic_table.specs.declared.shared.Seat.{Seat}
use Rattle.sw_lock.specs.declared.view.View.{View}
use Rattle.sw_lock.specs.declared.view.Place.TheVariants.{Away}
use Rattle.sw_lock.specs.Steps.{note}
use Rattle.sw_lock.specs.Entries.{ThenOwn, ThenOthers}

-- own: the number of the lock whose pass is spent
abbrev pub lock_of : Spent → ℕ
lock_of spent = spent.lock

module _ {T E G O : Type 0} where
  -- own: the value as it was when the lock was made with it
  abbrev pub opened_of : Shared T E G O → T
  opened_of lock = lock.table.shared.key.opened.value

  -- own: how many passes were made
  abbrev pub made_of : Shared T E G O → ℕ
  made_of lock = lock.table.shared.key.made

  -- own: the number that the lock was made with
  abbrev pub number_of : Shared T E G O → ℕ
  number_of lock = lock.table.shared.key.number

module _ {T E G O : Type 0} {g : Ghosts T E G O} where
  -- own: the number of the pass, which its entries carry
  abbrev pub number : Pass T E G O g → ℕ
  number p = p.seat.me.0.number

  -- own: the history as far as the pass has seen it
  abbrev pub seen : Pass T E G O g → List E
  seen p = p.seat.me.0.seen

  -- own: the largest number of entries that the pass was told
  abbrev pub known : Pass T E G O g → ℕ
  known p = p.seat.me.0.known

  -- own: how many turns the pass has made
  abbrev pub turns : Pass T E G O g → ℕ
  turns p = p.seat.me.0.turns

  -- own: the pass was made with this lock
  abbrev pub IsPassOf : Shared T E G O → Pass T E G O g → Type 0
  IsPassOf lock p = (p.seat.table_id ≡ lock.table.shared.table_id) × (p.seat.me.0.opened ≡ Some (opened_of lock))

  -- own: a pass of this lock that has seen what the value has, and has made no turn
  pub record IsNew (lock : Shared T E G O) (p : Pass T E G O g) : Type 0 where
    pub pass : IsPassOf lock p
    pub seen : seen p ≡ g.log (opened_of lock)
    pub known : known p ≡ length (g.log (opened_of lock))
    pub turns : turns p ≡ 0

  -- own: nothing that a clause sees of the pass changed
  pub record IsSame (old new : Pass T E G O g) : Type 0 where
    pub number : number new ≡ number old
    pub seen : seen new ≡ seen old
    pub known : known new ≡ known old
    pub turns : turns new ≡ turns old

  -- own: one turn. The value that the pass took had the base of the start, and a history that goes on from what the pass had seen
  -- with entries of other passes only. The step made of it a value whose history goes on with entries of this pass only,
  -- and that history is what the pass has seen then
  pub record Turned (lock : Shared T E G O) (old new : Pass T E G O g) (given : G) (answer : O) : Type 0 where
    pub before : T
    pub after : T
    pub base : g.base before ≡ g.base (opened_of lock)
    pub others : ThenOthers g.maker (number old) (seen old) (g.log before)
    pub own : ThenOwn g.maker (number old) (g.log before) (g.log after)
    pub steps : g.steps before given (number old) after answer
    pub seen : seen new ≡ g.log after

  -- own: a seat that stands for this pass and for those
  pub record IsGathered (first : Pass T E G O g) (others : List (Pass T E G O g)) (seat : Seat (Option T) (View T E)) : Type 0 where
    pub empty : seat.me.1 ≡ []
    pub ticket : seat.me.0.ticket ≡ None
    pub place : seat.me.0.place ≡ Away
    pub stands : seat.me.0.passes ≡ length others + 1
    pub own : note seat.me.0 ≡ note first.seat.me.0
    pub joined : seat.me.0.joined ≡ map (λ p. note p.seat.me.0) others
