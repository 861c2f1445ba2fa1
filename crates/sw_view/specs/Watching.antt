-- A value that publishes the entries of each of its steps (own).
use Rattle.std.specs.Prelude.{◌≡◌, ◌⊎◌, ℕ, true, List}
use mathlib.Core.List.{IsPrefix}
use Rattle.logbook.specs.Pages.{Book}
use Rattle.sw_data.specs.declared.histories.Entry.{Entry}
use Rattle.sw_data.specs.declared.storage.Kept.{Kept}
use Rattle.sw_view.specs.Views.{Published}
use Rattle.sw_lock.specs.declared.logged.Logged as logged
use Rattle.sw_view.specs.declared.mapped.Mapped.{Ghosts}

-- the value, and what is published
pub record Watching (T : Type 0) : Type 0 where
  pub value : T
  pub published : Published

-- what no step changes: the base of the value, and the book of what is published
pub record WatchBase (B : Type 0) : Type 0 where
  pub base : B
  pub book : Book

-- what is published goes on from the content, and begins the entries
pub record IsWatched (base : Kept) (entries : List Entry) (published : Published) : Type 0 where
  pub base_is : published.base ≡ base
  pub begins : IsPrefix published.entries entries

module _ {T G O : Type 0} (lock : logged.Ghosts T Entry G O) (mapped : Ghosts T G O) where
  -- what was not published yet is, and the answer stays
  pub record IsShown (left : T) (said : O) (after : Watching T) (out : O) : Type 0 where
    pub value : after.value ≡ left
    pub answer : out ≡ said
    pub entries : after.published.entries ≡ lock.log left

  -- there was no memory for that, and the value was stopped; what is published stays
  pub record IsStopped (left : T) (before after : Watching T) (out : O) : Type 0 where
    pub stopped : mapped.stops left after.value out
    pub over : mapped.is_over after.value ≡ true
    pub entries : after.published.entries ≡ before.published.entries

  -- the step of a pass: the value's own step, which leaves this of it and answers so; then what is published are all its entries, or
  -- there was no memory to publish them, and the value is stopped
  pub record HasStepped (before : Watching T) (given : G) (pass : ℕ) (after : Watching T) (out : O) : Type 0 where
    pub left : T
    pub said : O
    pub step : lock.steps before.value given pass left said
    pub log : lock.log after.value ≡ lock.log left
    pub then : IsShown left said after out ⊎ IsStopped left before after out
