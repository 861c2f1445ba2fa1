-- The list of notices that an event makes, and what it comes to.
use Rattle.std.specs.Prelude.{◌≡◌, ℕ, List, ◌++◌}
use Rattle.sw_data.specs.declared.answers.Notice.{Notice}
use Rattle.sw_rules.specs.State.{State}
use Rattle.sw_rules.specs.Told.{Told}

-- own: the notices so far, and for how many more there is room
pub record NoticeList : Type 0 where
  pub rows : List Notice
  pub spare : ℕ

-- own: a part of an algorithm happened: it leaves this state, and its notices stand behind those before it
pub record Did (told : Told) (before after : NoticeList) (new : State) : Type 0 where
  pub state : new ≡ told.state
  pub notices : after.rows ≡ before.rows ++ told.notices
