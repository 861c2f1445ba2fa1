-- A transcript names one history.
use Rattle.std.specs.Prelude.{◌≡◌, ℕ, ◌≤◌, ◌^◌, List, [], ◌∷◌, length}
use Rattle.sw_data.specs.declared.histories.End.{End}
use Rattle.sw_data.specs.declared.histories.Entry.{Entry}
use Rattle.sw_data.specs.declared.recordings.Recording.{Recording}
use Rattle.sw_data.specs.declared.storage.Kept.{Kept}
use Rattle.sw_print.specs.Transcript.{transcript}
use Rattle.sw_rules.specs.History.{EachLater, Legal}
use Rattle.sw_rules.specs.Picks.{Follows}
use Rattle.sw_rules.specs.State.{State}

-- own: two entries are equal but for their passes and stamps
pub record IsSameEntry (one other : Entry) : Type 0 where
  pub event : one.event ≡ other.event
  pub answer : one.answer ≡ other.answer
  pub notices : one.notices ≡ other.notices

-- two histories are equal but for passes and stamps
abbrev pub IsSameHistory : List Entry → List Entry → Type 0
IsSameHistory [] [] = Unit {0}
IsSameHistory [] (entry ∷ rest) = ⊥
IsSameHistory (entry ∷ rest) [] = ⊥
IsSameHistory (one ∷ rest) (other ∷ others) = IsSameEntry one other × IsSameHistory rest others

-- own: a recording has at most so many lanes, and a state at most so many rows of each kind that events are about
pub record AreFew (most : ℕ) (recording : Recording) (state : State) : Type 0 where
  pub lanes : length recording.lanes ≤ most
  pub registrations : length state.registrations ≤ most
  pub workers : length state.workers ≤ most
  pub jobs : length state.jobs ≤ most
  pub tasks : length state.tasks ≤ most

-- the lanes of a recording and the rows of a state are numbered by 64 bits, as those in memory are (own)
abbrev pub IsNumberedBelow : Recording → State → Type 0
IsNumberedBelow recording state = AreFew (2 ^ 64) recording state

-- and so they are before each entry of a history but the first
abbrev pub FitsAlong : Recording → Kept → List Entry → Type 0
FitsAlong recording base history = EachLater (λ before state entry. IsNumberedBelow recording state) base history

-- one transcript names one history, of two that one fits (own)
abbrev pub NamesOneHistory : Type 0
NamesOneHistory =
    (base : Kept) (recording : Recording) (one other : List Entry) (ending : End)
    → FitsAlong recording base one
    → Legal base one → Legal base other → Follows recording base one → Follows recording base other
    → transcript one ending ≡ transcript other ending → IsSameHistory one other
