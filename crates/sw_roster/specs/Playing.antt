-- Lines that are being played: where that stands, and what one more event or one more answer makes of it (own).
use Rattle.std.specs.Prelude.{◌≡◌, ◌+◌, ◌≤◌, ℕ, Bool, true, false, List, [], ◌∷◌, ◌++◌, reverse, length, drop, count_by, Option, Some, None, Result, Ok, Err}
use Rattle.sw_data.specs.declared.events.Event.{Event}
use Rattle.sw_data.specs.declared.histories.Entry.{Entry}
use Rattle.sw_data.specs.declared.recordings.FetchLine.{FetchLine}
use Rattle.sw_data.specs.Events.{who_of}
use Rattle.sw_readers.specs.declared.inputs.RosterLine.{RosterLine}
use Rattle.sw_roster.specs.Beats.{AreClosed, HasRoster, HaveCome, IsRecent, after_asked, entries_of, is_action, is_of_line, state_at}
use Rattle.sw_roster.specs.Members.{dropped, turned}
use Rattle.sw_roster.specs.declared.beats.Beat.{Beat}
use Rattle.sw_roster.specs.declared.beats.Beat.TheVariants as beat
use Rattle.sw_roster.specs.declared.beats.RosterAnswer.{RosterAnswer}
use Rattle.sw_roster.specs.declared.beats.RosterEnd.{RosterEnd}
use Rattle.sw_roster.specs.declared.beats.RosterEnd.TheVariants as ending
use Rattle.sw_roster.specs.declared.playing.Play.{Play}
use Rattle.sw_rules.specs.History.{IsOpening, Legal}
use Rattle.sw_rules.specs.Step.{Step}
use Rattle.sw_rules.specs.Storage.{nothing}
use Rattle.sw_rules.specs.Tasks.{ready_tasks}

-- the beats begin with the restart from no content
pub record HasBegun (beats : List Beat) : Type 0 where
  pub opening : Entry
  pub opens : IsOpening nothing opening
  pub are : beats ≡ beat.Happened opening ∷ []

-- the lines were played so far, and these are left
pub record IsPlayed (fetches : List FetchLine) (lines left : List RosterLine) (play : Play) : Type 0 where
  pub opening : Entry
  pub past : List Beat
  pub are : play.beats.items ≡ beat.Happened opening ∷ reverse past
  pub legal : Legal nothing (opening ∷ entries_of past)
  pub come : HaveCome fetches lines past
  pub state : state_at past ≡ play.roster.state
  pub recent : IsRecent past play.roster.recent
  pub closed : AreClosed past play.roster.state
  pub net : play.net ≡ fetches
  pub rest : left ≡ drop (count_by is_of_line past) lines
  pub at : play.at ≡ count_by is_action past
  pub made : play.made ≡ length (entries_of past)
  pub few : play.at ≤ play.made

-- one more event has happened, and then so many are of the lane
pub record HasHappened (happened : Event) (at : ℕ) (old new : Play) : Type 0 where
  pub entry : Entry
  pub event : entry.event ≡ happened
  pub maker : entry.who ≡ who_of happened
  pub step : Step old.roster.state happened entry.answer entry.notices new.roster.state
  pub recent : new.roster.recent ≡ dropped (turned happened entry.answer) old.roster.recent
  pub beats : new.beats.items ≡ old.beats.items ++ beat.Happened entry ∷ []
  pub made : new.made ≡ old.made + 1
  pub net : new.net ≡ old.net
  pub count : new.at ≡ at
  pub left : new.left ≡ old.left

-- what was asked has got its answer
pub record HasAnswered (asked : RosterLine) (reply : RosterAnswer) (old new : Play) : Type 0 where
  pub state : new.roster.state ≡ old.roster.state
  pub recent : new.roster.recent ≡ after_asked asked reply old.roster.recent
  pub beats : new.beats.items ≡ old.beats.items ++ beat.Asked asked reply ∷ []
  pub made : new.made ≡ old.made
  pub net : new.net ≡ old.net
  pub at : new.at ≡ old.at
  pub left : new.left ≡ old.left

-- all ready tasks have happened; or one is left, and no more entries are made
abbrev pub HasSettled : {E : Type 0} → List FetchLine → (lines left : List RosterLine) → Play → Result Bool E → Type 0
HasSettled fetches lines left play (Ok true) =
    IsPlayed fetches lines left play × (ready_tasks play.roster.state ≡ [])
HasSettled fetches lines left play (Ok false) = HasRoster fetches lines play.beats.items ending.Spent
HasSettled fetches lines left play (Err why) = Unit {0}

-- a further line was taken, or the roster has ended
abbrev pub GoesOn : {E : Type 0} → List FetchLine → List RosterLine → Play → Result (Option RosterEnd) E → Type 0
GoesOn fetches lines play (Ok None) = IsPlayed fetches lines play.left.items play
GoesOn fetches lines play (Ok (Some over)) = HasRoster fetches lines play.beats.items over
GoesOn fetches lines play (Err why) = Unit {0}
