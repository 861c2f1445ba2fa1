-- What has happened of a recording so far, and what comes next.
use Rattle.std.specs.Prelude.{◌≡◌, ℕ, ◌<◌, true, List, [], ◌∷◌, ◌++◌, length, All}
use Rattle.sw_data.specs.declared.answers.Answer.TheVariants as answer
use Rattle.sw_data.specs.declared.events.Event.{Event}
use Rattle.sw_data.specs.declared.events.Event.TheVariants as event
use Rattle.sw_data.specs.declared.events.Who.TheVariants as who
use Rattle.sw_data.specs.declared.histories.Entry.{Entry}
use Rattle.sw_data.specs.declared.recordings.FetchLine.{FetchLine}
use Rattle.sw_data.specs.declared.storage.Kept.{Kept}
use Rattle.sw_lane.specs.Left.{Left}
use Rattle.sw_lane.specs.Recorded.{AreLanesOf}
use Rattle.sw_rules.specs.History.{Legal, after}
use Rattle.sw_rules.specs.State.{State}
use Rattle.sw_rules.specs.Step.{enabled}
use Rattle.sw_store.specs.Groups.{IsEntry}
use Rattle.sw_turns.specs.Ways.{Goes, GoesInOrder, HasNextByPick, Way}

-- own: the entry of a restart from a content, acknowledged at this clock
abbrev pub opening_of : Kept → ℕ → Entry
opening_of base clock = record {
  pass = 0;
  who = who.Host;
  event = event.Restarted who.Host;
  answer = answer.Restarted (length base.registrations) (length base.caches);
  notices = [];
  stamp = clock;
}

-- own: a history of so many workers from a base that goes a way, and with one worker in its order; what it leaves of the lanes, and
-- the state that it leaves
pub record IsSoFar (workers : ℕ) (way : Way) (base : Kept) (history : List Entry) (lanes : List Left) (state : State) : Type 0 where
  pub legal : Legal base history
  pub follows : Goes way base history
  pub picked : workers ≡ 1 → GoesInOrder way base history
  pub passes : All (λ entry. entry.pass < workers) history
  pub lanes_are : AreLanesOf way.recording history lanes
  pub state_is : after base history ≡ state

-- own: an event comes next behind a history: it is enabled, and once some pass has made it the history goes on, and this is left of
-- the lanes
pub record ComesNext (workers : ℕ) (way : Way) (base : Kept) (history : List Entry) (lanes left : List Left) (state : State) (happened : Event) : Type 0 where
  pub is_enabled : enabled state happened ≡ true
  pub goes_on : (pass : ℕ) (entry : Entry) (new : State)
      → pass < workers → IsSoFar workers way base history lanes state
      → IsEntry happened pass state entry new
      → IsSoFar workers way base (history ++ entry ∷ []) left new

-- own: an event comes next behind each history, of whatever recording with these fetch lines, whose way has next what the pick order
-- has
pub record ComesByPick (workers : ℕ) (lines : List FetchLine) (lanes left : List Left) (state : State) (happened : Event) : Type 0 where
  pub is_enabled : enabled state happened ≡ true
  pub next : (way : Way) (base : Kept) (history : List Entry)
      → way.recording.fetches ≡ lines → HasNextByPick way history state
      → ComesNext workers way base history lanes left state happened
