-- What a recording comes to by the definitions alone: the transcript of the history that the pick order fixes from nothing, and the text of what it keeps.
use Rattle.std.specs.Prelude.{ℕ, zero, suc, Bool, true, false, ◌==◌, bytes_eq, reverse, if◌then◌else◌, List, [], ◌∷◌, ◌++◌, length, not, is_none, Some, None, Ok, Err}
use Rattle.std.specs.List.{range_with_len, find}
use Rattle.sw_data.specs.declared.events.Event.{Event}
use Rattle.sw_data.specs.declared.events.Event.TheVariants as event
use Rattle.sw_data.specs.declared.events.Who.TheVariants as who
use Rattle.sw_data.specs.declared.histories.End.{End}
use Rattle.sw_data.specs.declared.histories.End.TheVariants as end
use Rattle.sw_data.specs.declared.histories.Entry.{Entry}
use Rattle.sw_data.specs.declared.recordings.Recording.{Recording}
use Rattle.sw_data.specs.declared.storage.Change.{Change}
use Rattle.sw_data.specs.declared.storage.Change.TheVariants as change
use Rattle.sw_data.specs.Events.{who_of}
use Rattle.sw_forms.specs.Refusals.{refusal_text}
use Rattle.sw_print.specs.Showing.{shown}
use Rattle.sw_print.specs.Transcript.{transcript}
use Rattle.sw_record.specs.Grammar.{recording_of}
use Rattle.sw_rules.specs.Durable.{durable}
use Rattle.sw_rules.specs.History.{restart_answer}
use Rattle.sw_rules.specs.Picks.{next, next_action}
use Rattle.sw_rules.specs.Restart.{restart}
use Rattle.sw_rules.specs.State.{State}
use Rattle.sw_rules.specs.Step.{step}
use Rattle.sw_rules.specs.Storage.{kept_after, nothing}
use Rattle.sw_rules.specs.Told.{Outcome}

-- what is printed by a replay, by showing what its changes kept, and by showing the durable part of its last state
pub record Printed : Type 0 where
  pub transcript : List ℕ
  pub shown : List ℕ
  pub durable : List ℕ

-- a history, the state that it leaves, and the changes on the way
pub record Played : Type 0 where
  pub history : List Entry
  pub state : State
  pub changes : List Change

-- the entry of an event that came to this
abbrev entry_of : Event → Outcome → Entry
entry_of happened outcome = record {
  pass = 0;
  who = who_of happened;
  event = happened;
  answer = outcome.answer;
  notices = outcome.told.notices;
  stamp = 0;
}

-- a restart from a content that some changes made
abbrev pub opened : List Change → Played
opened changes =
    let state = restart (kept_after nothing changes) in
    record {
      history =
          record {
            pass = 0;
            who = who.Host;
            event = event.Restarted who.Host;
            answer = restart_answer state;
            notices = [];
            stamp = 0;
          } ∷ [];
      state = state;
      changes = changes ++ change.Restarted ∷ [];
    }

-- one more event
abbrev pub with_event : Played → Event → Outcome → Played
with_event played happened outcome = record {
  history = played.history ++ entry_of happened outcome ∷ [];
  state = outcome.told.state;
  changes = played.changes ++ outcome.told.changes;
}

-- what the pick order makes of a recording, in at most so many further events
abbrev pub played : Recording → ℕ → Played → Played
played recording zero so_far = so_far
played recording (suc more) so_far =
    elim (next recording so_far.history so_far.state) [
      | None ↦ so_far
      | Some happened ↦
          elim (step so_far.state happened) [
            | None ↦ so_far
            | Some outcome ↦ played recording more (with_event so_far happened outcome)
          ]
    ]

-- how a history has ended at which nothing is next: at the lowest lane with actions left, or done
abbrev pub ending : Recording → List Entry → End
ending recording history =
    elim (find (λ lane. not (is_none (next_action recording history lane))) (range_with_len 0 (length recording.lanes))) [
      | Some lane ↦ end.Stalled lane
      | None ↦ end.Done
    ]

abbrev printed : Recording → Played → Printed
printed recording whole = record {
  transcript = transcript whole.history (ending recording whole.history);
  shown = shown (kept_after nothing whole.changes);
  durable = shown (durable whole.state);
}

-- what a source's bytes come to, after a restart from a content that some changes made
abbrev pub replayed_from : List Change → List ℕ → Printed
replayed_from changes bytes =
    elim (recording_of bytes) [
      | Ok recording ↦ printed recording (played recording 100000 (opened changes))
      | Err why ↦ record {
        transcript = refusal_text why;
        shown = shown (kept_after nothing changes);
        durable = shown (kept_after nothing changes);
      }
    ]

-- what a source's bytes come to, from nothing
abbrev pub replayed : List ℕ → Printed
replayed bytes = replayed_from [] bytes

-- the lines of a text, each with its line feed
abbrev text_lines : List ℕ → List ℕ → List (List ℕ)
text_lines so_far [] = []
text_lines so_far (b ∷ rest) =
    if b == 10 then reverse (10 ∷ so_far) ∷ text_lines [] rest else text_lines (b ∷ so_far) rest

-- these stand among those, in this order
abbrev stand_among : List (List ℕ) → List (List ℕ) → Bool
stand_among [] lines = true
stand_among (wanted ∷ more) [] = false
stand_among (wanted ∷ more) (line ∷ lines) =
    if bytes_eq wanted line then stand_among more lines else stand_among (wanted ∷ more) lines

-- a text has these lines, in this order
abbrev pub has_lines : List (List ℕ) → List ℕ → Bool
has_lines wanted text = stand_among wanted (text_lines [] text)
