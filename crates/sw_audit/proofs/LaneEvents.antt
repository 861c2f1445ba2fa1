-- The events of lanes.
use Rattle.std.proofs.Common.{◌≡◌, ◌∙◌, ℕ, true, false, List, [], ◌∷◌, ◌++◌, Option, Some, None, is_some, option_map, slice_get, refl, sym, ap, subst}
use Rattle.std.specs.Option.{option_map_or}
use Rattle.sw_data.specs.declared.events.Event.{Event}
use Rattle.sw_data.specs.declared.events.Who.{Who}
use Rattle.sw_data.specs.declared.events.Who.TheVariants as who
use Rattle.sw_data.specs.declared.histories.Entry.{Entry}
use Rattle.sw_data.specs.declared.recordings.Action.{Action}
use Rattle.sw_data.specs.declared.recordings.Recording.{Recording}
use Rattle.sw_data.specs.Events.{event_of_action}
use Rattle.sw_lane.specs.Left.{Left, action_of, at_of}
use Rattle.sw_lane.specs.Picked.{is_ready}
use Rattle.sw_lane.specs.Recorded.{AreLanesOf}
use Rattle.sw_lane.proofs.ActionEvents.{lines_of_action, unforced, who_of-event_of_action}
use Rattle.sw_lane.proofs.Following.{next_is}
use Rattle.sw_lane.proofs.Saying.{at_is}
use Rattle.sw_rules.specs.Picks.{HasLines, IsNextOfLane, is_host_forget, made_by, next_action}
use Rattle.sw_rules.specs.Recordings.{recorded_event}
use Rattle.sw_rules.specs.State.{State}
use Rattle.sw_rules.specs.Step.{enabled, step}
use Rattle.sw_rules.specs.Told.{Outcome}
use Rattle.sw_audit.specs.declared.marks.Mark.TheVariants as mark
use Rattle.sw_audit.specs.Taken.{IsTaken}

-- where its next action may not happen, nothing that a lane's mark names may
pub none_ready : (recording : Recording) (before : List Entry) (state : State) (lanes : List Left) (lane : ℕ) → AreLanesOf recording before lanes → is_ready state lanes lane ≡ false
    → (happened : Event) → next_action recording before lane ≡ Some happened → step state happened ≡ None
none_ready recording before state lanes lane ours none happened is =
    not_enabled (step state happened) (ap (λ (e : Option Event). option_map_or (enabled state) e false) (sym is ∙ next_is recording before lanes ours lane) ∙ none)
  where
    not_enabled : (o : Option Outcome) → is_some o ≡ false → o ≡ None
    not_enabled None fails = refl
    not_enabled (Some x) fails = cc

module _ (recording : Recording) (before : List Entry) (state : State) (lanes left : List Left) (lane : ℕ) (act : Action) (ours : AreLanesOf recording before lanes) where
  abbrev maker : Who
  maker = who.Lane lane (at_of lanes lane)

  abbrev happened : Event
  happened = event_of_action maker act

  -- what is taken of a lane
  pub is_taken : is_ready state lanes lane ≡ true → action_of lanes lane ≡ Some act
      → ((entry : Entry) → entry.who ≡ maker → AreLanesOf recording (before ++ entry ∷ []) left)
      → IsTaken recording before state (mark.Lane lane) left happened
  is_taken ready found goes = record {
    named = next;
    may = ap (λ (o : Option Action). option_map_or (enabled state) (option_map (event_of_action maker) o) false) (sym found) ∙ ready;
    following = λ entry is made. record {
      recorded = record {
        action =
            subst (λ (w : Who). IsNextOfLane recording before entry w) (sym (made ∙ who_of-event_of_action maker act))
            (position, ap (recorded_event recording lane) position ∙ next ∙ ap Some (sym is));
        lines = subst (λ (e : Event). HasLines recording state e) (sym is) (lines_of_action recording state maker act);
      };
      unforced = ap is_host_forget is ∙ unforced lane (at_of lanes lane) act;
    };
    lanes = λ entry made. goes entry (made ∙ who_of-event_of_action maker act);
  }
    where
      next : next_action recording before lane ≡ Some happened
      next = next_is recording before lanes ours lane ∙ ap (option_map (event_of_action maker)) found

      position : at_of lanes lane ≡ made_by lane before
      position = at_is before lane (slice_get recording.lanes lane) (slice_get lanes lane) (ours.each lane) (ap is_some found)
