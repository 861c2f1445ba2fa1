-- What a pick says of what comes next.
use Rattle.std.proofs.Common.{◌≡◌, ◌∙◌, ℕ, Bool, true, false, not, List, [], ◌∷◌, Option, Some, None, length, option_map, slice_get, refl, sym, ap, arith, ◌==◌, if◌then◌else◌}
use Rattle.std.specs.Prelude.{option_and_then, is_some}
use Rattle.std.specs.Option.{option_map_or}
use Rattle.std.specs.List.{list_any, range_with_len}
use Rattle.std.proofs.lemmas.Bool.Decides.{nat_tests}
use Rattle.std.proofs.lemmas.Option.{slice_get_within}
use Rattle.sw_data.specs.declared.events.Event.{Event}
use Rattle.sw_data.specs.declared.events.Who.TheVariants as who
use Rattle.sw_data.specs.declared.histories.Entry.{Entry}
use Rattle.sw_data.specs.declared.histories.Task.{Task}
use Rattle.sw_data.specs.declared.recordings.Action.{Action}
use Rattle.sw_data.specs.declared.recordings.Recording.{Recording}
use Rattle.sw_data.specs.Events.{event_of_action}
use Rattle.sw_rules.specs.Picks.{first_enabled, first_task_event, made_by, next, next_action}
use Rattle.sw_rules.specs.State.{State}
use Rattle.sw_rules.specs.Step.{enabled}
use Rattle.sw_rules.specs.Tasks.{event_of, ready_tasks}
use Rattle.sw_lane.specs.declared.picks.Pick.{Pick}
use Rattle.sw_lane.specs.declared.picks.Pick.TheVariants as pick
use Rattle.sw_lane.specs.declared.picks.Work.TheVariants as work
use Rattle.sw_lane.specs.Left.{Left, action_of, at_of}
use Rattle.sw_lane.specs.Picked.{event_left, is_ready, is_task, lane_left, picked, ready_lane, task_left}
use Rattle.sw_lane.specs.Recorded.{AreLanesOf, Says, left_after}
use Rattle.sw_lane.proofs.Finding.{find_first, find_passes, none_lower, none_there, nothing_first}
use Rattle.sw_lane.proofs.Following.{enabled_is, next_is}

-- what may happen is there
there : {X Y : Type 0} (test : Y → Bool) (f : X → Y) (got : Option X) → option_map_or test (option_map f got) false ≡ true → is_some got ≡ true
there test f None is = absurd cc
there test f (Some x) is = refl

-- what is not there gives nothing
gone : {X Y : Type 0} (f : X → Y) (got : Option X) → is_some got ≡ false → option_map f got ≡ None
gone f None is = refl
gone f (Some x) is = absurd cc

-- what gives nothing is not there
absent : {X Y : Type 0} (f : X → Y) (got : Option X) → option_map f got ≡ None → is_some got ≡ true → ⊥
absent f None none is = absurd cc
absent f (Some x) none is = absurd cc

-- a lane with actions left goes on at the number of its entries
pub at_is : (history : List Entry) (number : ℕ) (actions : Option (List Action)) (left : Option Left)
    → left ≡ option_map (left_after history number) actions
    → is_some (option_and_then (λ (lane : Left). slice_get lane.actions 0) left) ≡ true
    → option_map_or (λ (lane : Left). lane.at) left 0 ≡ made_by number history
at_is history number None None is some = absurd cc
at_is history number None (Some lane) is some = absurd cc
at_is history number (Some actions) left is some = rw is refl

-- no ready task is left, and none is in flight: none is ready
none_ready : (state : State) (in_flight : List Task) → in_flight ≡ [] → (ready : Option Task) → task_left state in_flight ≡ ready → slice_get (ready_tasks state) 0 ≡ ready
none_ready state in_flight empty ready is =
    sym (find_first (λ (task : Task). not (list_any (is_task task) [])) (λ task. refl) (ready_tasks state))
    ∙ ap (task_left state) (sym empty) ∙ is

nothing_flies : (in_flight : List Task) → (length in_flight == 0) ≡ true → in_flight ≡ []
nothing_flies [] is = refl
nothing_flies (task ∷ tasks) is = absurd (grind (arith, nat_tests, is))

something_flies : (in_flight : List Task) → (length in_flight == 0) ≡ false → in_flight ≡ [] → ⊥
something_flies [] is empty = absurd cc
something_flies (task ∷ tasks) is empty = absurd cc

module _ (recording : Recording) (history : List Entry) (lanes : List Left) (ours : AreLanesOf recording history lanes) (state : State) where
  -- the enabled action of the lowest lane is next, or else the first ready task
  comes : (first : Option Event) → first_enabled recording history state ≡ first
      → next recording history state ≡ option_map_or (λ happened. Some happened) first (first_task_event recording state)
  comes None is = ap (λ (o : Option Event). elim o [ Some happened ↦ Some happened | None ↦ first_task_event recording state ]) is
  comes (Some happened) is = ap (λ (o : Option Event). elim o [ Some happened ↦ Some happened | None ↦ first_task_event recording state ]) is

  enabled_at : (lane : Option ℕ) → ready_lane state lanes ≡ lane → first_enabled recording history state ≡ option_and_then (event_left lanes) lane
  enabled_at lane is = enabled_is recording history lanes ours state ∙ ap (option_and_then (event_left lanes)) is

  -- a lane that has no action left is at its end
  ended : (number : ℕ) → is_some (action_of lanes number) ≡ false → next_action recording history number ≡ None
  ended number none =
      next_is recording history lanes ours number
      ∙ gone (event_of_action (who.Lane number (at_of lanes number))) (action_of lanes number) none

  all_ended : lane_left lanes ≡ None → (number : ℕ) (got : Option Left) → slice_get lanes number ≡ got → is_some (action_of lanes number) ≡ false
  all_ended none number None is = ap (λ (o : Option Left). is_some (option_and_then (λ (lane : Left). slice_get lane.actions 0) o)) is
  all_ended none number (Some lane) is =
      none_there (λ number. is_some (action_of lanes number)) 0 (length lanes) none number (omega arith)
      (let within = slice_get_within lanes number lane is in omega (arith, within))

  said : (in_flight : List Task) (lane : Option ℕ) (ready : Option Task) (left : Option ℕ) (empty : Bool)
      → ready_lane state lanes ≡ lane → task_left state in_flight ≡ ready → lane_left lanes ≡ left → (length in_flight == 0) ≡ empty
      → Says recording history state in_flight lanes
      (option_map_or (λ lane. pick.Work (work.Action lane (at_of lanes lane))) lane
      (option_map_or (λ ready. pick.Work (work.Task ready)) ready
      (if empty then option_map_or pick.Stalled left pick.Done else pick.Idle)))
  said in_flight (Some lane) ready left empty its task rest flies =
      let passes : is_ready state lanes lane ≡ true = find_passes (is_ready state lanes) (range_with_len 0 (length lanes)) lane its in
      let some : is_some (action_of lanes lane) ≡ true =
      there (enabled state) (event_of_action (who.Lane lane (at_of lanes lane))) (action_of lanes lane) passes in
      record {
        left = some;
        position = at_is history lane (slice_get recording.lanes lane) (slice_get lanes lane) (ours.each lane) some;
        next = λ action is.
            comes (Some (event_of_action (who.Lane lane (at_of lanes lane)) action))
            (enabled_at (Some lane) its ∙ ap (option_map (event_of_action (who.Lane lane (at_of lanes lane)))) is);
      }
  said in_flight None (Some ready) left empty its task rest flies =
      λ none. comes None (enabled_at None its) ∙ ap (option_and_then (event_of recording state)) (none_ready state in_flight none (Some ready) task)
  said in_flight None None (Some lane) true its task rest flies = record {
    no_action = enabled_at None its;
    no_task = nothing_first (ready_tasks state) (none_ready state in_flight (nothing_flies in_flight flies) None task);
    left = λ none.
        absent (event_of_action (who.Lane lane (at_of lanes lane))) (action_of lanes lane)
        (sym (next_is recording history lanes ours lane) ∙ none)
        (find_passes (λ number. is_some (action_of lanes number)) (range_with_len 0 (length lanes)) lane rest);
    lowest = λ lower below.
        ended lower (none_lower (λ number. is_some (action_of lanes number)) 0 (length lanes) lane rest lower (omega arith) below);
  }
  said in_flight None None None true its task rest flies = record {
    lanes = λ lane. ended lane (all_ended rest lane (slice_get lanes lane) refl);
    tasks = nothing_first (ready_tasks state) (none_ready state in_flight (nothing_flies in_flight flies) None task);
  }
  said in_flight None None left false its task rest flies = something_flies in_flight flies

pub says : (recording : Recording) (history : List Entry) (lanes : List Left) (state : State) (in_flight : List Task) (picks : Pick)
    → picks ≡ picked state in_flight lanes → AreLanesOf recording history lanes → Says recording history state in_flight lanes picks
says recording history lanes state in_flight picks is ours =
    rw is (said recording history lanes ours state in_flight (ready_lane state lanes) (task_left state in_flight) (lane_left lanes) (length in_flight == 0) refl refl refl refl)
