-- The lanes follow the history: what comes next, and what an entry leaves.
use Rattle.std.proofs.Common.{◌≡◌, ◌∙◌, ℕ, ◌+◌, Bool, true, false, List, [], ◌∷◌, ◌++◌, Option, Some, None, drop, get_or, length, map, option_map, slice_get, set, refl, sym, subst, ap, arith, ◌==◌, cond}
use Rattle.std.specs.Prelude.{option_and_then}
use Rattle.std.specs.Option.{option_map_or}
use Rattle.std.specs.List.{range_with_len}
use Rattle.std.proofs.lemmas.Bool.Decides.{nat_tests}
use Rattle.std.proofs.lemmas.List.{drop-drop, get_or-set_same, length-map, length-set, set-set}
use Rattle.std.proofs.lemmas.Option.{slice_get-map, slice_get_within}
use Rattle.std.proofs.lemmas.List.Sums.{sum_by_push}
use Rattle.sw_data.specs.declared.events.Who.{Who}
use Rattle.sw_data.specs.declared.histories.Entry.{Entry}
use Rattle.sw_data.specs.declared.recordings.Action.{Action}
use Rattle.sw_data.specs.declared.recordings.Recording.{Recording}
use Rattle.sw_data.specs.declared.events.Who.TheVariants as who
use Rattle.sw_data.specs.Events.{event_of_action, is_lane}
use Rattle.sw_rules.specs.Picks.{first_enabled, is_of_lane, made_by, next_action}
use Rattle.sw_rules.specs.State.{State}
use Rattle.sw_rules.specs.Step.{enabled}
use Rattle.sw_lane.specs.Left.{Left, action_of, begun, next_taken, taken}
use Rattle.sw_lane.specs.Picked.{event_left, ready_lane}
use Rattle.sw_lane.specs.Recorded.{AreLanesOf, left_after}
use Rattle.sw_lane.proofs.Finding.{find_given, front_of, set_here, set_same, set_there}

-- the next action of one lane
one_next : (history : List Entry) (number : ℕ) (actions : Option (List Action)) (left : Option Left)
    → left ≡ option_map (left_after history number) actions
    → option_map (event_of_action (who.Lane number (made_by number history))) (option_and_then (λ (xs : List Action). slice_get xs (made_by number history)) actions)
    ≡ option_map (event_of_action (who.Lane number (option_map_or (λ (lane : Left). lane.at) left 0))) (option_and_then (λ (lane : Left). slice_get lane.actions 0) left)
one_next history number None left is = rw is refl
one_next history number (Some actions) left is =
    rw is (ap (option_map (event_of_action (who.Lane number (made_by number history)))) (sym (front_of (made_by number history) actions)))

module _ (recording : Recording) (history : List Entry) (lanes : List Left) (ours : AreLanesOf recording history lanes) where
  -- the next action of a lane is the one that its lane goes on with
  pub next_is : (number : ℕ) → next_action recording history number ≡ event_left lanes number
  next_is number = one_next history number (slice_get recording.lanes number) (slice_get lanes number) (ours.each number)

  -- the first enabled action is that of the lowest lane whose next action may happen
  pub enabled_is : (state : State) → first_enabled recording history state ≡ option_and_then (event_left lanes) (ready_lane state lanes)
  enabled_is state =
      rw (sym ours.count) (find_given (enabled state) (next_action recording history) (event_left lanes) next_is (range_with_len 0 (length lanes)))

-- ---- what an entry leaves

made_more : (lane : ℕ) (history : List Entry) (entry : Entry)
    → made_by lane (history ++ entry ∷ []) ≡ made_by lane history + cond (is_of_lane lane entry.who) 1 0
made_more lane history entry = sum_by_push (λ (other : Entry). cond (is_of_lane lane other.who) 1 0) history entry

made_same : (lane : ℕ) (history : List Entry) (entry : Entry) → is_of_lane lane entry.who ≡ false → made_by lane (history ++ entry ∷ []) ≡ made_by lane history
made_same lane history entry other =
    let more : made_by lane (history ++ entry ∷ []) ≡ made_by lane history + 0 =
    made_more lane history entry ∙ ap (λ (mine : Bool). made_by lane history + cond mine 1 0) other in
    omega (arith, more)

-- a lane of which no more was made is left alike
left_alike : (before after : List Entry) (number : ℕ) (actions : Option (List Action)) → made_by number after ≡ made_by number before
    → option_map (left_after before number) actions ≡ option_map (left_after after number) actions
left_alike before after number actions same =
    ap (λ (made : ℕ). option_map (λ (xs : List Action). record { at = made; actions = drop made xs }) actions) (sym same)

-- a lane of which one more was made has moved
left_moved : (before after : List Entry) (number : ℕ) (actions : Option (List Action)) → made_by number after ≡ made_by number before + 1
    → option_map next_taken (option_map (left_after before number) actions) ≡ option_map (left_after after number) actions
left_moved before after number None more = refl
left_moved before after number (Some actions) more =
    ap (λ (xs : List Action). Some (record { at = made_by number before + 1; actions = xs })) (drop-drop 1 (made_by number before) actions)
    ∙ ap (λ (made : ℕ). Some (record { at = made; actions = drop made actions })) (sym more)

taken_here : (lanes : List Left) (number : ℕ) (got : Option Left) → slice_get lanes number ≡ got
    → slice_get (option_map_or (λ lane. set lanes number (next_taken lane)) got lanes) number ≡ option_map next_taken got
taken_here lanes number None is = is
taken_here lanes number (Some lane) is = set_here lanes number lane (next_taken lane) is

taken_there : (lanes : List Left) (number other : ℕ) (got : Option Left) → (number ≡ other → ⊥)
    → slice_get (option_map_or (λ lane. set lanes number (next_taken lane)) got lanes) other ≡ slice_get lanes other
taken_there lanes number other None apart = refl
taken_there lanes number other (Some lane) apart = set_there lanes number other (next_taken lane) apart

taken_count : (lanes : List Left) (number : ℕ) (got : Option Left)
    → length (option_map_or (λ lane. set lanes number (next_taken lane)) got lanes) ≡ length lanes
taken_count lanes number None = refl
taken_count lanes number (Some lane) = length-set lanes number (next_taken lane)

-- before any entry the lanes stand at their beginning
pub begins : (recording : Recording) (actions : List (List Action)) (lanes : List Left) → lanes ≡ map begun actions → recording.lanes ≡ actions → AreLanesOf recording [] lanes
begins recording actions lanes are same = record {
  count = ap length (are ∙ ap (map begun) (sym same)) ∙ length-map recording.lanes begun;
  each = λ number. ap (λ (all : List Left). slice_get all number) (are ∙ ap (map begun) (sym same)) ∙ slice_get-map begun recording.lanes number;
}

-- an entry of no lane leaves the lanes
pub stays : (recording : Recording) (history : List Entry) (lanes : List Left) (entry : Entry) → AreLanesOf recording history lanes
    → is_lane entry.who ≡ false → AreLanesOf recording (history ++ entry ∷ []) lanes
stays recording history lanes entry ours free = record {
  count = ours.count;
  each = λ number.
      ours.each number
      ∙ left_alike history (history ++ entry ∷ []) number (slice_get recording.lanes number)
      (made_same number history entry (of_none number entry.who free));
}
  where
    of_none : (number : ℕ) (maker : Who) → is_lane maker ≡ false → is_of_lane number maker ≡ false
    of_none number who.Host is = refl
    of_none number (who.Lane lane at) is = absurd cc
    of_none number (who.Handler worker phase call) is = refl

-- an entry of a lane is its next action: that lane has moved
pub goes_on : (recording : Recording) (history : List Entry) (lanes : List Left) (number : ℕ) (new : List Left) (entry : Entry) (at : ℕ) → new ≡ taken number lanes
    → AreLanesOf recording history lanes → entry.who ≡ who.Lane number at → AreLanesOf recording (history ++ entry ∷ []) new
goes_on recording history lanes number new entry at moves ours is = rw moves (record {
  count = taken_count lanes number (slice_get lanes number) ∙ ours.count;
  each = λ other. one other (number == other) refl;
})
  where
    mine : (other : ℕ) (same : Bool) → (number == other) ≡ same → is_of_lane other entry.who ≡ same
    mine other same tested = ap (is_of_lane other) is ∙ tested

    one : (other : ℕ) (same : Bool) → (number == other) ≡ same
        → slice_get (taken number lanes) other ≡ option_map (left_after (history ++ entry ∷ []) other) (slice_get recording.lanes other)
    one other true tested =
        let here : number ≡ other = grind (arith, nat_tests, tested) in
        subst (λ (n : ℕ). slice_get (taken number lanes) n ≡ option_map (left_after (history ++ entry ∷ []) n) (slice_get recording.lanes n)) here
        (taken_here lanes number (slice_get lanes number) refl
        ∙ ap (option_map next_taken) (ours.each number)
        ∙ left_moved history (history ++ entry ∷ []) number (slice_get recording.lanes number)
        (made_more number history entry ∙ ap (λ (b : Bool). made_by number history + cond b 1 0) (mine number true (grind (arith, nat_tests)))))
    one other false tested =
        taken_there lanes number other (slice_get lanes number) (λ same. grind (arith, nat_tests, tested, same))
        ∙ ours.each other
        ∙ left_alike history (history ++ entry ∷ []) other (slice_get recording.lanes other)
        (made_same other history entry (mine other false tested))

-- an action that is put back is where it was
pub returned : (before lanes : List Left) (number : ℕ) (action : Action) (was new : Left) (got : Option Left) → slice_get before number ≡ got
    → taken number before ≡ lanes → action_of before number ≡ Some action → was ≡ get_or lanes number was
    → ((left : Left) → next_taken left ≡ was → slice_get left.actions 0 ≡ Some action → new ≡ left) → set lanes number new ≡ before
returned before lanes number action was new None is took acts now back =
    let none : None ≡ Some action = sym (ap (option_and_then (λ (lane : Left). slice_get lane.actions 0)) is) ∙ acts in
    absurd cc
returned before lanes number action was new (Some left) is took acts now back =
    let are : lanes ≡ set before number (next_taken left) =
    sym took ∙ ap (λ (o : Option Left). option_map_or (λ lane. set before number (next_taken lane)) o before) is in
    let was_is : was ≡ next_taken left =
    now ∙ ap (λ (all : List Left). get_or all number was) are ∙ get_or-set_same before number (next_taken left) was (slice_get_within before number left is) in
    let new_is : new ≡ left =
    back left (sym was_is) (sym (ap (option_and_then (λ (lane : Left). slice_get lane.actions 0)) is) ∙ acts) in
    ap (λ (all : List Left). set all number new) are ∙ set-set before number (next_taken left) new
    ∙ ap (set before number) new_is ∙ set_same before number left is
